-- The walk to the end of a number's list.
use Rattle.std.proofs.Common.{◌≡◌, ℕ, ◌+◌, ◌<◌, List, [], ◌∷◌, ◌++◌, Some, None, length, ap, sym, ◌∙◌, subst, inl, inr, arith, append_assoc, slice_get}
use Rattle.std.specs.List.{Contains}
use Rattle.link_lists.specs.declared.rings.RingPlace.TheVariants.{Node, End}
use Rattle.link_lists.specs.declared.rings.Neighbours.{Neighbours}
use Rattle.link_lists.specs.declared.rings.Rings.{Rings}
use Rattle.link_lists.specs.Lists.{list_at, IsFree, IsLinks}
use Rattle.link_lists.specs.Rings.{StandsFor, neighbours, place_after, nodes_from}
use Rattle.link_lists.proofs.Reading.{split_get, headed, contains_from_get, get_from_contains, linked_or_free, linked_from_end, end_is, next_is, left_after}

-- where the walk is, it is in the list that it began in, if that is any
pub record Walks (nodes : ℕ) (links : List (List ℕ)) (node last : ℕ) : Type 0 where
  pub below : last < nodes
  pub together : (i : ℕ) → Contains (list_at links i) node → Contains (list_at links i) last
  pub still : IsFree links node → last ≡ node

-- a number and the one after it in a list
pub record Follows (links : List (List ℕ)) (last next : ℕ) : Type 0 where
  pub linked : (i k : ℕ) → slice_get (list_at links i) k ≡ Some last → Some next ≡ slice_get (list_at links i) (k + 1)
  pub free : IsFree links last → Some next ≡ None

pub walks_on : {N L : ℕ} {links : List (List ℕ)} {node last next : ℕ} → IsLinks N L links → Walks N links node last → Follows links last next → Walks N links node next
walks_on {N} {L} {links} {node} {last} {next} all w f =
    let ahead : (i : ℕ) → Contains (list_at links i) last → Contains (list_at links i) next =
    λ i h. let found = get_from_contains last (list_at links i) h in
    contains_from_get (list_at links i) (found.0 + 1) next (sym (f.linked i found.0 found.1)) in
    record {
      below = elim (linked_or_free all last) [
        | inl linked ↦ all.below linked.0 next (ahead linked.0 linked.1)
        | inr free ↦ let never = f.free free in cc
      ];
      together = λ i h. ahead i (w.together i h);
      still = λ node_free.
          let last_free : IsFree links last = subst (IsFree links) (sym (w.still node_free)) node_free in
          let never = f.free last_free in cc;
    }

pub walk_shorter : {N L : ℕ} {r : Rings N L} {links : List (List ℕ)} {last next : ℕ} → StandsFor r links → Follows links last next → length (nodes_from r N (place_after r (Node next))) < length (nodes_from r N (place_after r (Node last)))
walk_shorter {N} {L} {r} {links} {last} {next} s f =
    elim (linked_or_free s.shape last) [
      | inl linked ↦
          let i = linked.0 in
          let found = get_from_contains last (list_at links i) linked.1 in
          let parts = split_get (list_at links i) found.0 last found.1 in
          let rest = headed parts.1 next (sym (f.linked i found.0 found.1 ∙ parts.3)) in
          let onward : list_at links i ≡ (parts.0 ++ last ∷ []) ++ next ∷ rest.0 =
          parts.2 ∙ (ap (λ l. parts.0 ++ last ∷ l) rest.1 ∙ sym (append_assoc parts.0 (last ∷ []) (next ∷ rest.0))) in
          let before = left_after s i last parts.0 parts.1 parts.2 in
          let after = left_after s i next (parts.0 ++ last ∷ []) rest.0 onward in
          let longer : length parts.1 ≡ length (next ∷ rest.0) = ap length rest.1 in
          omega arith
      | inr free ↦ let never = f.free free in cc
    ]

pub walk_found : {N L : ℕ} {r : Rings N L} {links : List (List ℕ)} {sides : Neighbours} {node last : ℕ} (e : ℕ) → StandsFor r links → Walks N links node last → sides ≡ neighbours r (Node last) → sides.after ≡ End e → Contains (list_at links e) node
walk_found {N} {L} {r} {links} {sides} {node} {last} e s w is after =
    elim (linked_or_free s.shape node) [
      | inl linked ↦
          subst (λ i. Contains (list_at links i) node) (end_is last e linked.0 s is after (w.together linked.0 linked.1)) linked.1
      | inr free ↦
          let there = linked_from_end last e s w.below is after in
          absurd (subst (IsFree links) (sym (w.still free)) free there.0 there.1)
    ]

pub walk_free : {N L : ℕ} {r : Rings N L} {links : List (List ℕ)} {sides : Neighbours} {node last : ℕ} (m : ℕ) → StandsFor r links → Walks N links node last → sides ≡ neighbours r (Node last) → sides.after ≡ Node m → ((i k : ℕ) → slice_get (list_at links i) k ≡ Some last → None ≡ slice_get (list_at links i) (k + 1)) → IsFree links node
walk_free {N} {L} {r} {links} {sides} {node} {last} m s w is after none i h =
    let found = get_from_contains last (list_at links i) (w.together i h) in
    let one : Some m ≡ slice_get (list_at links i) (found.0 + 1) = next_is last m s is after i found.0 found.1 in
    let other : None ≡ slice_get (list_at links i) (found.0 + 1) = none i found.0 found.1 in
    cc
