-- Rings that stand for lists: where their places are, and that the lists are the ones shown.
use Rattle.std.proofs.Common.{◌≡◌, ◌≢◌, ℕ, ◌<◌, List, [], ◌∷◌, ◌++◌, sym, ◌∙◌, subst, inl, inr, ◌⊎◌, arith, refl}
use Rattle.std.proofs.lemmas.Bool.{cases_lt}
use Rattle.std.proofs.lemmas.List.{get_or_past}
use Rattle.std.proofs.lemmas.List.Elements.{Contains-append_left, Contains-append_right}
use Rattle.std.proofs.lemmas.List.FromFn.{fill_by_all}
use Rattle.std.specs.List.{Contains}
use Rattle.link_lists.specs.declared.rings.RingPlace.{RingPlace}
use Rattle.link_lists.specs.declared.rings.RingPlace.TheVariants.{Node, End}
use Rattle.link_lists.specs.declared.rings.Neighbours.{Neighbours}
use Rattle.link_lists.specs.declared.rings.Rings.{Rings}
use Rattle.link_lists.specs.Lists.{list_at, IsFree, IsLinks}
use Rattle.link_lists.specs.Rings.{Joins, IsRingPlace, Chain, StandsFor, neighbours, place_after, place_before, nodes_from, lists_of}
use Rattle.link_lists.proofs.Members.{not_in_nil, in_rest, in_middle, length-distinct}
use Rattle.link_lists.proofs.Chains.{Misses, misses_node, node_not_end, end_not_node, same_node, same_end, chain_kept, chain_left, chain_right, before_stop, after_start, node_after_start, end_after_start, nodes_from-chain}

-- only the lists there are have numbers
pub list_in_range : {N L : ℕ} {links : List (List ℕ)} → IsLinks N L links → (i n : ℕ) → Contains (list_at links i) n → i < L
list_in_range {N} {L} {links} all i n h =
    elim (cases_lt i L) [
      | inl within ↦ within
      | inr past ↦
          let none : list_at links i ≡ [] = get_or_past links i [] (omega (arith, all.count)) in
          absurd (not_in_nil n (subst (λ ns. Contains ns n) none h))
    ]

-- the rings stand for no other lists than those that are read off
pub lists_of-stands : {N L : ℕ} {r : Rings N L} {links : List (List ℕ)} → StandsFor r links → lists_of r ≡ links
lists_of-stands {N} {L} {r} {links} s =
    sym (fill_by_all (λ i. nodes_from r N (place_after r (End i))) links L [] s.shape.count
    (λ i within. sym (nodes_from-chain r N (End i) (list_at links i) i (s.rings i within) (length-distinct (list_at links i) N (s.shape.distinct i) (s.shape.below i)))))

-- so the invariant is shown by any lists that the rings stand for
pub stands_shown : {N L : ℕ} {r : Rings N L} {links : List (List ℕ)} → StandsFor r links → StandsFor r (lists_of r)
stands_shown {N} {L} {r} {links} s = subst (StandsFor r) (sym (lists_of-stands s)) s

-- the first node of a list stands after its end, or the end itself where the list is empty
pub first_node : {N L : ℕ} {r : Rings N L} {links : List (List ℕ)} (i n : ℕ) → StandsFor r links → i < L → place_after r (End i) ≡ Node n → (ns : List ℕ) × (list_at links i ≡ n ∷ ns)
first_node {N} {L} {r} {links} i n s within is = node_after_start r (End i) (list_at links i) i n (s.rings i within) is

pub no_first_node : {N L : ℕ} {r : Rings N L} {links : List (List ℕ)} (i k : ℕ) → StandsFor r links → i < L → place_after r (End i) ≡ End k → list_at links i ≡ []
no_first_node {N} {L} {r} {links} i k s within is = (end_after_start r (End i) (list_at links i) i k (s.rings i within) is).1

-- the place is in the ring of list i
pub record IsOn (links : List (List ℕ)) (i : ℕ) (p : RingPlace) : Type 0 where
  pub on : (p ≡ End i) ⊎ ((n : ℕ) × Contains (list_at links i) n × (p ≡ Node n))

pub on_place : {N L : ℕ} {links : List (List ℕ)} {i : ℕ} {p : RingPlace} → IsLinks N L links → i < L → IsOn links i p → IsRingPlace N L p
on_place {N} {L} {links} {i} {p} all within o =
    elim o.on [
      | inl is ↦ subst (IsRingPlace N L) (sym is) within
      | inr (n, h, is) ↦ subst (IsRingPlace N L) (sym is) (all.below i n h)
    ]

pub on_end : (links : List (List ℕ)) (i : ℕ) → IsOn links i (End i)
on_end links i = record { on = inl refl }

pub on_node : (links : List (List ℕ)) (i n : ℕ) → Contains (list_at links i) n → IsOn links i (Node n)
on_node links i n h = record { on = inr (n, h, refl) }

pub on_before_end : {N L : ℕ} {r : Rings N L} {links : List (List ℕ)} (s : StandsFor r links) (i : ℕ) → i < L → IsOn links i (place_before r (End i))
on_before_end {N} {L} {r} {links} s i within =
    record { on = before_stop r (End i) (list_at links i) (End i) (s.rings i within) }

pub on_after_end : {N L : ℕ} {r : Rings N L} {links : List (List ℕ)} (s : StandsFor r links) (i : ℕ) → i < L → IsOn links i (place_after r (End i))
on_after_end {N} {L} {r} {links} s i within =
    record { on = after_start r (End i) (list_at links i) (End i) (s.rings i within) }

-- so these are places
pub place_before_end : {N L : ℕ} {r : Rings N L} {sides : Neighbours} (i : ℕ) → StandsFor r (lists_of r) → i < L → sides ≡ neighbours r (End i) → IsRingPlace N L sides.before
place_before_end {N} {L} {r} {sides} i s within is =
    subst (λ v. IsRingPlace N L v.before) (sym is) (on_place s.shape within (on_before_end s i within))

pub place_after_end : {N L : ℕ} {r : Rings N L} {sides : Neighbours} (i : ℕ) → StandsFor r (lists_of r) → i < L → sides ≡ neighbours r (End i) → IsRingPlace N L sides.after
place_after_end {N} {L} {r} {sides} i s within is =
    subst (λ v. IsRingPlace N L v.after) (sym is) (on_place s.shape within (on_after_end s i within))

-- the ring of a list around one of its nodes
pub ring_at : {N L : ℕ} {r : Rings N L} {links : List (List ℕ)} (s : StandsFor r links) (i n : ℕ) (before after : List ℕ) → i < L → list_at links i ≡ before ++ n ∷ after → Chain r (End i) (before ++ n ∷ after) (End i)
ring_at {N} {L} {r} {links} s i n before after within split =
    subst (λ ns. Chain r (End i) ns (End i)) split (s.rings i within)

pub in_list : (links : List (List ℕ)) (i n : ℕ) (before after : List ℕ) → list_at links i ≡ before ++ n ∷ after → Contains (list_at links i) n
in_list links i n before after split = subst (λ ns. Contains ns n) (sym split) (in_middle n before after)

pub on_before_node : {N L : ℕ} {r : Rings N L} {links : List (List ℕ)} (s : StandsFor r links) (i n : ℕ) (before after : List ℕ) → i < L → list_at links i ≡ before ++ n ∷ after → IsOn links i (place_before r (Node n))
on_before_node {N} {L} {r} {links} s i n before after within split =
    let front = chain_left r (End i) before n after (End i) (ring_at s i n before after within split) in
    elim (before_stop r (End i) before (Node n) front) [
      | inl is ↦ record { on = inl is }
      | inr (m, h, is) ↦ record { on = inr (m, subst (λ ns. Contains ns m) (sym split) (Contains-append_left before (n ∷ after) m h), is) }
    ]

pub on_after_node : {N L : ℕ} {r : Rings N L} {links : List (List ℕ)} (s : StandsFor r links) (i n : ℕ) (before after : List ℕ) → i < L → list_at links i ≡ before ++ n ∷ after → IsOn links i (place_after r (Node n))
on_after_node {N} {L} {r} {links} s i n before after within split =
    let back = chain_right r (End i) before n after (End i) (ring_at s i n before after within split) in
    elim (after_start r (Node n) after (End i) back) [
      | inl is ↦ record { on = inl is }
      | inr (m, h, is) ↦ record { on = inr (m, subst (λ ns. Contains ns m) (sym split) (Contains-append_right before (n ∷ after) m (in_rest m n after h)), is) }
    ]

-- the place is not in the ring of list i
pub record IsOff (links : List (List ℕ)) (i : ℕ) (p : RingPlace) : Type 0 where
  pub end : End i ≢ p
  pub nodes : Misses (list_at links i) p

-- a place in one ring is in no other
pub off_other : {N L : ℕ} {links : List (List ℕ)} {i k : ℕ} {p : RingPlace} → IsLinks N L links → k ≢ i → IsOn links i p → IsOff links k p
off_other {N} {L} {links} {i} {k} {p} all other o =
    record {
      end = λ same. elim o.on [
        | inl is ↦ other (same_end k i (same ∙ is))
        | inr (n, h, is) ↦ end_not_node k n (same ∙ is)
      ];
      nodes = record {
        miss = λ m in_k same. elim o.on [
          | inl is ↦ node_not_end m i (same ∙ is)
          | inr (n, h, is) ↦
              let one : m ≡ n = same_node m n (same ∙ is) in
              other (all.apart k i n (subst (Contains (list_at links k)) one in_k) h)
        ];
      };
    }

-- a free node is in no ring of a list
pub off_free : (links : List (List ℕ)) (i n : ℕ) → IsFree links n → IsOff links i (Node n)
off_free links i n free = record { end = end_not_node i n; nodes = misses_node (list_at links i) n (free i) }

pub free_not_on : {links : List (List ℕ)} {i : ℕ} {p : RingPlace} (m : ℕ) → IsFree links m → IsOn links i p → Node m ≢ p
free_not_on {links} {i} {p} m free o same =
    elim o.on [
      | inl is ↦ node_not_end m i (same ∙ is)
      | inr (n, h, is) ↦ free i (subst (Contains (list_at links i)) (sym (same_node m n (same ∙ is))) h)
    ]

-- a ring stays where a join is off it
pub ring_kept : {N L : ℕ} {old new : Rings N L} {p q : RingPlace} {links : List (List ℕ)} {k : ℕ} → Joins old new p q → IsOff links k p → IsOff links k q → Chain old (End k) (list_at links k) (End k) → Chain new (End k) (list_at links k) (End k)
ring_kept {links = links} {k = k} j first second c =
    chain_kept j (End k) (list_at links k) (End k) first.end first.nodes second.nodes second.end c
