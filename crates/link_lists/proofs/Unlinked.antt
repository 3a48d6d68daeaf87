-- What taking a node out of its list leaves.
use Rattle.std.proofs.Common.{◌≡◌, ◌≢◌, ◌↔◌, ℕ, ◌<◌, List, [], ◌∷◌, ◌++◌, length, set, eqb, ap, sym, ◌∙◌, subst, inl, inr, arith}
use Rattle.std.proofs.lemmas.Bool.{cases_eq}
use Rattle.std.proofs.lemmas.List.{append-nil}
use Rattle.std.specs.List.{Contains, IsDistinct}
use Rattle.link_lists.specs.declared.rings.RingPlace.TheVariants.{Node, End}
use Rattle.link_lists.specs.declared.rings.Neighbours.{Neighbours}
use Rattle.link_lists.specs.declared.rings.Rings.{Rings}
use Rattle.link_lists.specs.Lists.{list_at, without, IsFree, IsLinked, KeepsOthers}
use Rattle.link_lists.specs.Rings.{IsRingPlace, Joins, Chain, StandsFor, neighbours, place_before, place_after, lists_of}
use Rattle.link_lists.proofs.Members.{in_rest, in_here, in_sides, in_whole, split_at, one_split, distinct_left, distinct_right, distinct_rest, distinct_head, distinct_apart, distinct_sides, not_in_sides, without-absent, without-split}
use Rattle.link_lists.proofs.Shapes.{list_at-set, list_at-same, list_at-other, IsLinks-set}
use Rattle.link_lists.proofs.Chains.{misses_node, misses_end, node_not_end, end_not_node, same_node, chain_kept, chain_append, chain_left, chain_right, chain_to, not_before_stop}
use Rattle.link_lists.proofs.Stands.{lists_of-stands, stands_shown, list_in_range, ring_at, in_list, on_place, on_node, on_before_node, on_after_node, off_other, free_not_on, ring_kept}

-- the ring without the node, where its neighbours are joined
closed : {N L : ℕ} {old new : Rings N L} (i n : ℕ) (before after : List ℕ) → IsDistinct eqb (before ++ n ∷ after) → Chain old (End i) before (Node n) → Chain old (Node n) after (End i) → Joins old new (place_before old (Node n)) (place_after old (Node n)) → Chain new (End i) (before ++ after) (End i)
closed {N} {L} {old} {new} i n before [] distinct front back j =
    let joined : Joins old new (place_before old (Node n)) (End i) = subst (λ p. Joins old new (place_before old (Node n)) p) back.after j in
    let whole : Chain new (End i) before (End i) =
    chain_to (End i) before (Node n) joined (distinct_left before (n ∷ []) distinct) (misses_end before i) (misses_end before i) front in
    subst (λ l. Chain new (End i) l (End i)) (sym (append-nil before)) whole
closed {N} {L} {old} {new} i n before (m ∷ after) distinct front back j =
    let joined : Joins old new (place_before old (Node n)) (Node m) = subst (λ p. Joins old new (place_before old (Node n)) p) back.0.after j in
    let apart : (k : ℕ) → Contains before k → Contains (n ∷ m ∷ after) k → ⊥ = distinct_apart before (n ∷ m ∷ after) distinct in
    let tail : IsDistinct eqb (m ∷ after) = distinct_rest n (m ∷ after) (distinct_right before (n ∷ m ∷ after) distinct) in
    let beyond : (k : ℕ) → Contains (m ∷ after) k → Node k ≢ place_before old (Node n) =
    λ k h. not_before_stop old (End i) before (Node n) (Node k) front (node_not_end k i)
    (misses_node before k (λ again. apart k again (in_rest k n (m ∷ after) h))) in
    let left : Chain new (End i) before (Node m) =
    chain_to (End i) before (Node n) joined (distinct_left before (n ∷ m ∷ after) distinct) (misses_end before i)
    (misses_node before m (λ again. apart m again (in_rest m n (m ∷ after) (in_here m after)))) front in
    let right : Chain new (Node m) after (End i) =
    chain_kept joined (Node m) after (End i) (beyond m (in_here m after)) (record { miss = λ k h. beyond k (in_rest k m after h) })
    (misses_node after m (distinct_head m after tail)) (end_not_node i m) back.1 in
    chain_append new (End i) before m after (End i) left right

pub stands_unlinked : {N L : ℕ} {r r₁ r₂ : Rings N L} {links : List (List ℕ)} (i n : ℕ) (before after : List ℕ) → StandsFor r links → i < L → list_at links i ≡ before ++ n ∷ after → Joins r r₁ (place_before r (Node n)) (place_after r (Node n)) → Joins r₁ r₂ (Node n) (Node n) → StandsFor r₂ (set links i (before ++ after))
stands_unlinked {N} {L} {r} {r₁} {r₂} {links} i n before after s within split one two =
    let all = s.shape in
    let inside : i < length links = omega (arith, all.count) in
    let distinct : IsDistinct eqb (before ++ n ∷ after) = subst (IsDistinct eqb) split (all.distinct i) in
    let ring = ring_at s i n before after within split in
    let here : Contains (list_at links i) n = in_list links i n before after split in
    let on_first = on_before_node s i n before after within split in
    let on_second = on_after_node s i n before after within split in
    let on_it = on_node links i n here in
    let gone : Contains (before ++ after) n → ⊥ = not_in_sides n before after distinct in
    let first : Chain r₁ (End i) (before ++ after) (End i) =
    closed i n before after distinct (chain_left r (End i) before n after (End i) ring) (chain_right r (End i) before n after (End i) ring) one in
    let clear = misses_node (before ++ after) n gone in
    let whole : Chain r₂ (End i) (before ++ after) (End i) =
    chain_kept two (End i) (before ++ after) (End i) (end_not_node i n) clear clear (end_not_node i n) first in
    let in_old : (m : ℕ) → Contains (before ++ after) m → Contains (list_at links i) m =
    λ m h. subst (λ l. Contains l m) (sym split) (in_whole m n before after h) in
    record {
      shape = IsLinks-set links i (before ++ after) all within (λ m h. all.below i m (in_old m h)) (distinct_sides n before after distinct)
          (λ j m other h there. other (all.apart j i m there (in_old m h)));
      rings = λ k k_within. elim (list_at-set links i (before ++ after) k inside) [
        | inl (same, is) ↦
            subst (λ l. Chain r₂ (End k) l (End k)) (sym is) (subst (λ j. Chain r₂ (End j) (before ++ after) (End j)) (sym same) whole)
        | inr (other, is) ↦
            let off_it = off_other all other on_it in
            subst (λ l. Chain r₂ (End k) l (End k)) (sym is)
            (ring_kept two off_it off_it (ring_kept one (off_other all other on_first) (off_other all other on_second) (s.rings k k_within)))
      ];
      alone = λ m m_below m_free. elim (cases_eq m n) [
        | inl same ↦ subst (λ k. place_after r₂ (Node k) ≡ Node k) (sym same) two.after_first
        | inr other ↦
            let was_free : IsFree links m = λ k h. elim (list_at-set links i (before ++ after) k inside) [
              | inl (same, is) ↦
                  let in_it : Contains (before ++ n ∷ after) m = subst (λ l. Contains l m) split (subst (λ j. Contains (list_at links j) m) same h) in
                  m_free k (subst (λ l. Contains l m) (sym is) (in_sides m n before after (λ back. other (sym back)) in_it))
              | inr (elsewhere, is) ↦ m_free k (subst (λ l. Contains l m) (sym is) h)
            ] in
            two.after_others (Node m) (λ same. other (same_node m n same)) ∙ (one.after_others (Node m) (free_not_on m was_free on_first) ∙ s.alone m m_below was_free)
      ];
    }

-- what the fields show afterwards
pub record Unlinks {N L : ℕ} (links : List (List ℕ)) (n : ℕ) (r : Rings N L) : Type 0 where
  pub stands : StandsFor r (lists_of r)
  pub rest : (i : ℕ) → list_at (lists_of r) i ≡ without n (list_at links i)
  pub unlinked : (i : ℕ) (before after : List ℕ) → list_at links i ≡ before ++ n ∷ after → list_at (lists_of r) i ≡ before ++ after
  pub others : (i : ℕ) → (Contains (list_at links i) n → ⊥) → list_at (lists_of r) i ≡ list_at links i
  pub freed : IsFree (lists_of r) n
  pub kept : KeepsOthers links (lists_of r) n

pub unlinks : {N L : ℕ} {r r₁ r₂ : Rings N L} {links : List (List ℕ)} {sides : Neighbours} (n : ℕ) → StandsFor r (lists_of r) → lists_of r ≡ links → IsLinked links n → sides ≡ neighbours r (Node n) → Joins r r₁ sides.before sides.after → Joins r₁ r₂ (Node n) (Node n) → Unlinks links n r₂
unlinks {N} {L} {r} {r₁} {r₂} {links} {sides} n stood shown linked is one two =
    let s : StandsFor r links = subst (StandsFor r) shown stood in
    let i = linked.0 in
    let parts = split_at n (list_at links i) linked.1 in
    let before = parts.0 in
    let after = parts.1 in
    let split : list_at links i ≡ before ++ n ∷ after = parts.2 in
    let within = list_in_range s.shape i n linked.1 in
    let inside : i < length links = omega (arith, s.shape.count) in
    let joined : Joins r r₁ (place_before r (Node n)) (place_after r (Node n)) = subst (λ v. Joins r r₁ v.before v.after) is one in
    let stands = stands_unlinked i n before after s within split joined two in
    let now = lists_of-stands stands in
    let distinct : IsDistinct eqb (before ++ n ∷ after) = subst (IsDistinct eqb) split (s.shape.distinct i) in
    let at_others : (k : ℕ) → k ≢ i → list_at (lists_of r₂) k ≡ list_at links k =
    λ k other. ap (λ l. list_at l k) now ∙ list_at-other links i (before ++ after) k other in
    let at_it : list_at (lists_of r₂) i ≡ before ++ after = ap (λ l. list_at l i) now ∙ list_at-same links i (before ++ after) inside in
    record {
      stands = stands_shown stands;
      rest = λ k. elim (cases_eq k i) [
        | inl same ↦
            subst (λ j. list_at (lists_of r₂) j ≡ without n (list_at links j)) (sym same)
            (at_it ∙ (sym (without-split n before after distinct) ∙ sym (ap (without n) split)))
        | inr other ↦
            at_others k other ∙ sym (without-absent n (list_at links k) (λ h. other (s.shape.apart k i n h linked.1)))
      ];
      unlinked = λ k left right cut.
          let same : k ≡ i = s.shape.apart k i n (in_list links k n left right cut) linked.1 in
          let whole : before ++ n ∷ after ≡ left ++ n ∷ right = sym split ∙ subst (λ j. list_at links j ≡ left ++ n ∷ right) same cut in
          let equal = one_split n before after left right whole distinct in
          let front : before ≡ left = equal.0 in
          let back : after ≡ right = equal.1 in
          let both : before ++ after ≡ left ++ right = cc in
          subst (λ j. list_at (lists_of r₂) j ≡ left ++ right) (sym same) (at_it ∙ both);
      others = λ k none. at_others k (λ same. none (subst (λ j. Contains (list_at links j) n) (sym same) linked.1));
      freed = λ k h. elim (cases_eq k i) [
        | inl same ↦ not_in_sides n before after distinct (subst (λ l. Contains l n) (subst (λ j. list_at (lists_of r₂) j ≡ before ++ after) (sym same) at_it) h)
        | inr other ↦ other (s.shape.apart k i n (subst (λ l. Contains l n) (at_others k other) h) linked.1)
      ];
      kept = λ k m other. elim (cases_eq k i) [
        | inl same ↦ subst (λ j. Contains (list_at (lists_of r₂) j) m ↔ Contains (list_at links j) m) (sym same) (
          λ h. subst (λ l. Contains l m) (sym split) (in_whole m n before after (subst (λ l. Contains l m) at_it h)),
          λ h. subst (λ l. Contains l m) (sym at_it) (in_sides m n before after (λ back. other (sym back)) (subst (λ l. Contains l m) split h)),
        )
        | inr elsewhere ↦
            (λ h. subst (λ l. Contains l m) (at_others k elsewhere) h, λ h. subst (λ l. Contains l m) (sym (at_others k elsewhere)) h)
      ];
    }

-- a linked node and its neighbours are places
pub linked_below : {N L : ℕ} {r : Rings N L} {links : List (List ℕ)} (n : ℕ) → StandsFor r (lists_of r) → lists_of r ≡ links → IsLinked links n → n < N
linked_below {N} {L} {r} {links} n stood shown linked =
    let s : StandsFor r links = subst (StandsFor r) shown stood in
    s.shape.below linked.0 n linked.1

pub record ArePlaces (N L : ℕ) (sides : Neighbours) : Type 0 where
  pub before : IsRingPlace N L sides.before
  pub after : IsRingPlace N L sides.after

pub sides_are_places : {N L : ℕ} {r : Rings N L} {links : List (List ℕ)} {sides : Neighbours} (n : ℕ) → StandsFor r (lists_of r) → lists_of r ≡ links → IsLinked links n → sides ≡ neighbours r (Node n) → ArePlaces N L sides
sides_are_places {N} {L} {r} {links} {sides} n stood shown linked is =
    let s : StandsFor r links = subst (StandsFor r) shown stood in
    let i = linked.0 in
    let parts = split_at n (list_at links i) linked.1 in
    let within = list_in_range s.shape i n linked.1 in
    record {
      before = subst (λ v. IsRingPlace N L v.before) (sym is) (on_place s.shape within (on_before_node s i n parts.0 parts.1 within parts.2));
      after = subst (λ v. IsRingPlace N L v.after) (sym is) (on_place s.shape within (on_after_node s i n parts.0 parts.1 within parts.2));
    }
