-- What putting a node at the end of a list leaves.
use Rattle.std.proofs.Common.{◌≡◌, ◌≢◌, ◌↔◌, ℕ, ◌<◌, List, [], ◌∷◌, ◌++◌, length, set, ap, sym, ◌∙◌, subst, inl, inr, arith}
use Rattle.std.proofs.lemmas.Bool.{cases_eq}
use Rattle.std.proofs.lemmas.List.Elements.{Contains-push_cases, Contains-append_left, Contains-push}
use Rattle.std.specs.List.{Contains}
use Rattle.link_lists.specs.declared.rings.RingPlace.TheVariants.{Node, End}
use Rattle.link_lists.specs.declared.rings.Neighbours.{Neighbours}
use Rattle.link_lists.specs.declared.rings.Rings.{Rings}
use Rattle.link_lists.specs.Lists.{list_at, IsFree, KeepsOthers, IsLinks}
use Rattle.link_lists.specs.Rings.{Joins, Chain, StandsFor, neighbours, place_before, lists_of}
use Rattle.link_lists.proofs.Members.{not_in_nil, distinct_nil, distinct_cons, distinct_append}
use Rattle.link_lists.proofs.Shapes.{list_at-set, list_at-same, list_at-other, IsLinks-set}
use Rattle.link_lists.proofs.Chains.{misses_node, misses_end, node_not_end, end_not_node, same_node, chain_kept, chain_append, chain_to}
use Rattle.link_lists.proofs.Stands.{lists_of-stands, stands_shown, on_before_end, on_end, off_other, off_free, free_not_on, ring_kept}

-- the lists afterwards
abbrev pub pushed : List (List ℕ) → ℕ → ℕ → List (List ℕ)
pushed links i n = set links i (list_at links i ++ n ∷ [])

shape : {N L : ℕ} {links : List (List ℕ)} (i n : ℕ) → IsLinks N L links → i < L → n < N → IsFree links n → IsLinks N L (pushed links i n)
shape {N} {L} {links} i n all within below free =
    IsLinks-set links i (list_at links i ++ n ∷ []) all within
    (λ m h. elim (Contains-push_cases (list_at links i) n m h) [
      | inl old ↦ all.below i m old
      | inr same ↦ subst (λ k. k < N) same below
    ])
    (distinct_append (list_at links i) (n ∷ []) (all.distinct i) (distinct_cons n [] (not_in_nil n) distinct_nil)
    (λ k left right. elim (Contains-push_cases [] n k right) [
      | inl none ↦ not_in_nil k none
      | inr same ↦ free i (subst (Contains (list_at links i)) (sym same) left)
    ]))
    (λ j m other h there. elim (Contains-push_cases (list_at links i) n m h) [
      | inl old ↦ other (all.apart j i m there old)
      | inr same ↦ free j (subst (Contains (list_at links j)) (sym same) there)
    ])

pub stands_pushed : {N L : ℕ} {r r₁ r₂ : Rings N L} {links : List (List ℕ)} (i n : ℕ) → StandsFor r links → i < L → n < N → IsFree links n → Joins r r₁ (place_before r (End i)) (Node n) → Joins r₁ r₂ (Node n) (End i) → StandsFor r₂ (pushed links i n)
stands_pushed {N} {L} {r} {r₁} {r₂} {links} i n s within below free one two =
    let ns = list_at links i in
    let all = s.shape in
    let inside : i < length links = omega (arith, all.count) in
    let on_last = on_before_end s i within in
    let clear = misses_node ns n (free i) in
    let first : Chain r₁ (End i) ns (Node n) = chain_to (End i) ns (End i) one (all.distinct i) (misses_end ns i) clear (s.rings i within) in
    let second : Chain r₂ (End i) ns (Node n) = chain_kept two (End i) ns (Node n) (end_not_node i n) clear (misses_end ns i) (node_not_end n i) first in
    let whole : Chain r₂ (End i) (ns ++ n ∷ []) (End i) = chain_append r₂ (End i) ns n [] (End i) second (record { after = two.after_first; before = two.before_second }) in
    record {
      shape = shape i n all within below free;
      rings = λ k k_within. elim (list_at-set links i (ns ++ n ∷ []) k inside) [
        | inl (same, is) ↦
            subst (λ l. Chain r₂ (End k) l (End k)) (sym is) (subst (λ j. Chain r₂ (End j) (ns ++ n ∷ []) (End j)) (sym same) whole)
        | inr (other, is) ↦
            let off_last = off_other all other on_last in
            let off_node = off_free links k n free in
            let off_end = off_other all other (on_end links i) in
            subst (λ l. Chain r₂ (End k) l (End k)) (sym is) (ring_kept two off_node off_end (ring_kept one off_last off_node (s.rings k k_within)))
      ];
      alone = λ m m_below m_free.
          let other : m ≢ n = λ same. m_free i (subst (Contains (list_at (pushed links i n) i)) (sym same) (subst (λ l. Contains l n) (sym (list_at-same links i (ns ++ n ∷ []) inside)) (Contains-push ns n))) in
          let was_free : IsFree links m = λ k h. elim (list_at-set links i (ns ++ n ∷ []) k inside) [
            | inl (same, is) ↦ m_free k (subst (λ l. Contains l m) (sym is) (Contains-append_left ns (n ∷ []) m (subst (λ j. Contains (list_at links j) m) same h)))
            | inr (elsewhere, is) ↦ m_free k (subst (λ l. Contains l m) (sym is) h)
          ] in
          two.after_others (Node m) (λ same. other (same_node m n same)) ∙ (one.after_others (Node m) (free_not_on m was_free on_last) ∙ s.alone m m_below was_free);
    }

-- what the fields show afterwards
pub record Pushes {N L : ℕ} (links : List (List ℕ)) (i n : ℕ) (r : Rings N L) : Type 0 where
  pub stands : StandsFor r (lists_of r)
  pub pushed_at : list_at (lists_of r) i ≡ list_at links i ++ n ∷ []
  pub others : (k : ℕ) → k ≢ i → list_at (lists_of r) k ≡ list_at links k
  pub kept : KeepsOthers links (lists_of r) n

pub pushes : {N L : ℕ} {r r₁ r₂ : Rings N L} {links : List (List ℕ)} {last : Neighbours} (i n : ℕ) → StandsFor r (lists_of r) → lists_of r ≡ links → i < L → n < N → IsFree links n → last ≡ neighbours r (End i) → Joins r r₁ last.before (Node n) → Joins r₁ r₂ (Node n) (End i) → Pushes links i n r₂
pushes {N} {L} {r} {r₁} {r₂} {links} {last} i n stood shown within below free is one two =
    let s : StandsFor r links = subst (StandsFor r) shown stood in
    let joined : Joins r r₁ (place_before r (End i)) (Node n) = subst (λ p. Joins r r₁ p (Node n)) (ap (λ v. v.before) is) one in
    let after = stands_pushed i n s within below free joined two in
    let inside : i < length links = omega (arith, s.shape.count) in
    let pushed_at : list_at (lists_of r₂) i ≡ list_at links i ++ n ∷ [] =
    ap (λ l. list_at l i) (lists_of-stands after) ∙ list_at-same links i (list_at links i ++ n ∷ []) inside in
    let others : (k : ℕ) → k ≢ i → list_at (lists_of r₂) k ≡ list_at links k =
    λ k other. ap (λ l. list_at l k) (lists_of-stands after) ∙ list_at-other links i (list_at links i ++ n ∷ []) k other in
    record {
      stands = stands_shown after;
      pushed_at = pushed_at;
      others = others;
      kept = λ k m other. elim (cases_eq k i) [
        | inl same ↦ subst (λ j. Contains (list_at (lists_of r₂) j) m ↔ Contains (list_at links j) m) (sym same) (
          λ h. elim (Contains-push_cases (list_at links i) n m (subst (λ l. Contains l m) pushed_at h)) [
            | inl old ↦ old
            | inr it ↦ absurd (other (sym it))
          ],
          λ h. subst (λ l. Contains l m) (sym pushed_at) (Contains-append_left (list_at links i) (n ∷ []) m h),
        )
        | inr elsewhere ↦
            (λ h. subst (λ l. Contains l m) (others k elsewhere) h, λ h. subst (λ l. Contains l m) (sym (others k elsewhere)) h)
      ];
    }
