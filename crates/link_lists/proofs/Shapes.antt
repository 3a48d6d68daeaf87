-- Lists of which one is replaced.
use Rattle.std.proofs.Common.{◌≡◌, ◌≢◌, ℕ, ◌<◌, List, [], length, set, eqb, sym, ◌∙◌, subst, inl, inr, ◌⊎◌, arith}
use Rattle.std.proofs.lemmas.Bool.{cases_eq}
use Rattle.std.proofs.lemmas.List.{get_or-set_same, get_or-set_other, length-set}
use Rattle.std.specs.List.{IsDistinct, Contains}
use Rattle.link_lists.specs.Lists.{list_at, IsLinks}

pub list_at-same : (links : List (List ℕ)) (i : ℕ) (ns : List ℕ) → i < length links → list_at (set links i ns) i ≡ ns
list_at-same links i ns within = get_or-set_same links i ns [] within

pub list_at-other : (links : List (List ℕ)) (i : ℕ) (ns : List ℕ) (j : ℕ) → j ≢ i → list_at (set links i ns) j ≡ list_at links j
list_at-other links i ns j other = get_or-set_other links i j ns [] other

-- a list is the one replaced, or as before
pub list_at-set : (links : List (List ℕ)) (i : ℕ) (ns : List ℕ) (j : ℕ) → i < length links → ((j ≡ i) × (list_at (set links i ns) j ≡ ns)) ⊎ ((j ≢ i) × (list_at (set links i ns) j ≡ list_at links j))
list_at-set links i ns j within =
    elim (cases_eq j i) [
      | inl same ↦ inl (same, subst (λ k. list_at (set links i ns) k ≡ ns) (sym same) (list_at-same links i ns within))
      | inr other ↦ inr (other, list_at-other links i ns j other)
    ]

-- a list may be replaced by one of other numbers below the limit, that stand in no other list
pub IsLinks-set : {N L : ℕ} (links : List (List ℕ)) (i : ℕ) (ns : List ℕ) → IsLinks N L links → i < L → ((n : ℕ) → Contains ns n → n < N) → IsDistinct eqb ns → ((j n : ℕ) → j ≢ i → Contains ns n → Contains (list_at links j) n → ⊥) → IsLinks N L (set links i ns)
IsLinks-set {N} {L} links i ns old within below distinct apart =
    let inside : i < length links = omega (arith, old.count) in
    record {
      count = length-set links i ns ∙ old.count;
      below = λ j n h. elim (list_at-set links i ns j inside) [
        | inl (same, is) ↦ below n (subst (λ k. Contains k n) is h)
        | inr (other, is) ↦ old.below j n (subst (λ k. Contains k n) is h)
      ];
      distinct = λ j. elim (list_at-set links i ns j inside) [
        | inl (same, is) ↦ subst (IsDistinct eqb) (sym is) distinct
        | inr (other, is) ↦ subst (IsDistinct eqb) (sym is) (old.distinct j)
      ];
      apart = λ j k n in_j in_k. elim (list_at-set links i ns j inside) [
        | inl (same, is) ↦ elim (list_at-set links i ns k inside) [
          | inl (same', is') ↦ same ∙ sym same'
          | inr (other', is') ↦ absurd (apart k n other' (subst (λ l. Contains l n) is in_j) (subst (λ l. Contains l n) is' in_k))
        ]
        | inr (other, is) ↦ elim (list_at-set links i ns k inside) [
          | inl (same', is') ↦ absurd (apart j n other (subst (λ l. Contains l n) is' in_k) (subst (λ l. Contains l n) is in_j))
          | inr (other', is') ↦ old.apart j k n (subst (λ l. Contains l n) is in_j) (subst (λ l. Contains l n) is' in_k)
        ]
      ];
    }
