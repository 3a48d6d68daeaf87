-- What a log tells of each number.
use Rattle.std.proofs.Common.{◌≡◌, ◌≢◌, inl, inr, ℕ, zero, suc, ◌+◌, ◌*◌, ◌/◌, ◌^◌, ◌<◌, ap, subst, refl, arith, Bool}
use Rattle.std.proofs.lemmas.Bool.{cases_eq, cases_lt, ne_eqb, eq-eqb}
use Rattle.pmem_layout.specs.Fields.{log_count}
use Rattle.alloc_journal.specs.Format.{number_of, comes, redone, AreEntries}
use Rattle.alloc_journal.specs.Shows.{IsUnnamed}

-- a number stands as its entries and the base tell
pub redone_is : (entry : ℕ → ℕ) (n : ℕ) (before now : Bool) (count : ℕ)
    → ((i : ℕ) → i < count → number_of (entry i) ≡ n → comes (entry i) ≡ now)
    → (IsUnnamed entry 0 count n → before ≡ now) → redone entry n before count ≡ now
redone_is entry n before now zero named none = none (λ i low high. absurd (omega (arith, high)))
redone_is entry n before now (suc i) named none = elim (cases_eq (number_of (entry i)) n) [
  | inl here ↦ rw (eq-eqb (number_of (entry i)) n here) (named i (omega arith) here)
  | inr off ↦ rw (ne_eqb (number_of (entry i)) n off)
      (redone_is entry n before now i (λ j lt. named j (omega (arith, lt)))
      (λ rest. none (λ j low high. elim (cases_eq j i) [
        | inl last ↦ λ e. off (subst (λ (k : ℕ). number_of (entry k) ≡ n) last e)
        | inr earlier ↦ rest j low (omega (arith, high, earlier))
      ])))
]

pub redone_unnamed : (entry : ℕ → ℕ) (n : ℕ) (before : Bool) (count : ℕ) → IsUnnamed entry 0 count n
    → redone entry n before count ≡ before
redone_unnamed entry n before count none =
    redone_is entry n before before count (λ i lt e. absurd (none i (omega arith) lt e)) (λ _. refl)

pub redone_named : (entry : ℕ → ℕ) (n : ℕ) (before : Bool) (count : ℕ) → AreEntries entry count → (i : ℕ) → i < count
    → number_of (entry i) ≡ n → redone entry n before count ≡ comes (entry i)
redone_named entry n before count log i lt is =
    redone_is entry n before (comes (entry i)) count
    (λ j inside same. elim (cases_lt i j) [
      | inl less ↦ let rises = log.rising i j less inside in absurd (omega (arith, rises, is, same))
      | inr rest ↦ elim (cases_lt j i) [
        | inl less ↦ let rises = log.rising j i less lt in absurd (omega (arith, rises, is, same))
        | inr other ↦ let e : j ≡ i = omega (arith, rest, other) in ap (λ (k : ℕ). comes (entry k)) e
      ]
    ])
    (λ none. absurd (none i (omega arith) lt is))

-- How many entries count: none where there is no head, or one of another version.

pub count_of_none : (v : ℕ) → log_count 0 v ≡ 0
count_of_none v = elim (cases_eq 0 v) [
  | inl here ↦ rw (eq-eqb 0 v here) refl
  | inr off ↦ rw (ne_eqb 0 v off) refl
]

pub count_of_named : (v n : ℕ) → n < 2 ^ 16 → log_count (v * 2 ^ 16 + n) v ≡ n
count_of_named v n lt =
    let q : (v * 2 ^ 16 + n) / 2 ^ 16 ≡ v = omega (arith, lt) in
    rw (eq-eqb ((v * 2 ^ 16 + n) / 2 ^ 16) v q) (omega (arith, lt))

pub count_of_next : (v n : ℕ) → n < 2 ^ 16 → log_count ((v + 1) * 2 ^ 16 + n) v ≡ 0
count_of_next v n lt =
    let q : (((v + 1) * 2 ^ 16 + n) / 2 ^ 16) ≢ v = λ e. absurd (omega (arith, lt, e)) in
    rw (ne_eqb (((v + 1) * 2 ^ 16 + n) / 2 ^ 16) v q) refl

-- the first entries alone are read
pub redone_same : (a b : ℕ → ℕ) (n : ℕ) (before : Bool) (count : ℕ) → ((i : ℕ) → i < count → b i ≡ a i)
    → redone b n before count ≡ redone a n before count
redone_same a b n before zero same = refl
redone_same a b n before (suc i) same =
    rw (same i (omega arith), redone_same a b n before i (λ j lt. same j (omega (arith, lt)))) refl
