-- How many numbers are so, one way and the other.
use Rattle.std.specs.Prelude.{◌≡◌, ℕ, zero, suc, ◌+◌, ◌<◌, ◌≤◌, Bool, true, false, if◌then◌else◌, length, filter}
use Rattle.std.specs.List.{range_with_len}
use Rattle.std.proofs.Common.{refl, ap, subst, ◌∙◌, arith, inl, inr}
use Rattle.std.proofs.lemmas.Bool.{cases_Bool}
use Rattle.alloc_journal.specs.Sets.{count_of, differ}
use Rattle.plain_model.specs.Cost as plain

one_if : Bool → ℕ
one_if b = if b then 1 else 0

-- the first number apart
first_apart : (so : ℕ → Bool) (n : ℕ) → count_of so (suc n) ≡ one_if (so 0) + count_of (λ i. so (suc i)) n
unfolding count_of one_if
first_apart so zero = omega arith
first_apart so (suc n) = (let rest = first_apart so n in omega (arith, rest))

passed_first : (test : ℕ → Bool) (a n : ℕ)
    → length (filter test (range_with_len a (suc n)))
    ≡ one_if (test a) + length (filter test (range_with_len (a + 1) n))
unfolding one_if
passed_first test a n = elim (cases_Bool (test a)) [
  | inl is ↦ rw is (omega arith)
  | inr none ↦ rw none (omega arith)
]

one_more : (a b : Bool) → (a ≡ true → b ≡ true) → one_if a ≤ one_if b
unfolding one_if
one_more true b more = (let is = more refl in rw is (omega arith))
one_more false b more = omega arith

counted_from : (so test : ℕ → Bool) (a n : ℕ) → ((i : ℕ) → i < n → so i ≡ true → test (a + i) ≡ true)
    → count_of so n ≤ length (filter test (range_with_len a n))
unfolding count_of
counted_from so test a zero more = omega arith
counted_from so test a (suc n) more =
    let first = first_apart so n in
    let passed = passed_first test a n in
    let here : so 0 ≡ true → test a ≡ true =
    λ is. subst (λ (k : ℕ). test k ≡ true) (omega arith) (more 0 (omega arith) is) in
    let one = one_more (so 0) (test a) here in
    let rest = counted_from (λ i. so (suc i)) test (a + 1) n
    (λ i below is. subst (λ (k : ℕ). test k ≡ true) (omega arith) (more (suc i) (omega (arith, below)) is)) in
    omega (arith, first, passed, one, rest)

-- Where each number that is so passes a test, no more are so than pass it.
pub counted : (so test : ℕ → Bool) (n : ℕ) → ((i : ℕ) → i < n → so i ≡ true → test i ≡ true)
    → count_of so n ≤ length (filter test (range_with_len 0 n))
counted so test n more =
    counted_from so test 0 n (λ i below is. subst (λ (k : ℕ). test k ≡ true) (omega arith) (more i below is))

-- those behind the first ones apart
pub parted : (so : ℕ → Bool) (a b : ℕ) → count_of so (a + b) ≡ count_of so a + count_of (λ i. so (a + i)) b
unfolding count_of
parted so a zero =
    let same : a + 0 ≡ a = omega arith in
    let behind : count_of so a ≡ count_of so a + 0 = omega arith in
    ap (count_of so) same ∙ behind
parted so a (suc b) =
    let rest = parted so a b in
    let next : a + suc b ≡ suc (a + b) = omega arith in
    ap (count_of so) next ∙ omega (arith, rest)

pub differ_same : (a b : Bool) → differ a b ≡ plain.differ a b
differ_same true b = refl
differ_same false b = refl
