-- Bits of words, and sets word by word.
use Rattle.std.proofs.Common.{◌≡◌, ◌≢◌, ℕ, ◌+◌, ◌-◌, ◌%◌, ◌^◌, ◌<◌, ◌∙◌, refl, sym, ap, arith, inl, inr, Bool, true, false, not, ◌||◌, ◌==◌, min, bit_and, zero, suc, List}
use Rattle.std.specs.Int.{bit_at, w64, bit_not}
use Rattle.std.specs.Int.RustNames.{bit_xor}
use Rattle.std.proofs.lemmas.Bool.{cases_eq}
use Rattle.std.proofs.lemmas.Nat.Bits.{bit_at_and, bit_at_xor, bit_at_not, bit_at-lt}
use Rattle.pmem_layout.specs.declared.places.TheConstants.{BASE_BITS, NUMBERS}
use Rattle.alloc_journal.specs.Sets.{bit_of, has, differ, count_of, changes}

neither_bit : (a b : ℕ) → a < 2 → b < 2 → (min (1 - a) (1 - b) == 1) ≡ not (a == 1 || b == 1)
neither_bit zero zero small other = refl
neither_bit zero (suc zero) small other = refl
neither_bit (suc zero) zero small other = refl
neither_bit (suc zero) (suc zero) small other = refl
neither_bit (suc (suc a)) b small other = absurd (omega arith)
neither_bit a (suc (suc b)) small other = absurd (omega arith)

one_bit : (a b : ℕ) → a < 2 → b < 2 → ((a + b) % 2 == 1) ≡ differ (a == 1) (b == 1)
one_bit zero zero small other = refl
one_bit zero (suc zero) small other = refl
one_bit (suc zero) zero small other = refl
one_bit (suc zero) (suc zero) small other = refl
one_bit (suc (suc a)) b small other = absurd (omega arith)
one_bit a (suc (suc b)) small other = absurd (omega arith)

pub neither_at : (a b n : ℕ) → a < 2 ^ 64 → b < 2 ^ 64
    → bit_of (bit_and (bit_not w64 a) (bit_not w64 b)) n ≡ not (bit_of a n || bit_of b n)
neither_at a b n fits other =
    let i = n % BASE_BITS in
    let lt : i < 64 = omega arith in
    rw (bit_at_and (bit_not w64 a) (bit_not w64 b) i, bit_at_not w64 a i fits lt, bit_at_not w64 b i other lt)
    (neither_bit (bit_at a i) (bit_at b i) (bit_at-lt a i) (bit_at-lt b i))

pub one_at : (a b n : ℕ) → bit_of (bit_xor a b) n ≡ differ (bit_of a n) (bit_of b n)
one_at a b n =
    let i = n % BASE_BITS in
    rw (bit_at_xor a b i) (one_bit (bit_at a i) (bit_at b i) (bit_at-lt a i) (bit_at-lt b i))

-- How many numbers are so.

pub count_same : (p q : ℕ → Bool) (n : ℕ) → ((m : ℕ) → m < n → q m ≡ p m) → count_of q n ≡ count_of p n
unfolding count_of
count_same p q zero same = refl
count_same p q (suc n) same = rw (same n (omega arith), count_same p q n (λ m lt. same m (omega (arith, lt)))) refl

pub count_none : (p : ℕ → Bool) (n : ℕ) → ((m : ℕ) → m < n → p m ≡ false) → count_of p n ≡ 0
unfolding count_of
count_none p zero none = refl
count_none p (suc n) none = rw (none n (omega arith), count_none p n (λ m lt. none m (omega (arith, lt)))) (omega arith)

pub count_less : (p q : ℕ → Bool) (at n : ℕ) → at < n → p at ≡ true → q at ≡ false
    → ((m : ℕ) → m < n → m ≢ at → q m ≡ p m) → count_of p n ≡ count_of q n + 1
unfolding count_of
count_less p q at zero inside set clear same = absurd (omega (arith, inside))
count_less p q at (suc n) inside set clear same = elim (cases_eq at n) [
  | inl last ↦
      let here : p n ≡ true = ap p (sym last) ∙ set in
      let gone : q n ≡ false = ap q (sym last) ∙ clear in
      let rest = count_same p q n (λ m lt. same m (omega (arith, lt)) (λ e. absurd (omega (arith, e, last, lt)))) in
      rw (here, gone, rest) (omega arith)
  | inr earlier ↦
      let here : q n ≡ p n = same n (omega arith) (λ e. earlier (sym e)) in
      let rest = count_less p q at n (omega (arith, inside, earlier)) set clear
      (λ m lt ne. same m (omega (arith, lt)) ne) in
      rw (here, rest) (omega arith)
]

pub pending_counts : (a b pending : List ℕ) → ((n : ℕ) → n < NUMBERS → has pending n ≡ differ (has a n) (has b n))
    → count_of (has pending) NUMBERS ≡ changes a b
unfolding changes
pending_counts a b pending same = count_same (λ n. differ (has a n) (has b n)) (has pending) NUMBERS same
