-- Members of sets of numbers.
use Rattle.std.specs.Prelude.{◌≡◌, ◌≢◌, ℕ, zero, suc, ◌+◌, ◌-◌, ◌*◌, ◌/◌, ◌%◌, ◌^◌, ◌<◌, ◌==◌, ◌||◌, not, Bool, true, false, List, length, filter, find, Option, Some, None, slice_get, slice_index_or, slice_set}
use Rattle.std.specs.List.{range_with_len}
use Rattle.std.specs.Int.{bit_at, w64, trailing_ones, bit_not, count_zeros}
use Rattle.std.proofs.Common.{refl, sym, ap, ◌∙◌, arith, inl, inr}
use Rattle.std.proofs.lemmas.Bool.{cases_eq, cases_lt, eq-eqb, ne_eqb}
use Rattle.std.proofs.lemmas.List.{get_or-set_same, get_or-set_other}
use Rattle.std.proofs.lemmas.Nat.Bits.{bit_at-trailing_ones, bit_at_ones, bit_at_not}
use Rattle.call_readings.specs.NumberSets.{is_in}
use Rattle.call_readings.proofs.Ranges.{first_in_range, none_in_range, count_in_parts, first_kept, kept_alike}
use Rattle.call_readings.proofs.Bits.{ones_of_word, count_of_bits}

or_false_right : (b : Bool) → b ≡ (b || false)
or_false_right true = refl
or_false_right false = refl

or_true_right : (b : Bool) → true ≡ (b || true)
or_true_right true = refl
or_true_right false = refl

-- a bit that is set puts its number into the set, and no other
pub inserted : (words : List ℕ) (number other word : ℕ) → number / 64 < length words → bit_at word (number % 64) ≡ 1
    → ((bit : ℕ) → bit < 64 → bit ≢ number % 64 → bit_at word bit ≡ bit_at (slice_index_or words (number / 64) 0) bit)
    → is_in (slice_set words (number / 64) word) other ≡ (is_in words other || (other == number))
unfolding is_in
inserted words number other word inside set others = elim (cases_eq (other / 64) (number / 64)) [
  | inl place ↦
      let now : slice_index_or (slice_set words (number / 64) word) (other / 64) 0 ≡ word =
      (rw place (get_or-set_same words (number / 64) word 0 inside)) in
      let was : slice_index_or words (other / 64) 0 ≡ slice_index_or words (number / 64) 0 = ap (λ k. slice_index_or words k 0) place in
      elim (cases_eq (other % 64) (number % 64)) [
        | inl bit ↦
            let e : other ≡ number = omega (arith, place, bit) in
            rw (now, bit, set, eq-eqb other number e) (or_true_right _)
        | inr ne ↦
            let e : other ≢ number = λ same. ne (ap (λ n. n % 64) same) in
            rw (now, was, others (other % 64) (omega arith) ne, ne_eqb other number e) (or_false_right _)
      ]
  | inr place ↦
      let now : slice_index_or (slice_set words (number / 64) word) (other / 64) 0 ≡ slice_index_or words (other / 64) 0 =
      get_or-set_other words (number / 64) (other / 64) word 0 place in
      let e : other ≢ number = λ same. place (ap (λ n. n / 64) same) in
      rw (now, ne_eqb other number e) (or_false_right _)
]

-- the bit of a number in its word
pub bit_of : (words : List ℕ) (place bit word : ℕ) → bit < 64 → slice_index_or words place 0 ≡ word → is_in words (place * 64 + bit) ≡ (bit_at word bit == 1)
unfolding is_in
bit_of words place bit word l e =
    let p : (place * 64 + bit) / 64 ≡ place = omega (arith, l) in
    let b : (place * 64 + bit) % 64 ≡ bit = omega (arith, l) in
    rw (p, b, e) refl

-- each number of a full word is in the set
pub in_full : (words : List ℕ) (place number : ℕ) → ((j : ℕ) → j < place → slice_index_or words j 0 ≡ 2 ^ 64 - 1) → number < 64 * place → is_in words number ≡ true
unfolding is_in
in_full words place number full l =
    let word = full (number / 64) (omega (arith, l)) in
    let bit = bit_at_ones 64 (number % 64) (omega arith) in
    rw (word, bit) refl

-- the least number that isn't in the set
pub least_found : (words : List ℕ) (place word : ℕ) → ((j : ℕ) → j < place → slice_index_or words j 0 ≡ 2 ^ 64 - 1) → place < length words
    → slice_index_or words place 0 ≡ word → word < 2 ^ 64 → word ≢ 2 ^ 64 - 1
    → (is_in words (place * 64 + trailing_ones w64 word) ≡ false) × (place * 64 + trailing_ones w64 word < 64 * length words)
    × (find (λ number. not (is_in words number)) (range_with_len 0 (64 * length words)) ≡ Some (place * 64 + trailing_ones w64 word))
least_found words place word full inside is small some =
    let t = trailing_ones w64 word in
    let bits = bit_at-trailing_ones w64 word (omega (arith, small, some)) in
    let low : t < 64 = bits.0 in
    let off : is_in words (place * 64 + t) ≡ false = bit_of words place t word low is ∙ (let z : bit_at word t ≡ 0 = bits.1 in rw z refl) in
    let within : place * 64 + t < 64 * length words = omega (arith, inside, low) in
    let p : ℕ → Bool = λ number. not (is_in words number) in
    let zero_first : (n : ℕ) → 0 + n ≡ n = λ n. omega arith in
    let zeros = zero_first (place * 64 + t) in (
      off,
      within,
      first_in_range p 0 (64 * length words) (place * 64 + t) within (ap p zeros ∙ ap not off) (λ j l. ap p (zero_first j) ∙ elim (cases_lt j (64 * place)) [
        | inl below ↦ ap not (in_full words place j full below)
        | inr at ↦
            let k = j - 64 * place in
            let e : place * 64 + k ≡ j = omega (arith, at) in
            let less : k < t = omega (arith, at, l) in
            let one : bit_at word k ≡ 1 = bits.2 k less in
            let there : is_in words (place * 64 + k) ≡ true = bit_of words place k word (omega (arith, less, low)) is ∙ (rw one refl) in
            ap p (sym e) ∙ ap not there
      ]) ∙ ap (λ (n : ℕ). Some n) zeros,
    )

pub none_found : (words : List ℕ) → ((j : ℕ) → j < length words → slice_index_or words j 0 ≡ 2 ^ 64 - 1)
    → find (λ number. not (is_in words number)) (range_with_len 0 (64 * length words)) ≡ None
none_found words full = none_in_range (λ number. not (is_in words number)) 0 (64 * length words) (λ j l. let e : 0 + j ≡ j = omega arith in ap (λ number. not (is_in words number)) e ∙ ap not (in_full words (length words) j full l))

not_one : (bit : ℕ) → bit < 2 → not (bit == 1) ≡ (1 - bit == 1)
not_one zero l = refl
not_one (suc zero) l = refl
not_one (suc (suc n)) l = absurd (omega (arith, l))

-- how many numbers of one more word aren't in the set
pub one_word_more : (words : List ℕ) (place word count : ℕ) → slice_index_or words place 0 ≡ word → word < 2 ^ 64
    → count ≡ length (filter (λ number. not (is_in words number)) (range_with_len 0 (64 * place)))
    → count + count_zeros w64 word ≡ length (filter (λ number. not (is_in words number)) (range_with_len 0 (64 * (place + 1))))
one_word_more words place word count is small e =
    let p : ℕ → Bool = λ number. not (is_in words number) in
    let m = bit_not w64 word in
    let sum : 64 * (place + 1) ≡ 64 * place + 64 = omega arith in
    let zeros : count_zeros w64 word ≡ length (filter p (range_with_len (0 + 64 * place) 64)) = (
    ones_of_word 64 m (omega arith) ∙ sym (count_of_bits p (0 + 64 * place) 64 m (λ i l.
    let place_is : 0 + 64 * place + i ≡ place * 64 + i = omega arith in
    ap p place_is ∙ ap not (bit_of words place i word l is) ∙ not_one (bit_at word i) (omega arith) ∙ ap (λ b. b == 1) (sym (bit_at_not w64 word i small l))))
    ) in
    rw sum (omega (arith, e, zeros, count_in_parts p 0 (64 * place) 64))

-- a test of each number says what the set says
abbrev pub TellsAbsent : List ℕ → (ℕ → Bool) → Type 0
TellsAbsent words used = (number : ℕ) → is_in words number ≡ used number

-- the least number that is free, and how many are
pub least_of_free : (words : List ℕ) (used : ℕ → Bool) (numbers : List ℕ) (least : Option ℕ) → TellsAbsent words used
    → least ≡ find (λ number. not (is_in words number)) numbers → least ≡ slice_get (filter (λ number. not (used number)) numbers) 0
least_of_free words used numbers least tells is =
    is ∙ sym (first_kept (λ number. not (is_in words number)) numbers)
    ∙ ap (λ (l : List ℕ). slice_get l 0) (kept_alike (λ number. not (is_in words number)) (λ number. not (used number)) numbers (λ x. ap not (tells x)))

pub count_of_free : (words : List ℕ) (used : ℕ → Bool) (numbers : List ℕ) (count : ℕ) → TellsAbsent words used
    → count ≡ length (filter (λ number. not (is_in words number)) numbers) → count ≡ length (filter (λ number. not (used number)) numbers)
count_of_free words used numbers count tells is =
    is ∙ ap (λ (l : List ℕ). length l) (kept_alike (λ number. not (is_in words number)) (λ number. not (used number)) numbers (λ x. ap not (tells x)))
