-- The bits of a word that tells of numbers.
use Rattle.std.proofs.Common.{◌≡◌, ℕ, zero, suc, ◌+◌, ◌-◌, ◌*◌, ◌/◌, ◌%◌, ◌^◌, ◌<◌, ◌∙◌, Bool, true, false, refl, ap, sym, subst, add-one, arith, inl, inr}
use Rattle.std.specs.Prelude.{◌==◌, if◌then◌else◌}
use Rattle.std.specs.Int.{bit_at}
use Rattle.std.proofs.Math.Nat.{add-mul-div_left, div-eq_of_lt, mod-eq_of_lt, pow-suc}
use Rattle.std.proofs.Math.Pow.{pow-lt}
use Rattle.std.proofs.lemmas.Nat.{pow-add, pow_pos}
use Rattle.std.proofs.lemmas.Bool.{cases_eq}
use Rattle.first_format.specs.Formatted.{bits_word}

-- what one more bit adds to a word
abbrev pub added : Bool → ℕ → ℕ
added b count = if b then 2 ^ count else 0

pub added_below : (b : Bool) (x count : ℕ) → x < 2 ^ count → x + added b count < 2 ^ suc count
added_below true x count h = (let e = pow-suc 2 count in omega arith)
added_below false x count h = (let e = pow-suc 2 count in omega arith)

pub bits_below : (so : ℕ → Bool) (first count : ℕ) → bits_word so first count < 2 ^ count
unfolding bits_word
bits_below so first zero = pow_pos 0
bits_below so first (suc count) = added_below (so (first + count)) (bits_word so first count) count (bits_below so first count)

same_bit : (b : Bool) (x count : ℕ) → x < 2 ^ count → (bit_at (x + added b count) count == 1) ≡ b
same_bit true x count h =
    let one : 2 ^ count * 1 ≡ 2 ^ count = omega arith in
    let sum : (x + 2 ^ count * 1) / 2 ^ count ≡ x / 2 ^ count + 1 = add-mul-div_left x 1 (pow_pos count) in
    let none : x / 2 ^ count ≡ 0 = div-eq_of_lt h in
    let quotient : (x + 2 ^ count) / 2 ^ count ≡ 1 = ap (λ k. (x + k) / 2 ^ count) (sym one) ∙ (sum ∙ ap (λ k. k + 1) none) in
    ap (λ k. k % 2 == 1) quotient
same_bit false x count h =
    let none : x / 2 ^ count ≡ 0 = div-eq_of_lt h in
    let zero_more : x + 0 ≡ x = omega arith in
    ap (λ k. k % 2 == 1) (ap (λ k. k / 2 ^ count) zero_more ∙ none)

even : (q r : ℕ) → (q + r * 2) % 2 ≡ q % 2
even q r = omega arith

other_bit : (b : Bool) (x count bit : ℕ) → bit < count → bit_at (x + added b count) bit ≡ bit_at x bit
other_bit true x count bit h =
    let split : count ≡ bit + suc (count - bit - 1) = omega arith in
    let power : 2 ^ count ≡ 2 ^ bit * 2 ^ suc (count - bit - 1) = ap (λ k. 2 ^ k) split ∙ pow-add 2 bit (suc (count - bit - 1)) in
    let twice : 2 ^ suc (count - bit - 1) ≡ 2 ^ (count - bit - 1) * 2 = pow-suc 2 (count - bit - 1) in
    let quotient : (x + 2 ^ count) / 2 ^ bit ≡ x / 2 ^ bit + 2 ^ (count - bit - 1) * 2 =
    ap (λ k. (x + k) / 2 ^ bit) power ∙ (add-mul-div_left x (2 ^ suc (count - bit - 1)) (pow_pos bit) ∙ ap (λ k. x / 2 ^ bit + k) twice) in
    ap (λ k. k % 2) quotient ∙ even (x / 2 ^ bit) (2 ^ (count - bit - 1))
other_bit false x count bit h = (let zero_more : x + 0 ≡ x = omega arith in ap (λ k. bit_at k bit) zero_more)

pub bits_told : (so : ℕ → Bool) (first count bit : ℕ) → bit < count → (bit_at (bits_word so first count) bit == 1) ≡ so (first + bit)
unfolding bits_word
bits_told so first zero bit h = absurd (omega arith)
bits_told so first (suc count) bit h =
    elim (cases_eq bit count) [
      | inl last ↦
          subst (λ k. (bit_at (bits_word so first count + added (so (first + count)) count) k == 1) ≡ so (first + k)) (sym last)
          (same_bit (so (first + count)) (bits_word so first count) count (bits_below so first count))
      | inr ne ↦
          ap (λ k. k == 1) (other_bit (so (first + count)) (bits_word so first count) count bit (omega arith))
          ∙ bits_told so first count bit (omega arith)
    ]

-- One more bit.

pub no_bits : (so : ℕ → Bool) (first : ℕ) → 0 ≡ bits_word so first 0
unfolding bits_word
no_bits so first = refl

one_more : (so : ℕ → Bool) (first count : ℕ) → bits_word so first (count + 1) ≡ bits_word so first count + added (so (first + count)) count
unfolding bits_word
one_more so first count = rw add-one refl

pub next_bit : (so : ℕ → Bool) (first count word more : ℕ) (b : Bool) → b ≡ so (first + count) → word ≡ bits_word so first count → more ≡ word + added b count
    → more ≡ bits_word so first (count + 1)
next_bit so first count word more b is was e =
    e ∙ (ap (λ k. k + added b count) was ∙ (ap (λ c. bits_word so first count + added c count) is ∙ sym (one_more so first count)))

pub next_below : (count word more : ℕ) (b : Bool) → word < 2 ^ count → more ≡ word + added b count → more < 2 ^ (count + 1)
next_below count word more b below e = rw e (rw add-one (added_below b word count below))

-- A word with one bit, and no other.

pub only_bit : (bit : ℕ) → bit < 64 → (1 * 2 ^ bit) % 2 ^ 64 ≡ 2 ^ bit
only_bit bit below =
    let fits : 2 ^ bit < 2 ^ 64 = pow-lt below in
    let one : 1 * 2 ^ bit ≡ 2 ^ bit = omega arith in
    rw one (mod-eq_of_lt fits)
