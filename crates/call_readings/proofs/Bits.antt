-- How many bits of a word are set.
use Rattle.std.specs.Prelude.{◌≡◌, ℕ, zero, suc, ◌+◌, ◌-◌, ◌*◌, ◌/◌, ◌%◌, ◌^◌, ◌<◌, ◌==◌, Bool, true, length, filter, ◌∷◌}
use Rattle.std.specs.List.{range_with_len}
use Rattle.std.specs.Int.{bit_at}
use Rattle.std.specs.Int.Count.{ones, ones_in}
use Rattle.std.proofs.Common.{refl, sym, ap, ◌∙◌, arith, inl, inr}
use Rattle.std.proofs.lemmas.Bool.{cases_lt}
use Rattle.std.proofs.lemmas.Nat.Bits.{bit_at-suc, bit_at_lowest}

none_of_zero : (d : ℕ) → ones_in d 0 ≡ 0
unfolding ones_in
none_of_zero zero = refl
none_of_zero (suc d) = ap (λ k. 0 + k) (none_of_zero d)

halves : (n j : ℕ) → n < 2 ^ suc j → n / 2 < 2 ^ j
halves n j l = (let e : 2 ^ suc j ≡ 2 * 2 ^ j = omega arith in omega (arith, l, e))

-- digits past the last one that is set add none
more_digits : (j e n : ℕ) → n < 2 ^ j → ones_in (j + e) n ≡ ones_in j n
unfolding ones_in
more_digits zero e n l =
    let z : n ≡ 0 = omega (arith, l) in
    let same : 0 + e ≡ e = omega arith in
    ap (λ d. ones_in d n) same ∙ ap (ones_in e) z ∙ none_of_zero e
more_digits (suc j) e n l =
    let sum : suc j + e ≡ suc (j + e) = omega arith in
    rw sum (ap (λ k. n % 2 + k) (more_digits j e (n / 2) (halves n j l)))

below_power : (n : ℕ) → n < 2 ^ n
below_power zero = omega arith
below_power (suc n) = (let h = below_power n in let e : 2 ^ suc n ≡ 2 * 2 ^ n = omega arith in omega (arith, h, e))

pub ones_of_word : (j n : ℕ) → n < 2 ^ j → ones n ≡ ones_in j n
unfolding ones
ones_of_word j n l = elim (cases_lt n j) [
  | inl less ↦
      let e : n + (j - n) ≡ j = omega (arith, less) in
      sym (more_digits n (j - n) n (below_power n)) ∙ ap (λ d. ones_in d n) e
  | inr more ↦
      let e : j + (n - j) ≡ n = omega (arith, more) in
      sym (ap (λ d. ones_in d n) e) ∙ more_digits j (n - j) n l
]

first_bit : (p : ℕ → Bool) (a m k : ℕ) (b : Bool) (bit : ℕ) → p a ≡ (bit == 1) → bit ≡ m % 2 → bit < 2
    → (rest : ℕ) → length (filter p (range_with_len (a + 1) k)) ≡ rest
    → length (filter p (a ∷ range_with_len (a + 1) k)) ≡ m % 2 + rest
first_bit p a m k b zero e is l rest r = rw (e, sym is) (omega (arith, r))
first_bit p a m k b (suc zero) e is l rest r = rw (e, sym is) (omega (arith, r))
first_bit p a m k b (suc (suc bit)) e is l rest r = absurd (omega (arith, l))

-- the numbers whose bits are set are as many as the bits
pub count_of_bits : (p : ℕ → Bool) (a k m : ℕ) → ((i : ℕ) → i < k → p (a + i) ≡ (bit_at m i == 1))
    → length (filter p (range_with_len a k)) ≡ ones_in k m
unfolding ones_in
count_of_bits p a zero m h = refl
count_of_bits p a (suc k) m h =
    let same : a + 0 ≡ a = omega arith in
    let rest = count_of_bits p (a + 1) k (m / 2) (λ i l. let on : a + 1 + i ≡ a + suc i = omega arith in ap p on ∙ h (suc i) (omega (arith, l)) ∙ ap (λ b. b == 1) (bit_at-suc m i)) in
    first_bit p a m k true (m % 2) (sym (ap p same) ∙ h 0 (omega arith) ∙ ap (λ b. b == 1) (bit_at_lowest m)) refl (omega arith) (ones_in k (m / 2)) rest
