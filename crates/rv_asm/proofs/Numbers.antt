-- Numbers and registers that are printed are read again.
use Rattle.std.proofs.Common.{◌≡◌, ℕ, ◌+◌, ◌*◌, ◌/◌, ◌%◌, ◌^◌, ◌<◌, ◌≤◌, ◌==◌, nat_lt, Bool, true, false, not, ◌||◌, Some, List, [], ◌∷◌, ◌++◌, length, ◌∙◌, ap, refl, ⊎_elim, arith}
use Rattle.std.proofs.lemmas.Bool.{cond-true, cond-false, cases_lt, or_from, ne_eqb, and_right, le-ltb, lt-ltb, and_from}
use Rattle.std.proofs.lemmas.Bool.Decides.{nat_tests}
use Rattle.std.proofs.lemmas.Fmt.{decimal_digit, decimal_step, decimal_is_IsNumeral}
use Rattle.std.specs.Char.{digit_value, is_digit}
use Rattle.std.specs.Fmt.{decimal}
use Rattle.std.specs.List.{list_all}
use Rattle.std.specs.Str.Parse.{digits_value, AllDigits}
use Rattle.rv_asm.specs.Operand.{register_of, magnitude_of, number_of}

digit_of : (k : ℕ) → k < 10 → digit_value (48 + k) ≡ k
digit_of k low =
    cond-false _ _ _ (le-ltb (48 + k) 48 (omega arith)) ∙ cond-true _ _ _ (lt-ltb (48 + k) 58 (omega arith)) ∙ omega arith

digit_is : (k : ℕ) → k < 10 → is_digit (48 + k) 10 ≡ true
digit_is k low = ap (λ d. nat_lt d 10) (digit_of k low) ∙ lt-ltb k 10 low

one_digit : (k : ℕ) → k < 10 → register_of (120 ∷ (48 + k) ∷ []) ≡ Some k
unfolding register_of
one_digit k low = cond-true _ _ _ (digit_is k low) ∙ ap Some (digit_of k low)

two_digits : (k : ℕ) → 10 ≤ k → k < 32 → register_of (120 ∷ (48 + k / 10) ∷ (48 + k % 10) ∷ []) ≡ Some k
unfolding register_of
two_digits k high low =
    let tens = digit_of (k / 10) (omega arith) in
    let ones = digit_of (k % 10) (omega arith) in
    let value : 10 * digit_value (48 + k / 10) + digit_value (48 + k % 10) ≡ k = ap (λ d. 10 * d + digit_value (48 + k % 10)) tens ∙ ap (λ d. 10 * (k / 10) + d) ones ∙ omega arith in
    cond-true _ _ _ (and_from _ _ (and_from _ _ (and_from _ _ (digit_is (k / 10) (omega arith)) (digit_is (k % 10) (omega arith))) (lt-ltb 48 (48 + k / 10) (omega arith))) (ap (λ n. nat_lt n 32) value ∙ lt-ltb k 32 low)) ∙ ap Some value

pub register_read : (k : ℕ) → k < 32 → register_of (120 ∷ decimal k) ≡ Some k
register_read k low =
    ⊎_elim (λ small. ap (λ ds. register_of (120 ∷ ds)) (decimal_digit k small) ∙ one_digit k small) (λ large. ap (λ ds. register_of (120 ∷ ds)) (decimal_step k large (omega arith) ∙ ap (λ ds. ds ++ (48 + k % 10) ∷ []) (decimal_digit (k / 10) (omega arith))) ∙ two_digits k large low) (cases_lt k 10)

all_are_digits : (base : ℕ) (ds : List ℕ) → AllDigits base ds → list_all (λ c. is_digit c base) ds ≡ true
all_are_digits base [] h = refl
all_are_digits base (c ∷ cs) h = and_from _ _ (lt-ltb _ _ h.0) (all_are_digits base cs h.1)

pub magnitude_read : (base : ℕ) (negative : Bool) (ds : List ℕ) → 0 < length ds → AllDigits base ds → digits_value base ds < 2 ^ 32 → magnitude_of base negative ds ≡ Some (record { negative = negative; magnitude = digits_value base ds })
magnitude_read base negative ds some digits low =
    let bad : ((length ds == 0) || not (list_all (λ c. is_digit c base) ds)) ≡ false = or_from _ _ (ne_eqb (length ds) 0 (λ e. omega arith)) (ap not (all_are_digits base ds digits)) in
    cond-false _ _ _ bad ∙ ap (λ m. Some (record { negative = negative; magnitude = m })) (omega arith)

-- a digit is no sign and no x
pub digit_range : (c : ℕ) → digit_value c < 10 → (48 ≤ c) × (c < 58)
digit_range c low = grind (arith, nat_tests)

number_of_digits : (ds : List ℕ) → 0 < length ds → AllDigits 10 ds → digits_value 10 ds < 2 ^ 32 → number_of ds ≡ Some (record { negative = false; magnitude = digits_value 10 ds })
unfolding number_of
number_of_digits [] some digits low = absurd (omega arith)
number_of_digits (c ∷ []) some digits low = magnitude_read 10 false (c ∷ []) some digits low
number_of_digits (c ∷ d ∷ more) some digits low =
    let first = digit_range c digits.0 in
    let second = digit_range d digits.1.0 in
    cond-false _ _ _ (ne_eqb c 45 (λ e. omega arith)) ∙ cond-false _ _ _ (and_right _ _ (ne_eqb d 120 (λ e. omega arith))) ∙ magnitude_read 10 false (c ∷ d ∷ more) some digits low

pub number_read : (n : ℕ) → n < 2 ^ 32 → number_of (decimal n) ≡ Some (record { negative = false; magnitude = n })
number_read n low =
    let spelled = decimal_is_IsNumeral n (omega arith) in
    number_of_digits (decimal n) spelled.0.0 spelled.0.1 (omega (arith, spelled.1)) ∙ ap (λ m. Some (record { negative = false; magnitude = m })) spelled.1

-- the same behind `-`
negative_digits : (ds : List ℕ) → 0 < length ds → AllDigits 10 ds → digits_value 10 ds < 2 ^ 32 → number_of (45 ∷ ds) ≡ Some (record { negative = true; magnitude = digits_value 10 ds })
unfolding number_of
negative_digits [] some digits low = absurd (omega arith)
negative_digits (d ∷ more) some digits low = magnitude_read 10 true (d ∷ more) some digits low

pub negative_read : (n : ℕ) → n < 2 ^ 32 → number_of (45 ∷ decimal n) ≡ Some (record { negative = true; magnitude = n })
negative_read n low =
    let spelled = decimal_is_IsNumeral n (omega arith) in
    negative_digits (decimal n) spelled.0.0 spelled.0.1 (omega (arith, spelled.1)) ∙ ap (λ m. Some (record { negative = true; magnitude = m })) spelled.1
