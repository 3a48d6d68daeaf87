-- The value of digits.
use Rattle.std.proofs.Common.{◌≡◌, ℕ, ◌+◌, ◌*◌, ◌^◌, ◌<◌, ◌≤◌, Bool, true, false, ◌&&◌, cond, List, [], ◌∷◌, length, take, get_or, Some, None, refl, sym, ap, ◌∙◌, arith, ltb-true, le-ltb, lt-ltb}
use Rattle.std.specs.Char.{is_digit, digit_value}
use Rattle.std.specs.Str.Parse.{digits_value, AllDigits}
use Rattle.std.proofs.lemmas.List.Folds.{list_all_at, list_all_more}
use Rattle.std.proofs.lemmas.Int.Digits.{digits_value-lt, digits_value_more}
use Rattle.std.proofs.lemmas.Str.Parse.{digits_value-take-le}
use Rattle.std.proofs.lemmas.Bool.Decides.{nat_tests}
use Rattle.job_script.specs.Text.{all_digits, value_of}

pub value_is : (radix : ℕ) (field : List ℕ) → all_digits radix field ≡ true → digits_value radix field < 2 ^ 64 → value_of radix field ≡ Some (digits_value radix field)
unfolding value_of
value_is radix field h lt = grind (arith, nat_tests)

-- a byte that is no digit
pub not_digit : (radix : ℕ) (field : List ℕ) (i code : ℕ) → i < length field → code ≡ get_or field i 0 → (digit_value code < radix → ⊥) → value_of radix field ≡ None
unfolding value_of
not_digit radix field i code lt e h =
    let no : is_digit code radix ≡ false = le-ltb (digit_value code) radix (omega (arith, h)) in
    let none : all_digits radix field ≡ false = list_all_at (λ c. is_digit c radix) field i 0 lt (ap (λ c. is_digit c radix) (sym e) ∙ no) in
    rw none refl

value_large : (radix : ℕ) (field : List ℕ) → 2 ^ 64 ≤ digits_value radix field → value_of radix field ≡ None
unfolding value_of
value_large radix field h = grind (arith, nat_tests)

-- one digit more
pub more_digits : (radix : ℕ) (field : List ℕ) (i code : ℕ) → i < length field → code ≡ get_or field i 0 → digit_value code < radix → all_digits radix (take i field) ≡ true → all_digits radix (take (i + 1) field) ≡ true
more_digits radix field i code lt e d h =
    let here : is_digit (get_or field i 0) radix ≡ true = ap (λ c. is_digit c radix) (sym e) ∙ lt-ltb (digit_value code) radix d in
    list_all_more (λ c. is_digit c radix) field i 0 lt ∙ (rw (h, here) refl)

pub more_value : (radix : ℕ) (field : List ℕ) (i code value digit : ℕ) → i < length field → code ≡ get_or field i 0 → digit ≡ digit_value code → value ≡ digits_value radix (take i field)
    → value * radix + digit ≡ digits_value radix (take (i + 1) field)
more_value radix field i code value digit lt e d v =
    let last : digit ≡ digit_value (get_or field i 0) = d ∙ ap digit_value e in
    rw (v, last) (sym (digits_value_more radix field i lt))

-- a value that passes 2 ^ 64 on the way passes it in the end
pub overflows : (radix : ℕ) (field : List ℕ) (i code value digit : ℕ) → 1 ≤ radix → i < length field → code ≡ get_or field i 0 → digit ≡ digit_value code → value ≡ digits_value radix (take i field)
    → 2 ^ 64 ≤ value * radix + digit → value_of radix field ≡ None
overflows radix field i code value digit r lt e d v h =
    value_large radix field (omega (arith, more_value radix field i code value digit lt e d v, digits_value-take-le radix field (i + 1) r))

pub both_true : (a b : Bool) → (a && b) ≡ true → (a ≡ true) × (b ≡ true)
both_true true b h = (refl, h)
both_true false b h = cc

each_digit : (radix : ℕ) (field : List ℕ) → all_digits radix field ≡ true → AllDigits radix field
each_digit radix [] h = tt
each_digit radix (c ∷ cs) h =
    let both = both_true (is_digit c radix) (all_digits radix cs) h in (ltb-true _ _ both.0, each_digit radix cs both.1)

pub chosen : {A : Type 0} (b : Bool) (x y : A) → cond b (Some x) None ≡ Some y → (b ≡ true) × (x ≡ y)
chosen true x y h = (refl, cc)
chosen false x y h = cc

-- eight hexadecimal digits fit 32 bits
pub value_of_word : (field : List ℕ) (value : ℕ) → length field ≡ 8 → value_of 16 field ≡ Some value → value < 2 ^ 32
unfolding value_of
value_of_word field value h e =
    let both = chosen _ _ _ e in
    let digits = each_digit 16 field (both_true (all_digits 16 field) _ both.0).0 in
    let small : digits_value 16 field < 16 ^ length field = digits_value-lt 16 field digits in
    omega (arith, both.1, rw h at small)
