-- The value of digits, cut off at a limit.
use Rattle.std.proofs.Common.{◌≡◌, ℕ, ◌+◌, ◌*◌, ◌<◌, ◌≤◌, true, List, length, get_or, take, min, ⊎_elim, ap, ◌∙◌, sym, arith}
use Rattle.std.proofs.lemmas.Bool.{cases_lt, and_from, lt-ltb}
use Rattle.std.proofs.lemmas.Int.Digits.{digits_value_more}
use Rattle.std.proofs.lemmas.List.Folds.{list_all_more}
use Rattle.std.proofs.Math.Nat.{mul-le-mul_left}
use Rattle.std.specs.Char.{digit_value, is_digit}
use Rattle.std.specs.List.{list_all}
use Rattle.std.specs.Str.Parse.{digits_value}

-- one more digit of a value that was cut off
min_step : (v b d limit : ℕ) → 1 ≤ b → min (min v limit * b + d) limit ≡ min (v * b + d) limit
min_step v b d limit some =
    let here : limit * 1 ≤ limit * b = mul-le-mul_left limit some in
    let there : v * 1 ≤ v * b = mul-le-mul_left v some in
    ⊎_elim (λ less. let e : min v limit ≡ v = omega arith in ap (λ k. min (k * b + d) limit) e) (λ more. let e : min v limit ≡ limit = omega arith in ap (λ k. min (k * b + d) limit) e ∙ omega arith) (cases_lt v limit)

pub value_more : (b : ℕ) (xs : List ℕ) (i m d limit : ℕ) → 1 ≤ b → i < length xs → m ≡ min (digits_value b (take i xs)) limit → d ≡ digit_value (get_or xs i 0) → min (m * b + d) limit ≡ min (digits_value b (take (i + 1) xs)) limit
value_more b xs i m d limit some within value digit =
    ap (λ k. min (k * b + d) limit) value ∙ min_step _ b d limit some ∙ ap (λ k. min (digits_value b (take i xs) * b + k) limit) digit ∙ ap (λ k. min k limit) (sym (digits_value_more b xs i within))

pub digits_more : (b : ℕ) (xs : List ℕ) (i : ℕ) → i < length xs → list_all (λ c. is_digit c b) (take i xs) ≡ true → digit_value (get_or xs i 0) < b → list_all (λ c. is_digit c b) (take (i + 1) xs) ≡ true
digits_more b xs i within before digit =
    list_all_more (λ c. is_digit c b) xs i 0 within ∙ and_from _ _ before (lt-ltb _ _ digit)
