-- Pieces of a text, in a loop's step.
use Rattle.std.proofs.Common.{◌≡◌, ℕ, ◌+◌, ◌-◌, ◌<◌, ◌≤◌, true, false, List, [], ◌∷◌, ◌++◌, length, get_or, take, sym, ◌∙◌, ap, arith}
use Rattle.std.proofs.lemmas.Bool.{cond-true, cond-false}
use Rattle.std.proofs.lemmas.List.{take_more}
use Rattle.rv_asm.specs.Text.{is_blank, trim_end, before_trimmed}

-- a last byte that is blank, and one that isn't
pub trim_end-blank : (xs : List ℕ) (c : ℕ) → is_blank c ≡ true → trim_end (xs ++ c ∷ []) ≡ trim_end xs
trim_end-blank [] c t = cond-true _ _ _ t
trim_end-blank (x ∷ xs) c t = ap (before_trimmed x) (trim_end-blank xs c t)

pub trim_end-other : (xs : List ℕ) (c : ℕ) → is_blank c ≡ false → trim_end (xs ++ c ∷ []) ≡ xs ++ c ∷ []
trim_end-other [] c f = cond-false _ _ _ f
trim_end-other (x ∷ []) c f = ap (before_trimmed x) (trim_end-other [] c f)
trim_end-other (x ∷ y ∷ ys) c f = ap (before_trimmed x) (trim_end-other (y ∷ ys) c f)

pub trim_back : (xs : List ℕ) (i : ℕ) → 0 < i → i ≤ length xs → is_blank (get_or xs (i - 1) 0) ≡ true → trim_end (take (i - 1) xs) ≡ trim_end (take i xs)
trim_back xs i some within t =
    let e : i ≡ (i - 1) + 1 = omega arith in
    sym (ap (λ k. trim_end (take k xs)) e ∙ ap trim_end (take_more xs (i - 1) 0 (omega arith)) ∙ trim_end-blank (take (i - 1) xs) _ t)

pub trim_kept : (xs : List ℕ) (i : ℕ) → 0 < i → i ≤ length xs → is_blank (get_or xs (i - 1) 0) ≡ false → trim_end (take i xs) ≡ take i xs
trim_kept xs i some within f =
    let e : i ≡ (i - 1) + 1 = omega arith in
    let last = take_more xs (i - 1) 0 (omega arith) in
    ap (λ k. trim_end (take k xs)) e ∙ ap trim_end last ∙ trim_end-other (take (i - 1) xs) _ f ∙ sym last ∙ ap (λ k. take k xs) (sym e)
