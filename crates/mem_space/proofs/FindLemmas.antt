-- The first element of a list that passes a test.
use Rattle.std.proofs.Common.{◌≡◌, Bool, true, false, Option, Some, None, List, [], ◌∷◌, find, sym, ap, ◌∙◌, inl, inr, arith}
use Rattle.std.specs.List.{All, Contains}
use Rattle.std.proofs.lemmas.Bool.{cases_Bool}
use Rattle.std.proofs.lemmas.List.Elements.{All-nil, All-cons, Contains-append_right}

-- what is found is in the list and passes
pub find_found : {X : Type 0} (p : X → Bool) (xs : List X) (x : X) → find p xs ≡ Some x → Contains xs x × (p x ≡ true)
find_found p [] x is = cc
find_found p (y ∷ ys) x is =
    elim (cases_Bool (p y)) [
      | inl here ↦
          let first : Some y ≡ Some x = rw here at is in
          let same : y ≡ x = cc in ((0, omega arith, same), ap p (sym same) ∙ here)
      | inr other ↦
          let rest = find_found p ys x (rw other at is) in (Contains-append_right (y ∷ []) ys x rest.0, rest.1)
    ]

-- where nothing is found nothing passes
pub find_none : {X : Type 0} (p : X → Bool) (xs : List X) → find p xs ≡ None → All (λ x. p x ≡ false) xs
find_none p [] is = All-nil (λ x. p x ≡ false)
find_none p (y ∷ ys) is =
    elim (cases_Bool (p y)) [
      | inl here ↦ let first : ◌≡◌ {A = Option _} (Some y) None = rw here at is in cc
      | inr other ↦ All-cons (λ x. p x ≡ false) y ys other (find_none p ys (rw other at is))
    ]
