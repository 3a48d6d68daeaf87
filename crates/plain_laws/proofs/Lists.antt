-- Tests on lists: what holds of one holds of another.
use Rattle.std.specs.Prelude.{◌≡◌, ℕ, zero, suc, ◌≤◌, Bool, true, false, ◌||◌, List, [], ◌∷◌, ◌++◌, length, take}
use Rattle.std.specs.List.{list_any}
use Rattle.std.proofs.Common.{refl, arith}

-- a later test that holds where another does
pub or_more : (a b c : Bool) → (b ≡ true → c ≡ true) → (a || b) ≡ true → (a || c) ≡ true
or_more true b c h e = refl
or_more false b c h e = h e

-- an element that passes is among the first of a longer list, where as many are taken
pub any_taken : {X : Type 0} (p : X → Bool) (xs more : List X) (n : ℕ) → length xs ≤ n → list_any p xs ≡ true → list_any p (take n (xs ++ more)) ≡ true
any_taken p [] more n l e = absurd (cc)
any_taken p (x ∷ xs) more zero l e = absurd (omega arith)
any_taken p (x ∷ xs) more (suc n) l e = or_more (p x) (list_any p xs) (list_any p (take n (xs ++ more))) (any_taken p xs more n (omega arith)) e
