-- Tests on a list whose elements are converted.
use Rattle.std.specs.Prelude.{◌≡◌, Bool, true, false, List, [], ◌∷◌, map, find, Option, Some, None, option_map, is_some}
use Rattle.std.specs.List.{list_any}
use Rattle.std.proofs.Common.{refl}

found : {X Y : Type 0} (f : X → Y) (p : Y → Bool) (x : X) (xs : List X) (b : Bool) → p (f x) ≡ b
    → option_map f (find (λ y. p (f y)) xs) ≡ find p (map f xs)
    → option_map f (find (λ y. p (f y)) (x ∷ xs)) ≡ find p (map f (x ∷ xs))
found f p x xs true e h = rw e refl
found f p x xs false e h = rw e h

pub find_converted : {X Y : Type 0} (f : X → Y) (p : Y → Bool) (xs : List X)
    → option_map f (find (λ x. p (f x)) xs) ≡ find p (map f xs)
find_converted f p [] = refl
find_converted f p (x ∷ xs) = found f p x xs (p (f x)) refl (find_converted f p xs)

pub any_converted : {X Y : Type 0} (f : X → Y) (p : Y → Bool) (xs : List X)
    → list_any (λ x. p (f x)) xs ≡ list_any p (map f xs)
any_converted f p [] = refl
any_converted f p (x ∷ xs) = rw (any_converted f p xs) refl

pub some_converted : {X Y : Type 0} (f : X → Y) (o : Option X) → is_some (option_map f o) ≡ is_some o
some_converted f None = refl
some_converted f (Some x) = refl
