-- Inputs that wait, and the bytes of each.
use Rattle.std.specs.Prelude.{◌≡◌, ℕ, List, [], ◌∷◌, map, None, slice_get, slice_index_or}
use Rattle.std.proofs.Common.{refl}

-- the first of none has no bytes
pub none_first : {A : Type 0} (f : A → List ℕ) (items : List A) → None ≡ slice_get items 0 → [] ≡ slice_index_or (map f items) 0 []
none_first f [] e = refl
none_first f (x ∷ items) e = absurd (cc)
