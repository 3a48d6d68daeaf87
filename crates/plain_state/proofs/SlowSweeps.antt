-- What the slow form knows of the objects that are reached.
use Rattle.std.proofs.Common.{◌≡◌, ◌∙◌, ℕ, zero, suc, ◌<◌, nat_lt, Bool, false, List, [], ◌∷◌, length, get_or, replicate, refl, arith, slice_index_or}
use Rattle.std.specs.Prelude.{filter}

-- before any number is entered none is
none_yet : (n i : ℕ) → slice_index_or (replicate n false) i false ≡ false
none_yet zero i = refl
none_yet (suc n) zero = refl
none_yet (suc n) (suc i) = none_yet n i

none_below : (i : ℕ) → false ≡ nat_lt i 0
none_below i = grind arith

pub none_entered : (n i : ℕ) → slice_index_or (replicate n false) i false ≡ nat_lt i 0
none_entered n i = none_yet n i ∙ none_below i

-- two tests that agree at each number of a list keep the same of it
pub kept_alike : (p q : ℕ → Bool) (ids : List ℕ) → ((k : ℕ) → k < length ids → p (get_or ids k 0) ≡ q (get_or ids k 0)) → filter p ids ≡ filter q ids
kept_alike p q [] same = refl
kept_alike p q (x ∷ xs) same =
    let first : p x ≡ q x = same 0 (omega arith) in
    let others : (k : ℕ) → k < length xs → p (get_or xs k 0) ≡ q (get_or xs k 0) = λ k below. same (suc k) (omega arith) in
    rw (first, kept_alike p q xs others) refl
