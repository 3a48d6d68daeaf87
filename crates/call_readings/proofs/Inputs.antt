-- The input that waits first.
use Rattle.std.specs.Prelude.{◌≡◌, ℕ, List, [], ◌∷◌, length, option_map, slice_get, slice_index_or, unwrap_or}
use Rattle.std.proofs.Common.{refl}

pub first_length : (inputs : List (List ℕ)) → unwrap_or (option_map (λ (input : List ℕ). length input) (slice_get inputs 0)) 0 ≡ length (slice_index_or inputs 0 [])
first_length [] = refl
first_length (input ∷ inputs) = refl
