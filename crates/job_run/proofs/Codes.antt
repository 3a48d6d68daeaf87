-- The bytes of code words.
use Rattle.std.proofs.Common.{◌≡◌, ℕ, ◌*◌, List, [], ◌∷◌, length, refl, arith, length-append}
use Rattle.std.specs.Int.{w32, to_le_bytes}
use Rattle.job_run.specs.Report.{code_bytes}

pub code_length : (words : List ℕ) → length (code_bytes words) ≡ 4 * length words
code_length [] = refl
code_length (word ∷ words) =
    let e = length-append (to_le_bytes w32 word) (code_bytes words) in
    let four : length (to_le_bytes w32 word) ≡ 4 = refl in
    omega (arith, e, four, code_length words)
