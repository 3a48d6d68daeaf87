-- The fields of a word.
use Rattle.std.specs.Prelude.{ℕ, ◌+◌, ◌*◌, ◌/◌, ◌%◌, ◌^◌, List, [], ◌∷◌}

-- the `count` bits of a word from bit `low` up, as a number
abbrev pub bits : ℕ → ℕ → ℕ → ℕ
bits low count word = word / 2 ^ low % 2 ^ count

-- a word by its fields, the lowest first: of each the number of its bits, and its value
abbrev pub fields : List (ℕ × ℕ) → ℕ
fields [] = 0
fields (field ∷ rest) = field.1 + 2 ^ field.0 * fields rest
