-- The lines that are left.
use Rattle.std.specs.Prelude.{ℕ, ◌+◌, Option, Some, None, List, [], length}
use Rattle.rv_asm.specs.Program.{lines_of}

-- the lines of a text, where there is one
abbrev pub lines_after : Option (List ℕ) → List (List ℕ)
lines_after None = []
lines_after (Some text) = lines_of text

-- how much is left of it
abbrev pub left_of : Option (List ℕ) → ℕ
left_of None = 0
left_of (Some text) = length text + 1
