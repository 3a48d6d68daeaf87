-- The parts of a bank: a frame has 64 lines, and the table 64 parts of 280 words.
use Rattle.std.specs.Prelude.{ℕ, ◌*◌, ◌/◌, Bool, ◌==◌, if◌then◌else◌}
use Rattle.std.specs.Int.{bit_at}
use Rattle.sls_base.specs.declared.limits.TheConstants.{FRAME_WORDS, LINE_WORDS, TABLE_WORDS}

-- the part of a place, in a bank of `len` words
unfoldable pub part_of : ℕ → ℕ → ℕ
part_of len at = (if len == FRAME_WORDS then at / LINE_WORDS else at / (TABLE_WORDS / 64))

-- where a part begins
unfoldable pub part_start : ℕ → ℕ → ℕ
part_start len part = (if len == FRAME_WORDS then LINE_WORDS * part else TABLE_WORDS / 64 * part)

-- the part is in the set
abbrev pub has_part : ℕ → ℕ → Bool
has_part parts part = bit_at parts part == 1

-- the place is in a part of the set
abbrev pub is_touched : ℕ → ℕ → ℕ → Bool
is_touched len parts at = has_part parts (part_of len at)
