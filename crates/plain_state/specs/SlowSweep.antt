-- What the slow form knows of the objects that are reached.
use Rattle.std.specs.Prelude.{◌≡◌, ℕ, ◌<◌, Bool, false, slice_index_or}
use Rattle.plain_state.specs.declared.sweep.Reached.{Reached}
use Rattle.plain_state.specs.States.{State}
use Rattle.plain_state.specs.Sweep.{is_within, is_reached}

abbrev pub has : Reached → ℕ → Bool
has r i = slice_index_or r.is i false

-- it tells of each number that an object can have whether that is reached by at most so many edges
abbrev pub TellsWithin : Reached → State → ℕ → Type 0
TellsWithin r s n = (i : ℕ) → i < 256 → has r i ≡ is_within s n i

abbrev pub TellsReached : Reached → State → Type 0
TellsReached r s = (i : ℕ) → i < 256 → has r i ≡ is_reached s i
