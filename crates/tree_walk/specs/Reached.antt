-- Which numbers are reached.
use Rattle.std.specs.Prelude.{◌≡◌, ℕ, Bool, false, slice_index_or}
use Rattle.plain_model.specs.States.{State}
use Rattle.plain_model.specs.Sweep.{is_reached}
use Rattle.tree_walk.specs.declared.reached.Reached.{Reached}

-- the number is told to be reached
abbrev pub has : Reached → ℕ → Bool
has reached i = slice_index_or reached.is i false

-- The numbers that are told to be reached are those that are, in a state.
abbrev pub TellsReached : Reached → State → Type 0
TellsReached reached s = (i : ℕ) → has reached i ≡ is_reached s i
