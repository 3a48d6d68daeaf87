-- What is taken of a source.
use Rattle.std.specs.Prelude.{◌≡◌, ◌≤◌, ℕ, List, length}
use Rattle.std.specs.declared.option.Option.{Option}
use Rattle.std.specs.Io.KnownBytes.{prepend_known}

-- of what a source tells some first bytes were taken, at most so many
pub record TakesAtMost (most : ℕ) (left left_after : Option (List ℕ)) : Type 0 where
  pub taken : List ℕ
  pub few : length taken ≤ most
  pub first : left ≡ prepend_known taken left_after
