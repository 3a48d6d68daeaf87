-- What the worlds of the slow form mean.
use Rattle.std.specs.Prelude.{ℕ, ◌==◌, Bool, List}
use Rattle.std.specs.List.{list_any}
use Rattle.plain_model.specs.declared.world.World.{World as SlowWorld}
use Rattle.plain_state.specs.Slow.{state_of, entries_of}
use Rattle.plain_state.specs.Worlds.{World}

-- a set of numbers that a list has
abbrev pub is_in : List ℕ → ℕ → Bool
is_in numbers n = list_any (λ number. number == n) numbers

unfoldable pub world_of : SlowWorld → World
world_of w = record {
  now = state_of w.running;
  saved = state_of w.saved;
  released = entries_of w.released.items;
  base = λ channel. 0;
  version = w.version;
  stored = is_in w.stored.items;
  changed = is_in w.changed.items;
}
