-- The counts that a memory keeps.
use Rattle.std.specs.Prelude.{◌≡◌}
use Rattle.pmem_model.specs.Memory.{Memory}

-- no commit and no cut was counted
pub record SameCounts (old new : Memory) : Type 0 where
  pub commits : new.commits ≡ old.commits
  pub cuts : new.cuts ≡ old.cuts
