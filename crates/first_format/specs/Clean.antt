-- Words that are cached and durable alike.
use Rattle.std.specs.Prelude.{ℕ}
use Rattle.sls_base.specs.declared.fixed.TheConstants.{LEADER}
use Rattle.pmem_model.specs.Words.{Word}
use Rattle.pmem_model.specs.Events.{WordIs, Clean}

-- each word reads the plain one, which is durable
pub record HoldsClean (f : ℕ → Word) (words : ℕ → ℕ) : Type 0 where
  pub at : (i : ℕ) → WordIs LEADER Clean (f i) (words i)
