use Rattle.std.proofs.Common.{inr}
use Rattle.sls_base.specs.declared.fixed.TheConstants.{LEADER}
use Rattle.alloc_journal.proofs.memory.fence.Goals as goal

pub returns-clause-operation : goal.returns-clause-operation
returns-clause-operation c = inr (c.operations.ensures.fence LEADER _ _ c.fence.ensures.words)
