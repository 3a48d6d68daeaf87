use Rattle.pmem_model.specs.Memory.{word_at}
use Rattle.pmem_model.specs.Events.{flush_calm}
use Rattle.sls_base.specs.declared.limits.TheConstants.{VERSION_AT}
use Rattle.version_commit.proofs.Commits.{between_calm}
use Rattle.version_commit.proofs.history.happen.Goals as goal

pub returns-in-Flush-clause-between : goal.returns-in-Flush-clause-between
returns-in-Flush-clause-between c = λ v h.
    between_calm c.args.committer.now (word_at c.args.nvm.now) (word_at c.flush.new.self) v c.args.version
    (flush_calm _ _ c.in-Flush.core c.line_at.result 8 c.flush.ensures.words VERSION_AT) h
