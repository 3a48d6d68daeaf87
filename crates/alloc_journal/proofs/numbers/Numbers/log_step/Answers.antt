use Rattle.std.proofs.Common.{subst, sym}
use Rattle.pmem_model.specs.Memory.{word_at}
use Rattle.alloc_journal.specs.Work.{InUse, IsExact}
use Rattle.alloc_journal.specs.Shows.{NumbersShow}
use Rattle.alloc_journal.proofs.numbers.Numbers.log_step.Goals as goal

pub returns-clause-exact : goal.returns-clause-exact
returns-clause-exact c = λ v saved h exact.
    c.log_step.ensures.exact v saved
    (subst (λ (u : InUse). NumbersShow u.work (word_at c.args.nvm.now) v saved) (sym c.self.view_is) h)
    (subst (λ (u : InUse). IsExact u.work saved) (sym c.self.view_is) exact)
