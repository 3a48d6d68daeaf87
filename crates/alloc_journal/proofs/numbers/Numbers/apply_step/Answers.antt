use Rattle.std.proofs.Common.{◌∙◌, ap, subst, sym}
use Rattle.pmem_model.specs.Memory.{word_at}
use Rattle.alloc_journal.specs.Work.{Work, InUse, once_committed, IsExact}
use Rattle.alloc_journal.specs.Shows.{NumbersShow}
use Rattle.alloc_journal.proofs.numbers.Numbers.apply_step.Goals as goal

pub returns-clause-exact : goal.returns-clause-exact
returns-clause-exact c = λ v saved h exact.
    let is = ap (λ (u : InUse). once_committed u.work) (sym c.self.view_is) ∙ sym c.commit.ensures.work in
    c.redo_step.ensures.exact v saved (subst (λ (w : Work). NumbersShow w (word_at c.args.nvm.now) v saved) is h)
    (subst (λ (w : Work). IsExact w saved) is exact)
