use Rattle.std.proofs.Common.{◌≡◌, ◌∙◌, ◌≤◌, ℕ, refl, subst, arith}
use Rattle.pmem_model.specs.Memory.{word_at}
use Rattle.pmem_layout.specs.declared.places.TheConstants.{LOG_HEAD_AT, NUMBERS}
use Rattle.pmem_layout.specs.Fields.{log_count}
use Rattle.alloc_journal.proofs.Words.{owner_head}
use Rattle.alloc_journal.proofs.ShowLemmas.{numbers_recovered}
use Rattle.alloc_journal.proofs.journal.Journal.recover.Goals as goal

pub returns-clause-shows : goal.returns-clause-shows
returns-clause-shows c = λ saved clean stand.
    let head : c.read.result ≡ (word_at c.args.nvm.now LOG_HEAD_AT).durable = c.read.ensures
    ∙ (clean LOG_HEAD_AT owner_head).0 in
    numbers_recovered _ (word_at c.args.nvm.now) c.args.version saved refl refl refl
    (subst (λ (x : ℕ). log_count x c.args.version ≤ NUMBERS → c.entries_at.result ≡ log_count x c.args.version) head
    (let is = c.entries_at.ensures in λ few. omega (arith, is, few)))
    c.read_base-base.ensures clean stand
