use Rattle.std.proofs.Common.{arith}
use Rattle.pmem_model.specs.Memory.{word_at}
use Rattle.pmem_layout.specs.declared.places.TheConstants.{OBJECT_BASE_AT}
use Rattle.alloc_journal.specs.Work.{work_of}
use Rattle.alloc_journal.proofs.Words.{flush_only}
use Rattle.alloc_journal.proofs.FormatSteps.{base_stored, base_only, first_flushed, first_fenced}
use Rattle.alloc_journal.proofs.journal.Journal.format_step.Goals as goal

pub returns-in-Unformatted-clause-rest : goal.returns-in-Unformatted-clause-rest
returns-in-Unformatted-clause-rest c =
    base_only (word_at c.args.nvm.now)
    (word_at c.store_words.new.nvm) c.args.running.now c.told-running c.store_words.ensures.words

pub returns-in-Unformatted-clause-shows : goal.returns-in-Unformatted-clause-shows
returns-in-Unformatted-clause-shows c = λ h.
    base_stored (work_of c.args.self.now) (word_at c.args.nvm.now)
    (word_at c.store_words.new.nvm) c.args.running.now c.in-Unformatted.is c.told-running c.store_words.ensures.words h

pub returns-in-FirstStored-clause-rest : goal.returns-in-FirstStored-clause-rest
returns-in-FirstStored-clause-rest c = flush_only (word_at c.args.nvm.now)
    (word_at c.flush.new.nvm) 0 OBJECT_BASE_AT 16 c.flush.ensures.words

pub returns-in-FirstStored-clause-shows : goal.returns-in-FirstStored-clause-shows
returns-in-FirstStored-clause-shows c = λ h.
    first_flushed (work_of c.args.self.now) (word_at c.args.nvm.now) (word_at c.flush.new.nvm) 16 c.in-FirstStored.is
    (omega arith) c.flush.ensures.words h

pub returns-in-FirstInFlight-clause-shows : goal.returns-in-FirstInFlight-clause-shows
returns-in-FirstInFlight-clause-shows c = λ h.
    first_fenced (work_of c.args.self.now) (word_at c.args.nvm.now)
    (word_at c.fence.new.nvm) c.in-FirstInFlight.is c.fence.ensures.words h
