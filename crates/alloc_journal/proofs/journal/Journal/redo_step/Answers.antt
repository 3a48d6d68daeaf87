use Rattle.std.proofs.Common.{arith}
use Rattle.pmem_model.specs.Memory.{word_at}
use Rattle.pmem_layout.specs.declared.places.TheConstants.{LOG_HEAD_AT}
use Rattle.alloc_journal.specs.Work.{work_of}
use Rattle.alloc_journal.proofs.Words.{owner_head, stored_only, flush_only}
use Rattle.alloc_journal.proofs.RedoSteps.{base_fenced, head_cleared, clear_flushed, redo_done}
use Rattle.alloc_journal.proofs.journal.Journal.redo_step.Goals as goal

pub returns-in-BaseInFlight-clause-shows : goal.returns-in-BaseInFlight-clause-shows
returns-in-BaseInFlight-clause-shows c = λ v saved h.
    base_fenced (work_of c.args.self.now) (word_at c.args.nvm.now)
    (word_at c.fence.new.nvm) v saved c.in-BaseInFlight.is c.fence.ensures.words h

pub returns-in-BaseDurable-clause-rest : goal.returns-in-BaseDurable-clause-rest
returns-in-BaseDurable-clause-rest c =
    stored_only (word_at c.args.nvm.now) (word_at c.store.new.nvm) LOG_HEAD_AT _ owner_head c.store.ensures.words

pub returns-in-BaseDurable-clause-shows : goal.returns-in-BaseDurable-clause-shows
returns-in-BaseDurable-clause-shows c = λ v saved h.
    head_cleared (work_of c.args.self.now) (word_at c.args.nvm.now)
    (word_at c.store.new.nvm) v saved c.in-BaseDurable.is c.store.ensures.words h

pub returns-in-HeadCleared-clause-rest : goal.returns-in-HeadCleared-clause-rest
returns-in-HeadCleared-clause-rest c = flush_only (word_at c.args.nvm.now)
    (word_at c.flush.new.nvm) 0 LOG_HEAD_AT 8 c.flush.ensures.words

pub returns-in-HeadCleared-clause-shows : goal.returns-in-HeadCleared-clause-shows
returns-in-HeadCleared-clause-shows c = λ v saved h.
    clear_flushed (work_of c.args.self.now) (word_at c.args.nvm.now)
    (word_at c.flush.new.nvm) v saved 8 c.in-HeadCleared.is (omega arith) c.flush.ensures.words h

pub returns-in-ClearInFlight-clause-shows : goal.returns-in-ClearInFlight-clause-shows
returns-in-ClearInFlight-clause-shows c = λ v saved h.
    redo_done (work_of c.args.self.now) (word_at c.args.nvm.now)
    (word_at c.fence-in-ClearInFlight.new.nvm) v saved c.in-ClearInFlight.is c.fence-in-ClearInFlight.ensures.words h
