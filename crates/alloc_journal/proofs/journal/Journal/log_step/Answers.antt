use Rattle.std.proofs.Common.{arith}
use Rattle.pmem_model.specs.Memory.{word_at}
use Rattle.pmem_layout.specs.declared.places.TheConstants.{LOG_HEAD_AT}
use Rattle.alloc_journal.specs.Work.{work_of}
use Rattle.alloc_journal.proofs.Words.{owner_head, stored_only, flush_only}
use Rattle.alloc_journal.proofs.LogSteps.{entries_fenced, head_stored, head_flushed, log_done}
use Rattle.alloc_journal.proofs.journal.Journal.log_step.Goals as goal

pub returns-in-EntriesInFlight-clause-shows : goal.returns-in-EntriesInFlight-clause-shows
returns-in-EntriesInFlight-clause-shows c = λ v saved h.
    entries_fenced (work_of c.args.self.now) (word_at c.args.nvm.now)
    (word_at c.fence.new.nvm) v saved c.in-EntriesInFlight.is c.fence.ensures.words h

pub returns-in-EntriesDurable-clause-rest : goal.returns-in-EntriesDurable-clause-rest
returns-in-EntriesDurable-clause-rest c =
    stored_only (word_at c.args.nvm.now) (word_at c.store.new.nvm) LOG_HEAD_AT _ owner_head c.store.ensures.words

pub returns-in-EntriesDurable-clause-shows : goal.returns-in-EntriesDurable-clause-shows
returns-in-EntriesDurable-clause-shows c = λ v saved h.
    head_stored (work_of c.args.self.now) (word_at c.args.nvm.now)
    (word_at c.store.new.nvm) v saved c.next_head.result c.in-EntriesDurable.is
    c.next_head.ensures c.store.ensures.words h

pub returns-in-HeadStored-clause-rest : goal.returns-in-HeadStored-clause-rest
returns-in-HeadStored-clause-rest c = flush_only (word_at c.args.nvm.now)
    (word_at c.flush.new.nvm) 0 LOG_HEAD_AT 8 c.flush.ensures.words

pub returns-in-HeadStored-clause-shows : goal.returns-in-HeadStored-clause-shows
returns-in-HeadStored-clause-shows c = λ v saved h.
    head_flushed (work_of c.args.self.now) (word_at c.args.nvm.now)
    (word_at c.flush.new.nvm) v saved 8 c.in-HeadStored.is (omega arith) c.flush.ensures.words h

pub returns-in-HeadInFlight-clause-shows : goal.returns-in-HeadInFlight-clause-shows
returns-in-HeadInFlight-clause-shows c = λ v saved h.
    log_done (work_of c.args.self.now) (word_at c.args.nvm.now)
    (word_at c.fence-in-HeadInFlight.new.nvm) v saved c.in-HeadInFlight.is c.fence-in-HeadInFlight.ensures.words h
