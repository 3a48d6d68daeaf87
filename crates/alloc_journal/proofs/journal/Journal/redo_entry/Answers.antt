use Rattle.std.proofs.Common.{◌≡◌, ◌∙◌, ap, arith}
use Rattle.pmem_model.specs.Memory.{word_at}
use Rattle.pmem_layout.specs.declared.places.TheConstants.{OBJECT_BASE_AT}
use Rattle.pmem_layout.specs.Places.{log_entry_at}
use Rattle.alloc_journal.specs.Format.{number_of, comes}
use Rattle.alloc_journal.specs.Work.{work_of}
use Rattle.alloc_journal.proofs.Words.{flush_only}
use Rattle.alloc_journal.proofs.RedoSteps.{base_flushed}
use Rattle.alloc_journal.proofs.journal.Journal.redo_entry.Goals as goal

pub returns-in-Some-clause-shows : goal.returns-in-Some-clause-shows
returns-in-Some-clause-shows c = λ v saved h.
    let f = word_at c.args.nvm.now in
    let read : c.read.result ≡ (f (log_entry_at c.args.self.now.redone)).cached = c.read.ensures
    ∙ ap (λ p. (f p).cached) c.log_entry_at.ensures.at in
    let found = c.in-Some.ensures.found in
    c.redo_change.ensures.shows v saved (found.0 ∙ ap number_of read, found.1 ∙ ap comes read) h

pub returns-in-Some-clause-exact : goal.returns-in-Some-clause-exact
returns-in-Some-clause-exact c = λ v saved h exact.
    let f = word_at c.args.nvm.now in
    let read : c.read.result ≡ (f (log_entry_at c.args.self.now.redone)).cached = c.read.ensures
    ∙ ap (λ p. (f p).cached) c.log_entry_at.ensures.at in
    let found = c.in-Some.ensures.found in
    c.redo_change.ensures.exact v saved (found.0 ∙ ap number_of read, found.1 ∙ ap comes read) h exact

pub returns-else-self-clause-rest : goal.returns-else-self-clause-rest
returns-else-self-clause-rest c = flush_only (word_at c.args.nvm.now)
    (word_at c.flush.new.nvm) 0 OBJECT_BASE_AT 16 c.flush.ensures.words

pub returns-else-self-clause-shows : goal.returns-else-self-clause-shows
returns-else-self-clause-shows c = λ v saved h.
    base_flushed (work_of c.args.self.now) (word_at c.args.nvm.now)
    (word_at c.flush.new.nvm) v saved 16 c.requires.stage
    c.if-self.false (omega arith) c.flush.ensures.words h
