use Rattle.std.proofs.Common.{◌∙◌, ◌*◌, ℕ, subst, refl, arith}
use Rattle.pmem_model.specs.Memory.{word_at}
use Rattle.pmem_layout.specs.declared.places.TheConstants.{LOG_ENTRIES_AT}
use Rattle.pmem_layout.specs.Places.{log_entry_at}
use Rattle.alloc_journal.specs.Work.{work_of}
use Rattle.alloc_journal.proofs.Words.{IsStored, owner_entry, stored_only, flush_only}
use Rattle.alloc_journal.proofs.KeptLemmas.{kept_stored, kept_flushed}
use Rattle.alloc_journal.proofs.LogSteps.{entry_stored, entries_flushed}
use Rattle.alloc_journal.proofs.journal.Journal.log_entry.Goals as goal

pub returns-in-Some-clause-rest : goal.returns-in-Some-clause-rest
returns-in-Some-clause-rest c =
    let inside = c.in-Some.ensures.inside.1 in
    let few = c.requires.kept.room c.requires.stage c.in-Some.number inside c.in-Some.ensures.found in
    let f = word_at c.args.nvm.now in let g = word_at c.store.new.nvm in
    let stored : IsStored f g (log_entry_at c.args.self.now.entries) c.entry_word.result =
    subst (λ (p : ℕ). IsStored f g p c.entry_word.result) c.log_entry_at.ensures.at c.store.ensures.words in
    stored_only f g (log_entry_at c.args.self.now.entries) c.entry_word.result
    (owner_entry c.args.self.now.entries (omega (arith, few, inside))) stored

pub returns-in-Some-clause-shows : goal.returns-in-Some-clause-shows
returns-in-Some-clause-shows c = λ v saved h.
    let inside = c.in-Some.ensures.inside.1 in
    let few = c.requires.kept.room c.requires.stage c.in-Some.number inside c.in-Some.ensures.found in
    let f = word_at c.args.nvm.now in let g = word_at c.store.new.nvm in
    let stored : IsStored f g (log_entry_at c.args.self.now.entries) c.entry_word.result =
    subst (λ (p : ℕ). IsStored f g p c.entry_word.result) c.log_entry_at.ensures.at c.store.ensures.words in
    let says = c.entry_word.ensures.comes in
    entry_stored (work_of c.args.self.now) f g v saved c.in-Some.number c.entry_word.result c.put.new.bits c.requires.stage
    (omega (arith, few, inside)) inside c.in-Some.ensures.found
    (λ m lt. c.in-Some.ensures.least m (omega arith) lt) c.put.ensures.changed c.put.ensures.others
    c.entry_word.ensures.number (says ∙ c.has-comes.ensures) stored h

pub returns-in-None-clause-rest : goal.returns-in-None-clause-rest
returns-in-None-clause-rest c = flush_only (word_at c.args.nvm.now) (word_at c.flush.new.nvm) 0 LOG_ENTRIES_AT
    (8 * c.entry_lines.result) c.flush.ensures.words

pub returns-in-None-clause-shows : goal.returns-in-None-clause-shows
returns-in-None-clause-shows c = λ v saved h.
    entries_flushed (work_of c.args.self.now) (word_at c.args.nvm.now) (word_at c.flush.new.nvm) v saved
    (8 * c.entry_lines.result) c.requires.stage
    c.entry_lines.ensures.all (λ m lt. c.in-None.ensures.none refl m (omega arith) lt) c.flush.ensures.words h

pub returns-in-Some-clause-kept : goal.returns-in-Some-clause-kept
returns-in-Some-clause-kept c =
    (kept_stored (work_of c.args.self.now) c.in-Some.number c.put.new.bits c.requires.stage c.requires.kept c.in-Some.ensures.inside.1
    c.in-Some.ensures.found
    (λ m lt. c.in-Some.ensures.least m (omega arith) lt) c.put.ensures.changed c.put.ensures.others).0

pub returns-in-Some-clause-left : goal.returns-in-Some-clause-left
returns-in-Some-clause-left c =
    (kept_stored (work_of c.args.self.now) c.in-Some.number c.put.new.bits c.requires.stage c.requires.kept c.in-Some.ensures.inside.1
    c.in-Some.ensures.found
    (λ m lt. c.in-Some.ensures.least m (omega arith) lt) c.put.ensures.changed c.put.ensures.others).1

pub returns-in-None-clause-kept : goal.returns-in-None-clause-kept
returns-in-None-clause-kept c =
    (kept_flushed (work_of c.args.self.now) c.requires.stage c.requires.kept
    (λ m lt. c.in-None.ensures.none refl m (omega arith) lt)).0

pub returns-in-None-clause-left : goal.returns-in-None-clause-left
returns-in-None-clause-left c =
    (kept_flushed (work_of c.args.self.now) c.requires.stage c.requires.kept
    (λ m lt. c.in-None.ensures.none refl m (omega arith) lt)).1
