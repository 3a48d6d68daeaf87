use Rattle.std.proofs.Common.{◌+◌, ◌/◌, ◌∙◌, refl, arith}
use Rattle.pmem_model.specs.Memory.{word_at}
use Rattle.pmem_layout.specs.declared.places.TheConstants.{OBJECT_BASE_AT, BASE_BITS}
use Rattle.alloc_journal.specs.Work.{work_of}
use Rattle.alloc_journal.proofs.Words.{owner_base, stored_only}
use Rattle.alloc_journal.proofs.RedoSteps.{entry_redone, redone_exact}
use Rattle.alloc_journal.proofs.journal.Journal.redo_change.Goals as goal

pub returns-clause-rest : goal.returns-clause-rest
returns-clause-rest c =
    let inside = c.requires.number in
    stored_only (word_at c.args.nvm.now) (word_at c.store.new.nvm) (OBJECT_BASE_AT + c.args.change.number / BASE_BITS) _
    (owner_base (c.args.change.number / BASE_BITS) (omega (arith, inside))) c.store.ensures.words

pub returns-clause-shows : goal.returns-clause-shows
returns-clause-shows c = λ v saved says h.
    entry_redone (work_of c.args.self.now) (word_at c.args.nvm.now)
    (word_at c.store.new.nvm) v saved c.args.change.number _ c.put.new.bits
    c.requires.stage c.requires.some says.0
    (c.put.ensures.changed ∙ says.1) c.put.ensures.others refl c.store.ensures.words h

pub returns-clause-exact : goal.returns-clause-exact
returns-clause-exact c = λ v saved says h exact.
    redone_exact (work_of c.args.self.now) (word_at c.args.nvm.now) v saved c.args.change.number c.put.new.bits
    c.requires.stage c.requires.some says.0 (c.put.ensures.changed ∙ says.1) c.put.ensures.others h exact
