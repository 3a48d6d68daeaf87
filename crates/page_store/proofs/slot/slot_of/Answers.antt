use Rattle.std.proofs.Common.{sym}
use Rattle.pmem_model.specs.Memory.{word_at}
use Rattle.page_store.specs.Slots.{Backup, HasSlot, durable_words}
use Rattle.page_store.proofs.slot.slot_of.Goals as goal

pub returns-in-Of-clause-content : goal.returns-in-Of-clause-content
returns-in-Of-clause-content c = λ pages h.
    let read = rw (c.in-Of.is, c.durable.ensures, c.backup_tag_at.ensures.at, c.if-tagged-version.true) at c.from_word.ensures.read in
    let has : HasSlot (durable_words (word_at c.args.nvm.now)) c.args.page Backup c.args.version = sym read in
    rw c.backup_frame.ensures.frame ((h.each c.args.page c.requires).slot Backup has)
