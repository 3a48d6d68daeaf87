use Rattle.std.proofs.Common.{◌+◌, ◌<◌, arith, length, Some}
use Rattle.pmem_model.proofs.Lift.{words_set}
use Rattle.pmem_model.proofs.SoundLemmas.{sound_after_return}
use Rattle.pmem_model.proofs.fences.put_back.Goals as goal

pub returns-clause-sound : goal.returns-clause-sound
returns-clause-sound c =
    sound_after_return c.args.banks.now.items c.args.flushes.now.items c.add_for_all.new.flushes.items c.args.frame c.marks_of_all.result c.args.bank
    c.requires.sound c.requires.frame c.requires.size c.add_for_all.ensures.cores c.marks_of_all.ensures c.add_for_all.ensures.had
    (let added = c.add_for_all.ensures.added in rw c.start.ensures at added)

pub returns-clause-words : goal.returns-clause-words
returns-clause-words c =
    let lt : 1 + c.args.frame < length c.args.banks.now.items = omega (arith, c.requires.sound.banks_sized.count) in
    words_set c.args.banks.now.items c.args.frame (Some c.args.bank) lt
