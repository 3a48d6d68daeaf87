use Rattle.std.proofs.Common.{◌≡◌, ◌+◌, ◌<◌, arith, length, None, Some, sym}
use Rattle.std.proofs.lemmas.Grind.{common_steps}
use Rattle.pmem_model.specs.Places.{bank_at}
use Rattle.pmem_model.proofs.Lift.{words_set, frame_word}
use Rattle.pmem_model.proofs.fences.take.Goals as goal

pub returns-clause-lent : goal.returns-clause-lent
returns-clause-lent c =
    let is : bank_at c.args.banks.now.items (1 + c.args.frame) ≡ Some c.in-Some.bank = grind (arith, common_steps) in
    λ o lt. sym (frame_word c.args.banks.now.items c.args.frame o c.in-Some.bank is lt)

pub returns-clause-words : goal.returns-clause-words
returns-clause-words c =
    let lt : 1 + c.args.frame < length c.args.banks.now.items = omega (arith, c.requires.sound.banks_sized.count) in
    rw c.take.ensures.after (words_set c.args.banks.now.items c.args.frame None lt)
