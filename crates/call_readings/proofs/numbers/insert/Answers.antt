use Rattle.std.proofs.Common.{arith}
use Rattle.call_readings.proofs.Members.{inserted}
use Rattle.call_readings.proofs.numbers.insert.Goals as goal

pub returns-clause-members : goal.returns-clause-members
returns-clause-members c other =
    inserted c.args.words.now c.args.number other c.with_bit.result (omega (arith, c.requires)) c.with_bit.ensures.changed c.with_bit.ensures.others
