use Rattle.std.proofs.Common.{w64, arith}
use Rattle.std.proofs.lemmas.Nat.Bits.{bit_at-trailing_zeros}
use Rattle.alloc_journal.proofs.bits.lowest_bit.Goals as goal

pub returns-clause-set : goal.returns-clause-set
returns-clause-set c = let some = c.requires in (bit_at-trailing_zeros w64 c.args.word
    (omega (arith, some)) c.ranges.word.fits).1

pub returns-clause-below : goal.returns-clause-below
returns-clause-below c = let some = c.requires in (bit_at-trailing_zeros w64 c.args.word
    (omega (arith, some)) c.ranges.word.fits).2
