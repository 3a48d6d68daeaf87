use Rattle.std.proofs.Common.{arith, w64}
use Rattle.std.proofs.lemmas.Bool.Decides.{nat_tests}
use Rattle.std.proofs.lemmas.Nat.Bits.{bit_at-trailing_zeros}
use Rattle.pmem_model.proofs.parts.first.Goals as goal

pub returns-clause-member : goal.returns-clause-member
returns-clause-member c = let h = bit_at-trailing_zeros w64 c.args.parts c.requires c.ranges.parts.fits in grind (arith, nat_tests, h.1)

pub returns-clause-least : goal.returns-clause-least
returns-clause-least c = λ part lt. let h = bit_at-trailing_zeros w64 c.args.parts c.requires c.ranges.parts.fits in grind (arith, nat_tests, h.2 part lt)
