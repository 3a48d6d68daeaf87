use Rattle.std.proofs.Common.{w64}
use Rattle.std.proofs.lemmas.Nat.Bits.{bit_at_set_same, bit_at_set_other, bit_at_clear_same, bit_at_clear_other}
use Rattle.pmem_layout.proofs.base.with_bit.Goals as goal

pub returns-then-in_use-clause-changed : goal.returns-then-in_use-clause-changed
returns-then-in_use-clause-changed c = rw c.if-in_use.true (bit_at_set_same w64 c.args.word c.args.bit c.requires)

pub returns-then-in_use-clause-others : goal.returns-then-in_use-clause-others
returns-then-in_use-clause-others c = λ other inside apart. bit_at_set_other w64 c.args.word c.args.bit c.requires other apart

pub returns-else-in_use-clause-changed : goal.returns-else-in_use-clause-changed
returns-else-in_use-clause-changed c = rw c.if-in_use.false (bit_at_clear_same w64 c.args.word c.args.bit c.requires)

pub returns-else-in_use-clause-others : goal.returns-else-in_use-clause-others
returns-else-in_use-clause-others c = λ other inside apart. bit_at_clear_other w64 c.args.word c.args.bit c.requires other inside apart
