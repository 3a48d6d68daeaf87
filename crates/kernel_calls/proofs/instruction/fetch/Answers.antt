use Rattle.std.proofs.Common.{arith}
use Rattle.kobj_table.specs.Objects.{state_of}
use Rattle.kernel_calls.proofs.instruction.fetch.Goals as goal

pub returns : goal.returns
unfolding state_of
returns c rest reads = c.number_at.ensures rest.content reads (omega (arith, c.requires.aligned))
