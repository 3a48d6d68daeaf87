use Rattle.std.proofs.Common.{rules}
use Rattle.plain_state.specs.States.{zero_registers}
use Rattle.plain_state.specs.Slow.{state_of}
use Rattle.plain_state.proofs.state.State.thread_at.Goals as goal

pub returns-in_default : goal.returns-in_default
unfolding zero_registers state_of
returns-in_default c = search rules

pub returns-in_default-2 : goal.returns-in_default-2
unfolding zero_registers state_of
returns-in_default-2 c = search rules
