use Rattle.plain_state.specs.Slow.{state_of}
use Rattle.plain_state.specs.SlowSweep.{TellsWithin}
use Rattle.plain_state.proofs.state.State.reached.Given as goal

abbrev pub invariant-loop : goal.invariant-loop
invariant-loop l = TellsWithin l.reached (state_of l.self) l.counter
