use Rattle.std.proofs.Common.{◌≡◌, map, take}
use Rattle.plain_state.specs.States as states
use Rattle.plain_state.specs.Sweep as plain
use Rattle.plain_state.specs.SlowSweep.{TellsReached}
use Rattle.plain_state.proofs.sweep.Reached.kept_on_cores.Given as goal

abbrev pub invariant-loop-core : goal.invariant-loop-core
invariant-loop-core l = (s : states.State) → TellsReached l.self s → l.kept.items ≡ map (plain.kept_on_core s) (take l.core-index l.cores)
