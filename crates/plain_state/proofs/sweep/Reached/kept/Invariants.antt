use Rattle.std.proofs.Common.{◌≡◌, take}
use Rattle.std.specs.Prelude.{filter}
use Rattle.plain_state.specs.SlowSweep.{has}
use Rattle.plain_state.proofs.sweep.Reached.kept.Given as goal

abbrev pub invariant-loop-id : goal.invariant-loop-id
invariant-loop-id l = l.kept.items ≡ filter (has l.self) (take l.id-index l.ids)
