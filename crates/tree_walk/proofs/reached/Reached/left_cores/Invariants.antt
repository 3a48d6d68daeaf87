use Rattle.std.proofs.Common.{◌≡◌}
use Rattle.plain_model.specs.States.{State}
use Rattle.tree_walk.specs.Reached.{TellsReached}
use Rattle.tree_walk.proofs.Cores.{left_on_first}
use Rattle.tree_walk.proofs.reached.Reached.left_cores.Given as goal

abbrev pub invariant-loop-core : goal.invariant-loop-core
invariant-loop-core l = record {
  count : l.left.cores ≡ l.cores.cores;
  swept : (s : State) → TellsReached l.self s → l.left.running ≡ left_on_first s l.core l.cores.running;
}
