use Rattle.std.proofs.Common.{◌-◌}
use Rattle.tree_walk.proofs.Walks.{Walks}
use Rattle.tree_walk.proofs.reached.Reached.of.Given as goal

abbrev pub invariant-loop-entered : goal.invariant-loop-entered
invariant-loop-entered l = Walks l.objects l.walk.reached l.walk.found.items l.entered

abbrev pub decreases-loop-entered : goal.decreases-loop-entered
decreases-loop-entered l = 256 - l.entered
