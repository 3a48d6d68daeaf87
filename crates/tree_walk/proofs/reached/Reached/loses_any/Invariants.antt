use Rattle.link_lists.specs.Lists.{list_at}
use Rattle.tree_walk.proofs.Along.{left_from}
use Rattle.tree_walk.proofs.Loses.{PassesNone}
use Rattle.tree_walk.proofs.reached.Reached.loses_any.Given as goal

abbrev pub invariant-loop-thread : goal.invariant-loop-thread
invariant-loop-thread l = PassesNone l.self (list_at l.objects.links l.list) l.thread

abbrev pub decreases-loop-thread : goal.decreases-loop-thread
decreases-loop-thread l = left_from (list_at l.objects.links l.list) l.thread
