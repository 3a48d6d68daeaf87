use Rattle.std.proofs.Common.{ap, length}
use Rattle.tree_walk.proofs.Lists.{none_marked}
use Rattle.tree_walk.proofs.walk.Walk.new.Goals as goal

pub invariant_of-walk-clause-listed : goal.invariant_of-walk-clause-listed
invariant_of-walk-clause-listed c i = rw c.new.ensures (none_marked 256 i)

pub invariant_of-walk-clause-once : goal.invariant_of-walk-clause-once
invariant_of-walk-clause-once c = ap length c.new.ensures
