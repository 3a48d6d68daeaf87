use Rattle.std.proofs.Common.{◌≡◌, ℕ, nat_lt}
use Rattle.tree_walk.specs.Reached.{has}
use Rattle.tree_walk.proofs.walk.Walk.new.Given as goal

abbrev pub invariant-loop-id : goal.invariant-loop-id
invariant-loop-id l = (i : ℕ) → has l.walk.reached i ≡ nat_lt i l.id
