use Rattle.std.proofs.Common.{◌<◌, ℕ, IsSome}
use Rattle.cap_group.specs.Group.{cap_at}
use Rattle.cap_group.proofs.group.Group.lowest_free.Given as goal

abbrev pub invariant-loop-slot : goal.invariant-loop-slot
invariant-loop-slot l = (k : ℕ) → k < l.slot → IsSome (cap_at l.self k)
