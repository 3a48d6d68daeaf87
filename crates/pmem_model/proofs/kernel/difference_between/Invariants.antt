use Rattle.std.proofs.Common.{◌≡◌, ℕ, ◌<◌, ◌≤◌, get_or}
use Rattle.pmem_model.proofs.kernel.difference_between.Given as goal

abbrev pub invariant-loop-i : goal.invariant-loop-i
invariant-loop-i l = (k : ℕ) → l.first ≤ k → k < l.i → get_or l.cached k 0 ≡ get_or l.durable k 0
