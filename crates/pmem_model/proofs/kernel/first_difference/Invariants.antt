use Rattle.std.proofs.Common.{◌≡◌, ℕ, ◌≤◌, get_or, false, length}
use Rattle.pmem_model.specs.Parts.{is_touched}
use Rattle.pmem_model.proofs.kernel.first_difference.Given as goal

abbrev pub invariant-loop-rest : goal.invariant-loop-rest
invariant-loop-rest l = (i : ℕ) → l.from ≤ i → is_touched (length l.cached) l.rest i ≡ false → get_or l.cached i 0 ≡ get_or l.durable i 0

abbrev pub decreases-loop-rest : goal.decreases-loop-rest
decreases-loop-rest l = l.rest
