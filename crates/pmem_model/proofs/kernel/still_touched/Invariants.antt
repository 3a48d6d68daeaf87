use Rattle.pmem_model.specs.Kept.{IsKept}
use Rattle.pmem_model.proofs.kernel.still_touched.Given as goal

abbrev pub invariant-loop-part : goal.invariant-loop-part
invariant-loop-part l = IsKept l.cached l.durable l.marks l.left
