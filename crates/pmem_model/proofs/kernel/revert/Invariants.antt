use Rattle.std.proofs.Common.{◌≡◌, ℕ, ◌<◌, get_or, cond}
use Rattle.pmem_model.specs.Kept.{is_between}
use Rattle.pmem_model.proofs.kernel.revert.Given as goal

abbrev pub invariant-loop-i : goal.invariant-loop-i
invariant-loop-i l = record {
  none : l.past < l.first → l.i ≡ l.first;
  cached : (i : ℕ) → get_or l.cached i 0 ≡ cond (is_between l.first l.i i) (get_or l.durable i 0) (get_or l.initial.cached i 0);
}
