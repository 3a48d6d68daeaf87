use Rattle.std.proofs.Common.{◌≡◌, ℕ, ◌<◌, get_or, cond}
use Rattle.pmem_model.specs.Kept.{is_between}
use Rattle.pmem_model.proofs.kernel.clear.Given as goal

abbrev pub invariant-loop-i : goal.invariant-loop-i
invariant-loop-i l = record {
  none : l.past < l.first → l.i ≡ l.first;
  marks : (i : ℕ) → get_or l.marks i 0 ≡ cond (is_between l.first l.i i) 0 (get_or l.initial.marks i 0);
}
