use Rattle.std.proofs.Common.{◌≡◌, ℕ, get_or, cond, true, length}
use Rattle.pmem_model.specs.Parts.{has_part, is_touched}
use Rattle.pmem_model.proofs.kernel.cut.Given as goal

abbrev pub invariant-loop-rest : goal.invariant-loop-rest
invariant-loop-rest l = record {
  inside : (part : ℕ) → has_part l.rest part ≡ true → has_part l.touched part ≡ true;
  cached : (i : ℕ) → get_or l.cached i 0 ≡ cond (is_touched (length l.initial.cached) l.touched i)
      (cond (is_touched (length l.initial.cached) l.rest i) (get_or l.initial.cached i 0) (get_or l.durable i 0)) (get_or l.initial.cached i 0);
  marks : (i : ℕ) → get_or l.marks i 0 ≡ cond (is_touched (length l.initial.cached) l.touched i)
      (cond (is_touched (length l.initial.cached) l.rest i) (get_or l.initial.marks i 0) 0) (get_or l.initial.marks i 0);
}

abbrev pub decreases-loop-rest : goal.decreases-loop-rest
decreases-loop-rest l = l.rest
