use Rattle.std.proofs.Common.{◌≡◌, ℕ, ◌-◌, get_or, cond}
use Rattle.pmem_model.specs.Words.{is_within}
use Rattle.pmem_model.proofs.kernel.store.Given as goal

abbrev pub invariant-loop-k : goal.invariant-loop-k
invariant-loop-k l = (i : ℕ) → get_or l.cached i 0 ≡ cond (is_within l.at l.k i) (get_or l.words (i - l.at) 0) (get_or l.initial.cached i 0)
