use Rattle.std.proofs.Common.{◌≡◌, ℕ, ◌<◌, slice_index}
use Rattle.sls_kernel.specs.Words.{record_word}
use Rattle.sls_kernel.proofs.record.fill.Given as goal

abbrev pub invariant-loop-i : goal.invariant-loop-i
invariant-loop-i l = (i : ℕ) → i < l.i → slice_index l.words i ≡ record_word l.thread (slice_index l.put) i
