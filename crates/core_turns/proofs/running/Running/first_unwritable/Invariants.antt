use Rattle.std.proofs.Common.{◌<◌, ℕ, slice_index}
use Rattle.core_turns.specs.Turns.{IsWritable}
use Rattle.core_turns.proofs.running.Running.first_unwritable.Given as goal

abbrev pub invariant-loop-page : goal.invariant-loop-page
invariant-loop-page l = (k : ℕ) → k < l.page-index → IsWritable l.self (slice_index l.pages k)
