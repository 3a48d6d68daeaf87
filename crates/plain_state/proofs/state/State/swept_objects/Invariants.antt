use Rattle.std.proofs.Common.{◌≡◌, ℕ, ◌<◌, length}
use Rattle.plain_state.specs.Sweep as plain
use Rattle.plain_state.specs.Slow.{state_of, objects_of}
use Rattle.plain_state.proofs.state.State.swept_objects.Given as goal

abbrev pub invariant-loop-number : goal.invariant-loop-number
invariant-loop-number l = record {
  sized : length l.objects.items ≡ l.number;
  told : (k : ℕ) → k < l.number → objects_of l.objects.items k ≡ (plain.swept (state_of l.self)).objects k;
}
