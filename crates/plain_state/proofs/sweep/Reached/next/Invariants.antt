use Rattle.std.proofs.Common.{◌≡◌, ℕ, ◌+◌, ◌<◌, length, false, slice_index_or}
use Rattle.plain_state.specs.Sweep.{is_within}
use Rattle.plain_state.specs.Slow.{state_of}
use Rattle.plain_state.specs.SlowSweep.{TellsWithin}
use Rattle.plain_state.proofs.sweep.Reached.next.Given as goal

abbrev pub invariant-loop-number : goal.invariant-loop-number
invariant-loop-number l = record {
  whole : length l.is ≡ 256;
  told : (n : ℕ) → TellsWithin l.self (state_of l.state) n → (i : ℕ) → i < l.number → slice_index_or l.is i false ≡ is_within (state_of l.state) (n + 1) i;
}
