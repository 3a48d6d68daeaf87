use Rattle.std.proofs.Common.{◌≡◌, ℕ, nat_lt, length, false, slice_index_or}
use Rattle.plain_state.proofs.sweep.Reached.first.Given as goal

abbrev pub invariant-loop-id : goal.invariant-loop-id
invariant-loop-id l = record {
  whole : length l.is ≡ 256;
  told : (i : ℕ) → slice_index_or l.is i false ≡ nat_lt i l.id;
}
