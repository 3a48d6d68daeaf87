use Rattle.std.proofs.Common.{◌≡◌, ℕ, length, take, None}
use Rattle.std.specs.Prelude.{slice_index_or}
use Rattle.first_state.proofs.groups.group_of.Given as goal

abbrev pub invariant-loop-slot : goal.invariant-loop-slot
invariant-loop-slot l = record {
  size : length l.group.slots ≡ 32;
  same : (j : ℕ) → slice_index_or l.group.slots j None ≡ slice_index_or (take l.slot l.slots.items) j None;
}
