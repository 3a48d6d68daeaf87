use Rattle.std.proofs.Common.{◌≡◌, ℕ, ◌<◌, false, slice_index_or, length}
use Rattle.tree_walk.specs.Reached.{has}
use Rattle.tree_walk.proofs.reached.reach.Given as goal

abbrev pub invariant-loop-id : goal.invariant-loop-id
invariant-loop-id l = record {
  whole : length l.is ≡ 128;
  told : (i : ℕ) → i < l.id → slice_index_or l.is i false ≡ has l.reached i;
}
