use Rattle.std.proofs.Common.{◌≡◌, ◌<◌, ℕ, false, length, slice_index_or}
use Rattle.plain_model.specs.Sweep.{is_swept_otherwise}
use Rattle.kobj_table.specs.Objects.{Rest, state_of}
use Rattle.tree_walk.specs.Reached.{TellsReached}
use Rattle.tree_walk.proofs.reached.Reached.changes.Given as goal

abbrev pub invariant-loop-number : goal.invariant-loop-number
invariant-loop-number l = record {
  whole : length l.changes ≡ 128;
  told : (rest : Rest) (i : ℕ) → TellsReached l.self (state_of l.objects rest) → i < l.number → slice_index_or l.changes i false ≡ is_swept_otherwise (state_of l.objects rest) i;
}
