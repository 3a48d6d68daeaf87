use Rattle.std.proofs.Common.{◌≡◌, ◌<◌, ◌≤◌, ℕ}
use Rattle.plain_model.specs.States.{State}
use Rattle.kobj_table.specs.Objects.{slot_at}
use Rattle.tree_walk.specs.Reached.{TellsReached}
use Rattle.tree_walk.specs.Sweep.{left_at}
use Rattle.tree_walk.proofs.reached.Reached.sweep_slots.Given as goal

abbrev pub invariant-loop-id : goal.invariant-loop-id
invariant-loop-id l = record {
  left : (s : State) (i : ℕ) → TellsReached l.self s → i < l.id → slot_at l.objects i ≡ left_at s l.initial.objects i;
  past : (i : ℕ) → l.id ≤ i → slot_at l.objects i ≡ slot_at l.initial.objects i;
  links : l.objects.links ≡ l.initial.objects.links;
}
