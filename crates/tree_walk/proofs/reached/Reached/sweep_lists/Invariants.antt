use Rattle.std.proofs.Common.{◌≡◌, ◌<◌, ◌≤◌, ℕ}
use Rattle.link_lists.specs.Lists.{list_at}
use Rattle.tree_walk.proofs.SweptLists.{list_swept}
use Rattle.tree_walk.proofs.reached.Reached.sweep_lists.Given as goal

abbrev pub invariant-loop-list : goal.invariant-loop-list
invariant-loop-list l = record {
  swept : (i : ℕ) → i < l.list → list_at l.objects.links i ≡ list_swept l.self l.initial.objects i;
  past : (i : ℕ) → l.list ≤ i → list_at l.objects.links i ≡ list_at l.initial.objects.links i;
  slots : l.objects.slots ≡ l.initial.objects.slots;
}
