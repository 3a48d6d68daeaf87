use Rattle.std.proofs.Common.{◌≡◌, ◌≢◌, ℕ}
use Rattle.std.specs.Prelude.{◌&&◌}
use Rattle.link_lists.specs.Lists.{list_at}
use Rattle.tree_walk.specs.Reached.{has}
use Rattle.tree_walk.proofs.Along.{left_from}
use Rattle.tree_walk.proofs.Leaving.{Sweeps}
use Rattle.tree_walk.proofs.reached.Reached.sweep_list.Given as goal

abbrev pub invariant-loop-thread : goal.invariant-loop-thread
invariant-loop-thread l = record {
  sweeps : Sweeps (λ id. has l.self l.list && has l.self id) (list_at l.initial.objects.links l.list) (list_at l.objects.links l.list) l.thread;
  others : (i : ℕ) → i ≢ l.list → list_at l.objects.links i ≡ list_at l.initial.objects.links i;
  slots : l.objects.slots ≡ l.initial.objects.slots;
}

abbrev pub decreases-loop-thread : goal.decreases-loop-thread
decreases-loop-thread l = left_from (list_at l.initial.objects.links l.list) l.thread
