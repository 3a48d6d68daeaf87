use Rattle.std.proofs.Common.{◌≡◌, ◌-◌, length, take}
use Rattle.std.specs.Prelude.{slice_get}
use Rattle.link_lists.specs.Lists.{list_at}
use Rattle.object_records.proofs.taking.list_of.Given as goal

abbrev pub invariant-loop-next : goal.invariant-loop-next
invariant-loop-next l =
    let threads = list_at l.objects.links l.list in
    record {
      read : l.threads.items ≡ take (length l.threads.items) threads;
      ahead : l.next ≡ slice_get threads (length l.threads.items);
    }

abbrev pub decreases-loop-next : goal.decreases-loop-next
decreases-loop-next l = length (list_at l.objects.links l.list) - length l.threads.items
