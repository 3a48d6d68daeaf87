use Rattle.std.proofs.Common.{◌≡◌, ◌≢◌, ℕ, ◌<◌, ◌≤◌, length, take, get_or}
use Rattle.link_lists.specs.Lists.{list_at, IsFree}
use Rattle.kobj_table.specs.Objects.{slot_at}
use Rattle.object_records.specs.Records.{slot_of, threads_of}
use Rattle.object_records.proofs.putting.put_back.Given as goal

abbrev pub invariant-loop-thread : goal.invariant-loop-thread
invariant-loop-thread l =
    let ids = threads_of l.obj in
    record {
      here : list_at l.objects.links l.id ≡ take l.thread-index ids;
      others : (i : ℕ) → i ≢ l.id → list_at l.objects.links i ≡ list_at l.fn.objects.links i;
      slot : slot_at l.objects l.id ≡ slot_of l.obj;
      slots : (i : ℕ) → i ≢ l.id → slot_at l.objects i ≡ slot_at l.fn.objects i;
      free : (j : ℕ) → l.thread-index ≤ j → j < length ids → IsFree l.objects.links (get_or ids j 0);
    }
