use Rattle.std.proofs.Common.{◌≡◌, ◌<◌, ◌≤◌, ℕ}
use Rattle.kobj_table.specs.Objects.{slot_at}
use Rattle.object_records.specs.Marks.{marked}
use Rattle.object_records.proofs.marks.mark_page.Given as goal

abbrev pub invariant-loop-id : goal.invariant-loop-id
invariant-loop-id l = record {
  slots : (i : ℕ) → i < l.id → slot_at l.objects i ≡ marked l.page l.fresh (slot_at l.initial.objects i);
  past : (i : ℕ) → l.id ≤ i → slot_at l.objects i ≡ slot_at l.initial.objects i;
  links : l.objects.links ≡ l.initial.objects.links;
}
