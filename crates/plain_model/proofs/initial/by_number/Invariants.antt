use Rattle.std.proofs.Common.{◌≡◌, ◌≤◌, map, length}
use Rattle.std.specs.Prelude.{slice_get}
use Rattle.plain_state.specs.Slow.{object_of, objects_of}
use Rattle.plain_model.proofs.initial.by_number.Given as goal

abbrev pub invariant-loop : goal.invariant-loop
invariant-loop l = record {
  count : length l.objects.items ≡ l.counter;
  within : l.counter ≤ 256;
  same : objects_of l.objects.items ≡ slice_get (map object_of l.fn.list.items);
}
