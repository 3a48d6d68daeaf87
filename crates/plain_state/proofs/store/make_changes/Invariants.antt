use Rattle.std.proofs.Common.{◌≡◌, map}
use Rattle.std.specs.Vec.Iter.{into_iter_items}
use Rattle.plain_state.specs.Ticks.{with_changes}
use Rattle.plain_state.specs.Slow.{change_of, objects_of}
use Rattle.plain_state.proofs.store.make_changes.Given as goal

abbrev pub invariant-loop-change : goal.invariant-loop-change
invariant-loop-change l =
    with_changes (objects_of l.objects) (map change_of (into_iter_items l.change-iterator)) ≡ with_changes (objects_of l.initial.objects) (map change_of l.fn.changes.items)
