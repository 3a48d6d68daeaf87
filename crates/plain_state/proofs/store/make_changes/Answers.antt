use Rattle.std.proofs.Common.{◌≡◌, arith, length}
use Rattle.std.specs.Vec.Iter.{into_iter_items}
use Rattle.plain_state.specs.Slow.{objects_of}
use Rattle.plain_state.proofs.SlowTicks.{change_made, changes_made}
use Rattle.plain_state.proofs.store.make_changes.Goals as goal

pub loop-change-preserved : goal.loop-change-preserved
loop-change-preserved c =
    change_made (objects_of c.loop-change.objects) (objects_of c.make_change.new.objects) c.in-Some.change (into_iter_items c.loop-change.change-iterator) (into_iter_items c.next.new.self) _
    c.make_change.ensures.changed c.in-Some.ensures.steps.0 c.loop-change.invariant

pub returns-clause-changed : goal.returns-clause-changed
returns-clause-changed c =
    let none : length (into_iter_items c.loop-change.change-iterator) ≡ 0 = omega (arith, c.in-None.ensures.steps.0, c.loop-change.change-iterator.rest.ok) in
    changes_made (objects_of c.loop-change.objects) (into_iter_items c.loop-change.change-iterator) _ none c.loop-change.invariant
