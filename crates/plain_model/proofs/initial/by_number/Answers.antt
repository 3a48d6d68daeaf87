use Rattle.std.proofs.Common.{◌∙◌, ap, map, length, Some, arith}
use Rattle.std.proofs.lemmas.List.{length-map}
use Rattle.plain_state.specs.Slow.{object_of, slot_of, objects_of}
use Rattle.plain_state.proofs.SlowMemory.{one_longer}
use Rattle.plain_model.proofs.SlowInitial.{objects_more, objects_from}
use Rattle.plain_model.proofs.initial.by_number.Goals as goal

pub loop-init : goal.loop-init
loop-init c =
    let objects = c.in_ok-objects.objects.items in
    let list = c.args.list.items in
    let same = c.in_ok-objects.ensures in
    let a = ap length same in
    let b = length-map objects slot_of in
    let d = length-map (map object_of list) Some in
    let e = length-map list object_of in
    record { count = grind arith; within = omega arith; same = objects_from objects (map object_of list) same }

pub loop-preserved : goal.loop-preserved
loop-preserved c =
    let objects = c.loop.objects.items in
    let e = ap length c.in_ok-push.ensures.items ∙ one_longer objects _ in
    record {
      count = omega arith;
      within = omega arith;
      same = ap objects_of c.in_ok-push.ensures.items ∙ objects_more objects ∙ c.loop.invariant.same;
    }
