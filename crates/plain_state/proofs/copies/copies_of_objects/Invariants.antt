use Rattle.std.proofs.Common.{◌≡◌, map, take}
use Rattle.plain_state.specs.Slow.{slot_of}
use Rattle.plain_state.proofs.copies.copies_of_objects.Given as goal

abbrev pub invariant-loop-object : goal.invariant-loop-object
invariant-loop-object l = map slot_of l.copies.items ≡ map slot_of (take l.object-index l.objects)
