use Rattle.std.proofs.Common.{◌≡◌, map, Some}
use Rattle.plain_state.specs.Slow.{slot_of, object_of}
use Rattle.plain_model.proofs.initial.there.Given as goal

abbrev pub invariant-loop-object : goal.invariant-loop-object
invariant-loop-object l = map slot_of l.objects.items ≡ map Some (map object_of l.yielded)
