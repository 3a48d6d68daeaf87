use Rattle.std.proofs.Common.{◌≡◌, ◌++◌, map}
use Rattle.std.specs.List.{range_with_len}
use Rattle.plain_state.specs.Objects as plain
use Rattle.plain_state.specs.Slow.{object_of}
use Rattle.plain_model.proofs.initial.fixed_objects.Given as goal

abbrev pub invariant-loop-channel : goal.invariant-loop-channel
invariant-loop-channel l = map object_of l.list.items ≡ map object_of l.initial.list.items ++ map plain.OutputRing (range_with_len 0 l.channel)
