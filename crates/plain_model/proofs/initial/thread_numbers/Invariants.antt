use Rattle.std.proofs.Common.{◌≡◌, map}
use Rattle.std.specs.Prelude.{filter, slice_get}
use Rattle.std.specs.List.{range_with_len}
use Rattle.plain_state.specs.Objects as objects
use Rattle.plain_state.specs.Slow.{object_of}
use Rattle.plain_model.proofs.initial.thread_numbers.Given as goal

abbrev pub invariant-loop-i : goal.invariant-loop-i
invariant-loop-i l = l.queue.items ≡ filter (λ i. objects.is_thread (slice_get (map object_of l.list) i)) (range_with_len 0 l.i)
