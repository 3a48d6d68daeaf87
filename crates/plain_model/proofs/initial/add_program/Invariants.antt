use Rattle.std.proofs.Common.{◌≡◌, ◌++◌, map}
use Rattle.std.specs.List.{range_with_len}
use Rattle.plain_model.specs.Initial as plain
use Rattle.plain_state.specs.Slow.{object_of}
use Rattle.plain_model.proofs.initial.add_program.Given as goal

abbrev pub invariant-loop-j : goal.invariant-loop-j
invariant-loop-j l = map object_of l.list.items ≡ map object_of l.initial.list.items ++ map (plain.program_thread l.program l.n) (range_with_len 0 l.j)
