use Rattle.std.proofs.Common.{◌≡◌, ◌≤◌, ◌+◌, ◌++◌, drop, map, sum_by}
use Rattle.plain_model.specs.Initial as plain
use Rattle.plain_state.specs.Slow.{object_of}
use Rattle.plain_model.proofs.initial.add_memories.Given as goal

abbrev pub invariant-loop-spec : goal.invariant-loop-spec
invariant-loop-spec l = record {
  objects : map object_of l.list.items ++ plain.program_memories (drop l.spec-index l.specs) l.next ≡ map object_of l.initial.list.items ++ plain.program_memories l.specs l.k;
  pages : l.next + sum_by plain.pages_taken (drop l.spec-index l.specs) ≤ 512;
}
