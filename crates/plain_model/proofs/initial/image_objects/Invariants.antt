use Rattle.std.proofs.Common.{◌≡◌, ◌≤◌, ◌+◌, ◌++◌, All, drop, length, map, sum_by}
use Rattle.plain_model.specs.Initial as plain
use Rattle.plain_model.specs.Initial.{IsProgram}
use Rattle.plain_state.specs.Slow.{object_of}
use Rattle.plain_model.proofs.initial.image_objects.Given as goal

abbrev pub invariant-loop-program : goal.invariant-loop-program
invariant-loop-program l = record {
  objects : map object_of l.list.items ++ plain.programs_objects (drop l.program-index l.programs) l.n l.k ≡ plain.image_objects l.programs;
  count : length l.list.items ≡ l.n;
  room : l.n + sum_by plain.program_size (drop l.program-index l.programs) ≤ 128;
  pages : l.k + sum_by plain.program_pages (drop l.program-index l.programs) ≤ 512;
  programs : All IsProgram (drop l.program-index l.programs);
}
