use Rattle.std.proofs.Common.{◌≡◌, ◌≤◌, ◌+◌, ◌++◌, All, drop, length, map, sum_by}
use Rattle.plain_model.specs.Initial as plain
use Rattle.plain_model.specs.Initial.{IsProgram}
use Rattle.first_state.specs.Filled.{caps_of}
use Rattle.first_state.proofs.groups.root_group.Given as goal

abbrev pub invariant-loop-program : goal.invariant-loop-program
invariant-loop-program l = record {
  slots : caps_of l.slots.items ++ map plain.all_rights (plain.group_numbers (drop l.program-index l.programs) l.n) ≡ map plain.all_rights (plain.group_numbers l.programs 7);
  count : length l.slots.items ≡ l.program-index;
  objects : l.n + sum_by plain.program_size (drop l.program-index l.programs) ≤ 128;
  programs : All IsProgram (drop l.program-index l.programs);
}
