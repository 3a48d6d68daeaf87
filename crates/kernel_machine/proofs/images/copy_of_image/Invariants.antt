use Rattle.std.proofs.Common.{◌≡◌, map, take, vec_len, vec_capacity, ◌≤◌}
use Rattle.boot_image.specs.Values.{program_value}
use Rattle.kernel_machine.proofs.images.copy_of_image.Given as goal

abbrev pub invariant-loop-program : goal.invariant-loop-program
invariant-loop-program l = record {
  values : map program_value l.programs.items ≡ map program_value (take l.program-index l.image.programs.items);
  count : vec_len l.programs ≡ l.program-index;
  room : vec_len l.image.programs ≤ vec_capacity l.programs;
}
