use Rattle.std.proofs.Common.{◌≡◌, map, take, vec_len, vec_capacity, ◌≤◌}
use Rattle.boot_image.specs.Values.{region_value}
use Rattle.kernel_machine.proofs.images.copy_of_program.Given as goal

abbrev pub invariant-loop-region : goal.invariant-loop-region
invariant-loop-region l = record {
  values : map region_value l.regions.items ≡ map region_value (take l.region-index l.program.regions.items);
  count : vec_len l.regions ≡ l.region-index;
  room : vec_len l.program.regions ≤ vec_capacity l.regions;
}
