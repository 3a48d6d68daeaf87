use Rattle.std.proofs.Common.{◌≡◌, ◌+◌, length, take}
use Rattle.std.specs.List.{flat_map}
use Rattle.first_state.specs.Content.{region_parts}
use Rattle.first_state.proofs.content.part_in.Given as goal

abbrev pub invariant-loop-region : goal.invariant-loop-region
invariant-loop-region l = l.page ≡ length (flat_map region_parts (take l.region-index l.regions)) + l.left
