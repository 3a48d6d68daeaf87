use Rattle.std.proofs.Common.{◌≡◌, ◌+◌, length, map, drop}
use Rattle.std.specs.List.{All}
use Rattle.mem_space.specs.Space.{IsSpace}
use Rattle.plain_model.specs.Initial as plain
use Rattle.kobj_table.specs.Slots.{region_of}
use Rattle.first_state.proofs.SpecRegions.{IsFromBehind}
use Rattle.first_state.proofs.spaces.space_over.Given as goal

abbrev pub invariant-loop-i : goal.invariant-loop-i
invariant-loop-i l = record {
  space : IsSpace l.space;
  regions : map region_of l.space.regions.items ≡ plain.program_regions (drop l.i l.specs) (l.n + l.i);
  count : length l.space.regions.items + l.i ≡ length l.specs;
  from : All (IsFromBehind l.specs l.i) l.space.regions.items;
}
