use Rattle.std.proofs.Common.{◌≡◌, ◌≤◌, ◌-◌, All, length}
use Rattle.std.specs.List.{range_with_len, filter_map}
use Rattle.plain_state.specs.Memory as plain
use Rattle.plain_state.specs.InPages.{IsInPage}
use Rattle.plain_state.proofs.memory.places_of.Given as goal

abbrev pub invariant-loop-address : goal.invariant-loop-address
invariant-loop-address l = record {
  places : l.places.items ≡ filter_map (plain.place_of l.regions l.right) (range_with_len l.at (l.address - l.at));
  count : length l.places.items ≤ l.address - l.at;
  in_pages : All IsInPage l.places.items;
}
