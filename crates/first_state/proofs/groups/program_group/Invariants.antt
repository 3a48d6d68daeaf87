use Rattle.std.proofs.Common.{◌≡◌, ◌+◌, ◌-◌, ◌++◌, map, length}
use Rattle.std.specs.List.{range_with_len}
use Rattle.plain_model.specs.Initial as plain
use Rattle.plain_model.specs.InitialParts.{channel_caps}
use Rattle.first_state.specs.Filled.{caps_of}
use Rattle.first_state.proofs.groups.program_group.Given as goal

abbrev pub invariant-loop-own : goal.invariant-loop-own
invariant-loop-own l = record {
  count : length l.slots.items ≡ l.own + 6;
  same : caps_of l.slots.items ≡ channel_caps l.program l.n ++ map plain.all_rights (range_with_len (l.n + 2) (l.own - 2));
}
