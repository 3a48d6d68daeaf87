use Rattle.std.specs.Prelude.{◌≡◌, length}
use Rattle.std.proofs.Common.{arith, rules}
use Rattle.std.proofs.lemmas.List.{get_or_past}
use Rattle.kobj_table.specs.declared.slot.Slot.{Slot}
use Rattle.leader_helper.proofs.sweeping.no_more_slots.Goals as goal

pub returns : goal.returns
returns c i past =
    let whole : length c.args.objects.now.slots ≡ 128 = search rules in
    get_or_past c.args.objects.now.slots i Slot.Empty (omega arith)
