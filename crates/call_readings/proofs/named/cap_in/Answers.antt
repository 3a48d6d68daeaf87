use Rattle.std.proofs.Common.{sym, ◌∙◌, ap}
use Rattle.std.specs.Prelude.{option_map}
use Rattle.kobj_table.specs.Slots.{capability_of}
use Rattle.call_readings.proofs.Caps.{found_cap}
use Rattle.call_readings.proofs.named.cap_in.Goals as goal

pub returns-in-Some-Group : goal.returns-in-Some-Group
returns-in-Some-Group c content =
    let e = sym c.in-Some-Group.ensures.some ∙ c.in-Some-Group.field-0-is in
    rw e (ap (option_map capability_of) c.find.ensures.held ∙ found_cap c.in-Some-Group.group.slots c.args.slot)
