use Rattle.std.proofs.Common.{◌∙◌, ap, sym}
use Rattle.std.specs.Prelude.{is_none, Option, ℕ}
use Rattle.call_readings.proofs.Caps.{first_free, none_by_test}
use Rattle.call_readings.proofs.refusals.no_slot.Goals as goal

pub returns-in-Some-Group : goal.returns-in-Some-Group
returns-in-Some-Group c content =
    let e = sym c.in-Some-Group.ensures.some ∙ c.in-Some-Group.field-0-is in
    rw e (none_by_test c.lowest_free.result c.is_none.result c.is_none.ensures
    ∙ ap (λ (o : Option ℕ). is_none o) (c.lowest_free.ensures.first_free ∙ sym (first_free c.in-Some-Group.group.slots)))
