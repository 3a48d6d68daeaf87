use Rattle.std.proofs.Common.{◌≡◌, ◌∙◌, ap, sym, arith, false}
use Rattle.std.specs.Prelude.{is_none, Option, option_map, nat_le}
use Rattle.std.proofs.lemmas.Bool.Decides.{nat_tests}
use Rattle.sls_base.specs.declared.limits.TheConstants.{GROUP_SLOTS}
use Rattle.plain_state.specs.declared.objects.Capability.{Capability}
use Rattle.kobj_table.specs.Slots.{capability_of}
use Rattle.call_readings.proofs.Caps.{found_cap, none_by_test, none_converted}
use Rattle.call_readings.proofs.refusals.no_cap_there.Goals as goal

pub returns-else-is_none : goal.returns-else-is_none
returns-else-is_none c content =
    let e = sym c.in-Some-Group.ensures.some ∙ c.in-Some-Group.field-0-is in
    let low : nat_le GROUP_SLOTS c.args.place ≡ false = grind (arith, nat_tests) in
    let same = ap (option_map capability_of) c.find.ensures.held ∙ found_cap c.in-Some-Group.group.slots c.args.place in
    rw e (rw low (none_by_test c.find.result c.is_none.result c.is_none.ensures ∙ sym (none_converted c.find.result)
    ∙ ap (λ (o : Option Capability). is_none o) same))
