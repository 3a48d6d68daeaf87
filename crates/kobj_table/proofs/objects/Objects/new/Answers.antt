use Rattle.std.proofs.Common.{rules, arith, ◌<◌}
use Rattle.kobj_table.specs.declared.slot.Slot.{Slot}
use Rattle.kobj_table.proofs.Nothing.{nothing_there}
use Rattle.kobj_table.proofs.objects.Objects.new.Goals as goal

pub returns-clause-slots : goal.returns-clause-slots
returns-clause-slots c =
    nothing_there c.from_fn.result (λ k within.
    let k_within : k < 128 = omega (arith, c.from_fn.ensures.items.long, within) in
    let one = c.from_fn.ensures.items.at k Slot.Empty k_within in
    search rules)

pub returns-clause-strays : goal.returns-clause-strays
returns-clause-strays c = λ i _ _. c.new.ensures.empty i
