use Rattle.std.proofs.Common.{◌∙◌, ap, sym, Bool, ◌==◌}
use Rattle.std.specs.Prelude.{◌||◌}
use Rattle.plain_state.specs.declared.objects.Region.{Region}
use Rattle.plain_model.specs.Sweep.{leads_to}
use Rattle.kobj_table.specs.declared.slot.Slot.{Slot}
use Rattle.kobj_table.specs.Slots.{object_of, region_of}
use Rattle.tree_walk.specs.Reached.{has}
use Rattle.tree_walk.proofs.Lists.{any_map}
use Rattle.tree_walk.proofs.walk.Walk.follow.Goals as goal

pub returns-in-Space-clause-reached : goal.returns-in-Space-clause-reached
returns-in-Space-clause-reached c content threads i =
    let mapped = sym (any_map (λ (region : Region). region.memory == i) region_of c.in-Space.space.regions.items) in
    let regions = c.as_slice.ensures.value in
    rw regions at (c.find_mapped.ensures.reached i)
    ∙ (ap (λ (b : Bool). has c.args.self.now.reached i || b) mapped
    ∙ ap (λ (slot : Slot). has c.args.self.now.reached i || leads_to (object_of content slot threads) i) (sym c.in-Space.is))
