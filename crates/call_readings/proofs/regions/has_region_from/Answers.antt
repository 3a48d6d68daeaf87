use Rattle.std.proofs.Common.{sym, ◌∙◌, ◌*◌, rules, tests, Bool, nat_eq}
use Rattle.std.proofs.lemmas.Iterator.{YieldsList-from_slice}
use Rattle.std.proofs.lemmas.Iterator.Search.{any_from_yields_List}
use Rattle.sls_base.specs.declared.limits.TheConstants.{PAGE_BYTES}
use Rattle.mem_space.specs.declared.region.Region.{Region}
use Rattle.plain_state.specs.declared.objects.Region.{Region as PlainRegion}
use Rattle.kobj_table.specs.Slots.{region_of}
use Rattle.call_readings.proofs.Converted.{any_converted}
use Rattle.call_readings.proofs.regions.has_region_from.Goals as goal

pub returns-in-Some-Space : goal.returns-in-Some-Space
returns-in-Some-Space c content =
    let e = sym c.in-Some-Space.ensures.some ∙ c.in-Some-Space.field-0-is in
    let regions = c.in-Some-Space.space.regions.items in
    let begins : PlainRegion → Bool = λ region. nat_eq (PAGE_BYTES * region.base) c.args.at in
    let p : Region → Bool = λ region. begins (region_of region) in
    rw e (any_from_yields_List p _ _ c.any.result c.any.ensures.ran (YieldsList-from_slice regions cc) (λ x b q k. search (rules, tests))
    ∙ any_converted region_of begins regions)
