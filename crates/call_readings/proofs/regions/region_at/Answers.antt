use Rattle.std.proofs.Common.{sym, ◌≡◌, ◌∙◌, ap, rules, tests, Bool}
use Rattle.std.specs.Prelude.{option_map, find}
use Rattle.std.proofs.lemmas.Iterator.{YieldsList-from_slice}
use Rattle.std.proofs.lemmas.Iterator.Search.{find_from_yields_List}
use Rattle.mem_space.specs.declared.region.Region.{Region}
use Rattle.plain_model.specs.Memory.{covers}
use Rattle.kobj_table.specs.Slots.{region_of}
use Rattle.call_readings.proofs.Converted.{find_converted}
use Rattle.call_readings.proofs.regions.region_at.Goals as goal

pub returns-in-Some-Space : goal.returns-in-Some-Space
returns-in-Some-Space c content =
    let e = sym c.in-Some-Space.ensures.some ∙ c.in-Some-Space.field-0-is in
    let regions = c.in-Some-Space.space.regions.items in
    let p : Region → Bool = λ region. covers c.args.right c.args.at (region_of region) in
    let found : c.copied.result ≡ find p regions =
    c.copied.ensures ∙ find_from_yields_List p _ _ c.find.result c.find.ensures.ran (YieldsList-from_slice regions cc) (λ x b q k. search (rules, tests)) in
    rw e (ap (option_map region_of) found ∙ find_converted region_of (covers c.args.right c.args.at) regions)
