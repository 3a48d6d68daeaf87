use Rattle.std.proofs.Common.{◌≡◌, ◌+◌, ◌-◌, ◌<◌, ◌∙◌, ap, subst, drop, length, map, arith}
use Rattle.std.specs.List.{All}
use Rattle.plain_model.specs.Initial as plain
use Rattle.kobj_table.specs.Slots.{region_of}
use Rattle.first_state.proofs.Lists.{drop_next}
use Rattle.first_state.proofs.SpecRegions.{IsFromBehind, from_spec, no_overlap, regions_more, from_more, more_by_one}
use Rattle.first_state.proofs.spaces.space_over.Goals as goal

pub map-requires-clause-apart : goal.map-requires-clause-apart
map-requires-clause-apart c =
    let specs = c.args.specs.now in
    let m = c.loop-i.i - 1 in
    let next : c.loop-i.i ≡ m + 1 = omega (arith, c.loop-i-test.true) in
    no_overlap specs m _ c.index-specs-i.result c.region_over.result c.loop-i.space.regions.items c.requires.regions c.requires.apart (omega (arith, c.loop-i-test.true, c.loop-i.auto.i)) c.index-specs-i.is c.region_over.ensures
    (subst (λ k. All (IsFromBehind specs k) c.loop-i.space.regions.items) next c.loop-i.invariant.from)

pub loop-i-preserved : goal.loop-i-preserved
loop-i-preserved c =
    let specs = c.args.specs.now in
    let m = c.loop-i.i - 1 in
    let spec = c.index-specs-i.result in
    let old = c.loop-i.space.regions.items in
    let new = c.map.new.self.regions.items in
    let region = c.region_over.result in
    let next : c.loop-i.i ≡ m + 1 = omega (arith, c.loop-i-test.true) in
    let inside : m < length specs = omega (arith, c.loop-i-test.true, c.loop-i.auto.i) in
    let same : c.args.n + (m + 1) ≡ c.args.n + m + 1 = omega arith in
    let was : map region_of old ≡ plain.program_regions (drop (m + 1) specs) (c.args.n + m + 1) =
    c.loop-i.invariant.regions ∙ (ap (λ k. plain.program_regions (drop k specs) (c.args.n + k)) next ∙ ap (plain.program_regions (drop (m + 1) specs)) same) in
    let first = drop_next specs m spec inside c.index-specs-i.is in
    let longer = more_by_one region old new c.map.ensures.by_place in
    record {
      space = c.map.ensures.space;
      regions = regions_more (drop m specs) (drop (m + 1) specs) spec (c.args.n + m) region old new first c.region_over.ensures was c.map.ensures.by_place;
      count = omega (arith, longer, c.loop-i.invariant.count, c.loop-i-test.true);
      from = from_more specs m region old new c.map.ensures.members (from_spec specs m _ spec region inside c.index-specs-i.is c.region_over.ensures)
          (subst (λ k. All (IsFromBehind specs k) old) next c.loop-i.invariant.from);
    }
