use Rattle.std.proofs.Common.{◌<◌, ◌≤◌, ◌∙◌, ℕ, List, ap, sym, refl, arith}
use Rattle.first_state.specs.Content as spec
use Rattle.first_state.proofs.Parts.{part_found, part_inside, parts_more}
use Rattle.first_state.proofs.content.part_in.Goals as goal

pub returns-in-None-clause-inside : goal.returns-in-None-clause-inside
returns-in-None-clause-inside c =
    let none : c.from.result ≤ c.loop-region.left → ⊥ = c.in-None.ensures in
    let below : c.loop-region.left < c.region-item.result.pages = omega (arith, none) in
    let inside = part_inside c.args.regions.now c.region-item.result c.loop-region.region-index c.args.page c.loop-region.left c.loop-region-test.true c.region-item.is c.loop-region.invariant below in
    (λ e. inside, λ e. refl)

pub returns-in-None-clause-part : goal.returns-in-None-clause-part
returns-in-None-clause-part c =
    let none : c.from.result ≤ c.loop-region.left → ⊥ = c.in-None.ensures in
    let below : c.loop-region.left < c.region-item.result.pages = omega (arith, none) in
    c.part_of.ensures ∙ (ap (λ (content : List ℕ). spec.part_of content c.loop-region.left) c.as_slice.ensures.value
    ∙ sym (part_found c.args.regions.now c.region-item.result c.loop-region.region-index c.args.page c.loop-region.left c.loop-region-test.true c.region-item.is c.loop-region.invariant below))

pub loop-region-preserved : goal.loop-region-preserved
loop-region-preserved c =
    let more = parts_more c.args.regions.now c.region-item.result c.loop-region.region-index c.loop-region-test.true c.region-item.is in
    let h = c.in-Some.ensures in
    omega (arith, more, h.0, h.1, c.loop-region.invariant)
