use Rattle.std.proofs.Common.{◌+◌, ◌==◌, ◌∙◌, ℕ, Bool, arith, rules, tests}
use Rattle.std.specs.List.{list_any}
use Rattle.std.proofs.lemmas.Iterator.{YieldsList-from_range}
use Rattle.std.proofs.lemmas.Iterator.Search.{any_from_yields_List}
use Rattle.plain_state.specs.declared.effect.Place.{Place}
use Rattle.plain_state.specs.Memory.{page_at, places_of}
use Rattle.plain_state.specs.Slow.{state_of}
use Rattle.plain_state.proofs.SlowPlaces.{any_place}
use Rattle.plain_state.proofs.state.State.is_on_page.Goals as goal

pub returns : goal.returns
returns c =
    let at = c.args.span.at in
    let count = c.args.span.count in
    let regions = c.args.regions.now in
    let test : Place → Bool = λ place. (page_at (state_of c.args.self.now).objects place).number == c.args.page in
    any_from_yields_List (λ (address : ℕ). list_any test (places_of regions c.args.right address 1)) _ _ c.any.result c.any.ensures.ran
    (YieldsList-from_range at (at + count) count (cc) (omega arith)) (λ x b q k. search (rules, tests))
    ∙ any_place test regions c.args.right at count
