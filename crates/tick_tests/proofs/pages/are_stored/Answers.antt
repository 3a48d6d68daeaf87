use Rattle.std.proofs.Common.{rules, ◌<◌, ◌≤◌, length, slice_index, subst, arith}
use Rattle.std.specs.Prelude.{All}
use Rattle.std.proofs.lemmas.List.{take_all}
use Rattle.std.proofs.lemmas.List.Elements.{All-more}
use Rattle.kernel_calls.specs.Needed.{IsFreshPage}
use Rattle.tick_tests.proofs.pages.are_stored.Goals as goal

pub loop-page-preserved : goal.loop-page-preserved
loop-page-preserved c =
    let i = c.loop-page.page-index in
    let below : i < length c.args.pages.now = omega arith in
    let here : IsFreshPage c.args.objects.now (slice_index c.args.pages.now i) → ⊥ = search rules in
    All-more (λ page. IsFreshPage c.args.objects.now page → ⊥) c.args.pages.now i 0 below c.loop-page.invariant here

pub returns : goal.returns
returns c = λ e.
    let i = c.loop-page.page-index in
    let end : length c.args.pages.now ≤ i = omega arith in
    subst (All (λ page. IsFreshPage c.args.objects.now page → ⊥)) (take_all i c.args.pages.now end) c.loop-page.invariant
