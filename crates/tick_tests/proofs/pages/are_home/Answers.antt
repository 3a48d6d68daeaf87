use Rattle.std.proofs.Common.{rules, ◌≡◌, ◌<◌, ◌≤◌, true, length, slice_index, subst, arith}
use Rattle.std.specs.Prelude.{All}
use Rattle.std.proofs.lemmas.List.{take_all}
use Rattle.std.proofs.lemmas.List.Elements.{All-more}
use Rattle.call_readings.specs.Content.{is_page_home}
use Rattle.tick_tests.proofs.pages.are_home.Goals as goal

pub loop-page-preserved : goal.loop-page-preserved
loop-page-preserved c =
    let i = c.loop-page.page-index in
    let below : i < length c.args.pages.now = omega arith in
    let here : is_page_home c.args.nvm.now (slice_index c.args.pages.now i) ≡ true = search rules in
    All-more (λ page. is_page_home c.args.nvm.now page ≡ true) c.args.pages.now i 0 below c.loop-page.invariant here

pub returns : goal.returns
returns c = λ e.
    let i = c.loop-page.page-index in
    let end : length c.args.pages.now ≤ i = omega arith in
    subst (All (λ page. is_page_home c.args.nvm.now page ≡ true)) (take_all i c.args.pages.now end) c.loop-page.invariant
