use Rattle.std.proofs.Common.{◌≡◌, ◌∙◌, ◌+◌, ◌-◌, ℕ, ap, sym, arith}
use Rattle.std.specs.Prelude.{◌||◌}
use Rattle.plain_model.specs.Objects.{regions_of}
use Rattle.kobj_table.specs.Objects.{object_at}
use Rattle.call_readings.specs.Need.{has_page}
use Rattle.call_readings.proofs.Reached.{is_at_on, on_ends, or_three}
use Rattle.call_readings.proofs.pages.add_span.Goals as goal

pub returns-clause-members : goal.returns-clause-members
returns-clause-members g c content page few =
    let objects = object_at content c.args.objects.now in
    let regions = regions_of (object_at content c.args.objects.now c.args.space) in
    let span = c.args.span in
    let old = has_page c.args.pages.now.items page in
    let on = λ (address : ℕ). is_at_on objects regions c.args.right page address in
    let first_is : c.from-first.result ≡ span.at = c.from-first.ensures in
    let last_is : c.from-first.result + c.from.result ≡ span.at + (span.count - 1) = omega arith in
    let first = c.add_page_at.ensures.members content page in
    let last = c.add_page_at-2.ensures.members content page in
    last ∙ ap (λ b. b || on (c.from-first.result + c.from.result)) first
    ∙ or_three old (on c.from-first.result) (on (c.from-first.result + c.from.result))
    ∙ ap (λ b. old || (b || on (c.from-first.result + c.from.result))) (ap on first_is)
    ∙ ap (λ b. old || (on span.at || b)) (ap on last_is)
    ∙ ap (λ b. old || b) (sym (on_ends objects regions c.args.right span.at span.count page (omega arith) few))
