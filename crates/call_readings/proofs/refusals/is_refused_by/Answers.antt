use Rattle.std.proofs.Common.{◌≡◌, ◌∙◌, ap, sym}
use Rattle.std.specs.List.{list_any}
use Rattle.plain_model.specs.Calls.{needs}
use Rattle.plain_model.specs.CallRefusals.{is_unmet}
use Rattle.kobj_table.specs.Objects.{state_of}
use Rattle.call_readings.specs.Kernel.{world_of}
use Rattle.call_readings.proofs.refusals.is_refused_by.Goals as goal

pub returns-then-is_any_unmet : goal.returns-then-is_any_unmet
unfolding world_of
returns-then-is_any_unmet c w rest counted attached =
    let unmet = is_unmet (state_of c.args.objects.now rest) c.args.thread.now c.args.refusal in
    let told : c.is_any_unmet.result ≡ list_any unmet (needs c.args.thread.now c.args.call) =
    c.is_any_unmet.ensures rest ∙ ap (list_any unmet) (c.as_slice.ensures.value ∙ c.needs-needs.ensures) in
    rw (sym told ∙ c.if-is_any_unmet.true) c.if-is_any_unmet.true

pub returns-else-is_any_unmet : goal.returns-else-is_any_unmet
unfolding world_of
returns-else-is_any_unmet c w rest counted attached =
    let unmet = is_unmet (state_of c.args.objects.now rest) c.args.thread.now c.args.refusal in
    let told : c.is_any_unmet.result ≡ list_any unmet (needs c.args.thread.now c.args.call) =
    c.is_any_unmet.ensures rest ∙ ap (list_any unmet) (c.as_slice.ensures.value ∙ c.needs-needs.ensures) in
    rw (sym told ∙ c.if-is_any_unmet.false) (c.is_refused_besides.ensures w rest counted attached)
