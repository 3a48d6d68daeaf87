use Rattle.std.proofs.Common.{◌≡◌, ◌==◌, ◌∙◌, Some, None, sym, ap, filter, rules, tests}
use Rattle.std.specs.Prelude.{option_map, slice_get}
use Rattle.std.proofs.lemmas.Iterator.{YieldsList-from_slice}
use Rattle.std.proofs.lemmas.Iterator.Consumers.{YieldsList-from_filter, nth_from_yields_List}
use Rattle.plain_state.specs.declared.effect.Output.{Output}
use Rattle.plain_model.proofs.SlowWorlds.{got_map}
use Rattle.plain_model.proofs.world.entry_at.Goals as goal

pub returns-in_err-output : goal.returns-in_err-output
returns-in_err-output c =
    let test = λ (output : Output). output.channel == c.args.channel in
    let bytes = λ (output : Output). output.bytes.items in
    let nth = nth_from_yields_List c.nth.result _ c.args.number c.nth.ensures.ran (YieldsList-from_filter _ test (YieldsList-from_slice c.args.outputs.now cc) c.filter.ensures.closure (λ x b q k. search (rules, tests))) in
    let missed : None ≡ slice_get (filter test c.args.outputs.now) c.args.number = ap (option_map (λ b. b.now)) (sym c.in_err-output.was) ∙ nth in
    ap (option_map (λ b. b.items)) c.from_residual.ensures ∙ ap (option_map bytes) missed ∙ got_map bytes (filter test c.args.outputs.now) c.args.number

pub returns : goal.returns
returns c =
    let test = λ (output : Output). output.channel == c.args.channel in
    let bytes = λ (output : Output). output.bytes.items in
    let nth = nth_from_yields_List c.nth.result _ c.args.number c.nth.ensures.ran (YieldsList-from_filter _ test (YieldsList-from_slice c.args.outputs.now cc) c.filter.ensures.closure (λ x b q k. search (rules, tests))) in
    let found : Some c.in_ok-output.output.now ≡ slice_get (filter test c.args.outputs.now) c.args.number = ap (option_map (λ b. b.now)) (sym c.in_ok-output.was) ∙ nth in
    ap (λ b. Some b.items) c.copy_of_bytes.ensures ∙ ap (option_map bytes) found ∙ got_map bytes (filter test c.args.outputs.now) c.args.number
