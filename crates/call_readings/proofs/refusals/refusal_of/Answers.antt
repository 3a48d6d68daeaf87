use Rattle.std.proofs.Common.{◌∙◌, rules, tests}
use Rattle.std.proofs.lemmas.Iterator.{YieldsList-from_slice}
use Rattle.std.proofs.lemmas.Iterator.Search.{find_from_yields_List}
use Rattle.plain_model.specs.Refusals.{refusal_order}
use Rattle.plain_model.specs.CallRefusals.{is_refused_by, refusal_of}
use Rattle.call_readings.specs.Kernel.{world_of}
use Rattle.call_readings.proofs.refusals.refusal_of.Goals as goal

pub returns : goal.returns
unfolding refusal_of
returns c w rest counted attached =
    c.copied.ensures ∙ find_from_yields_List (is_refused_by (world_of c.args.objects.now rest w) c.args.me c.args.thread.now c.args.call) _ _
    c.find.result c.find.ensures.ran (YieldsList-from_slice refusal_order cc) (λ x b q k. search (rules, tests, counted, attached))
