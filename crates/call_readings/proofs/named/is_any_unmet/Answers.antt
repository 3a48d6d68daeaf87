use Rattle.std.proofs.Common.{rules, tests}
use Rattle.std.proofs.lemmas.Iterator.{YieldsList-from_slice}
use Rattle.std.proofs.lemmas.Iterator.Search.{any_from_yields_List}
use Rattle.plain_model.specs.CallRefusals.{is_unmet}
use Rattle.kobj_table.specs.Objects.{state_of}
use Rattle.call_readings.proofs.named.is_any_unmet.Goals as goal

pub returns : goal.returns
returns c rest =
    any_from_yields_List (is_unmet (state_of c.args.objects.now rest) c.args.thread.now c.args.refusal) _ _ c.any.result c.any.ensures.ran
    (YieldsList-from_slice c.args.needs.now cc) (λ x b q k. search (rules, tests))
