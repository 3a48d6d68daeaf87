use Rattle.std.proofs.Common.{rules, tests}
use Rattle.std.proofs.lemmas.Iterator.{YieldsList-from_slice}
use Rattle.std.proofs.lemmas.Iterator.Search.{any_from_yields_List}
use Rattle.plain_state.specs.CallRefusals.{meets}
use Rattle.plain_model.proofs.refusals.overlaps.Goals as goal

pub returns : goal.returns
returns c =
    any_from_yields_List (meets c.args.base c.args.count) _ _ c.any.result c.any.ensures.ran (YieldsList-from_slice c.args.regions.now cc) (λ x b q k. search (rules, tests))
