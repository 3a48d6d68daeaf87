use Rattle.std.proofs.Common.{◌==◌, ◌∙◌, rules, tests}
use Rattle.std.proofs.lemmas.Iterator.{YieldsList-from_slice}
use Rattle.std.proofs.lemmas.Iterator.Search.{any_from_yields_List}
use Rattle.plain_state.specs.declared.page.Page.{Page as SlowPage}
use Rattle.plain_state.proofs.SlowLists.{any_number}
use Rattle.plain_state.proofs.object.is_among.Goals as goal

pub returns : goal.returns
returns c =
    any_from_yields_List (λ (page : SlowPage). page.number == c.args.page) _ _ c.any.result c.any.ensures.ran (YieldsList-from_slice c.args.pages.now cc) (λ x b q k. search (rules, tests))
    ∙ any_number c.args.page c.args.pages.now
