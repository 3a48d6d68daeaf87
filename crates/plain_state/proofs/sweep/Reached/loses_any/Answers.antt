use Rattle.std.proofs.Common.{◌∙◌, ℕ, ap, arith, rules, tests}
use Rattle.std.specs.Prelude.{not}
use Rattle.std.proofs.lemmas.Iterator.{YieldsList-from_slice}
use Rattle.std.proofs.lemmas.Iterator.Search.{any_from_yields_List}
use Rattle.plain_state.specs.Sweep.{is_reached}
use Rattle.plain_state.specs.SlowSweep.{has}
use Rattle.plain_state.proofs.SlowSweepSteps.{any_listed_alike}
use Rattle.plain_state.proofs.sweep.Reached.loses_any.Goals as goal

pub returns : goal.returns
returns c = λ s tells.
    any_from_yields_List (λ (id : ℕ). not (has c.args.self.now id)) _ _ c.any.result c.any.ensures.ran (YieldsList-from_slice c.args.ids.now cc) (λ x b q k. search (rules, tests))
    ∙ any_listed_alike (λ id. not (has c.args.self.now id)) (λ id. not (is_reached s id)) c.args.ids.now (λ k below. ap not (tells _ (omega (arith, c.type_inv.ids k))))
