use Rattle.std.proofs.Common.{◌∙◌, ◌&&◌, ℕ, refl, rules, tests}
use Rattle.std.proofs.lemmas.Iterator.{YieldsList-from_range}
use Rattle.std.proofs.lemmas.Iterator.Search.{any_from_yields_List}
use Rattle.plain_state.specs.Objects.{every_object}
use Rattle.plain_state.specs.Slow.{state_of}
use Rattle.plain_state.specs.SlowSweep.{has}
use Rattle.plain_model.proofs.SlowCosts.{has_number, page_kept}
use Rattle.plain_model.proofs.world.World.keeps_page.Goals as goal

pub returns : goal.returns
unfolding every_object
returns c = λ tells.
    any_from_yields_List (λ (i : ℕ). has c.args.reached.now i && has_number c.args.page ((state_of c.args.self.now.running).objects i)) _ _ c.any.result c.any.ensures.ran
    (YieldsList-from_range 0 128 128 (cc) refl) (λ x b q k. search (rules, tests))
    ∙ page_kept c.args.reached.now (state_of c.args.self.now.running) c.args.page tells
