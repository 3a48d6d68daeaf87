use Rattle.std.proofs.Common.{◌&&◌, ℕ, refl, rules, tests}
use Rattle.std.proofs.lemmas.Iterator.{YieldsList-from_range}
use Rattle.std.proofs.lemmas.Iterator.Search.{any_from_yields_List}
use Rattle.plain_state.specs.Objects.{every_object}
use Rattle.plain_state.specs.Slow.{state_of}
use Rattle.plain_state.specs.Sweep as plain
use Rattle.plain_state.specs.SlowSweep.{has}
use Rattle.plain_state.proofs.sweep.Reached.any_leads_to.Goals as goal

pub returns : goal.returns
unfolding every_object
returns c =
    any_from_yields_List (λ (from : ℕ). has c.args.self.now from && plain.leads_to ((state_of c.args.state.now).objects from) c.args.id) _ _ c.any.result c.any.ensures.ran
    (YieldsList-from_range 0 128 128 (cc) refl) (λ x b q k. search (rules, tests))
