use Rattle.std.proofs.Common.{◌≡◌, ◌∙◌, ◌&&◌, ◌||◌, sym, ap, arith, true}
use Rattle.std.specs.List.{list_any}
use Rattle.plain_state.specs.Objects.{every_object}
use Rattle.plain_state.specs.Slow.{state_of}
use Rattle.plain_state.specs.Sweep as plain
use Rattle.plain_state.specs.SlowSweep.{has}
use Rattle.plain_state.proofs.SlowSweepSteps.{one_further}
use Rattle.plain_state.proofs.sweep.Reached.is_next.Goals as goal

pub returns-then-has : goal.returns-then-has
returns-then-has c = λ n tells.
    let found : true ≡ has c.args.self.now c.args.id = cc in
    c.if-has.true ∙ one_further c.args.self.now (state_of c.args.state.now) n c.args.id true (omega arith) tells
    (ap (λ b. b || list_any (λ from. has c.args.self.now from && plain.leads_to ((state_of c.args.state.now).objects from) c.args.id) every_object) found)

pub returns-else-has : goal.returns-else-has
returns-else-has c = λ n tells.
    let missed : c.has.result ≡ has c.args.self.now c.args.id = c.has.ensures in
    one_further c.args.self.now (state_of c.args.state.now) n c.args.id c.any_leads_to.result (omega arith) tells
    (c.any_leads_to.ensures ∙ ap (λ b. b || list_any (λ from. has c.args.self.now from && plain.leads_to ((state_of c.args.state.now).objects from) c.args.id) every_object) (sym c.if-has.false ∙ missed))
