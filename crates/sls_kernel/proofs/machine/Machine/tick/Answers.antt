use Rattle.std.proofs.Common.{sym, refl, ◌∙◌}
use Rattle.sls_kernel.specs.Plain.{accepted_count}
use Rattle.sls_kernel.proofs.Ticks.{runs, shows_ticked, not_true, not_false}
use Rattle.sls_kernel.proofs.machine.Machine.tick.Goals as goal

pub returns-then-tick-clause-world : goal.returns-then-tick-clause-world
returns-then-tick-clause-world c = λ w s.
    let m = c.args.self.now in
    let does = c.tick.ensures.state w.now (accepted_count w) s.counted.count (runs m w s c.requires) in
    (not_true _ (sym c.if-tick.true ∙ does.0), shows_ticked m _ w s c.requires c.requires refl c.tick.ensures.counts c.tick.ensures.rest does.1)

pub returns-else-tick-clause-world : goal.returns-else-tick-clause-world
returns-else-tick-clause-world c = λ w s.
    let m = c.args.self.now in
    let does = c.tick.ensures.state w.now (accepted_count w) s.counted.count (runs m w s c.requires) in
    (not_false _ (sym c.if-tick.false ∙ does.0), shows_ticked m _ w s c.requires c.requires refl c.tick.ensures.counts c.tick.ensures.rest does.1)
