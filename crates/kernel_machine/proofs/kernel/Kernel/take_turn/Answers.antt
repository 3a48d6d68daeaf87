use Rattle.std.specs.Prelude.{ℕ}
use Rattle.std.proofs.Common.{sym, subst}
use Rattle.kernel_machine.specs.Turns.{TakesTurn}
use Rattle.kernel_machine.proofs.TakePaused.{formats_starting, paused_turn, recovers_starting}
use Rattle.kernel_machine.proofs.kernel.Kernel.take_turn.Goals as goal

-- The other cores pause while the machine starts.

pub returns-else-core-eq-LEADER-clause-goes : goal.returns-else-core-eq-LEADER-clause-goes
returns-else-core-eq-LEADER-clause-goes c = λ course at.
    let k = c.args.self.now in
    paused_turn k course c.args.core c.if-core-eq-LEADER.false (formats_starting k.work _ c.in-Formats.is) at

pub returns-else-core-eq-LEADER-2-clause-goes : goal.returns-else-core-eq-LEADER-2-clause-goes
returns-else-core-eq-LEADER-2-clause-goes c = λ course at.
    let k = c.args.self.now in
    paused_turn k course c.args.core c.if-core-eq-LEADER-2.false (recovers_starting k.work _ c.in-Recovers.is) at

-- The leader's turn is that of recovery.
pub returns-then-core-eq-LEADER-2-clause-goes : goal.returns-then-core-eq-LEADER-2-clause-goes
returns-then-core-eq-LEADER-2-clause-goes c = λ course at.
    subst (λ (core : ℕ). TakesTurn c.args.self.now course core c.recover.result c.recover.new.self)
    (sym c.if-core-eq-LEADER-2.true) (c.recover.ensures.goes course at)
