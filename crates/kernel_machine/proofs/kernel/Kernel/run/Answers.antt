use Rattle.std.specs.Prelude.{◌≡◌, ◌<◌, ℕ, length}
use Rattle.std.proofs.Common.{refl, sym, subst, rules}
use Rattle.plain_state.specs.declared.label.Reply.{Reply}
use Rattle.core_turns.specs.Turns.{Ticks}
use Rattle.kernel_machine.proofs.RunFacts.{scheduled_cores}
use Rattle.kernel_machine.proofs.RunArms.{idle_arm, wished_arm, retired_arm, prepared_arm, waits_arm, as_running}
use Rattle.kernel_machine.proofs.kernel.Kernel.run.Goals as goal

-- src/turns.rt:106:15
pub turn-requires-clause-core : goal.turn-requires-clause-core
turn-requires-clause-core c =
    let at = as_running c.args.self.now c.in-Runs.running c.requires.live.course c.in-Runs.is c.requires.live.is_at in
    subst (λ (count : ℕ). c.args.core < count)
    (sym (scheduled_cores c.in-Runs.running c.args.self.now.accepted c.args.self.now.nvm
    c.requires.live.course.world c.args.self.now.cores at.work at.cores)) c.requires.core

-- src/turns.rt:95:5
pub returns-in-Idle-clause-goes : goal.returns-in-Idle-clause-goes
returns-in-Idle-clause-goes c =
    idle_arm c.args.self.now c.in-Runs.running c.turn.new.self c.turn.new.nvm c.args.core c.in-Runs.is
    (λ w runs. subst (λ (x : Reply). Ticks c.in-Runs.running c.args.self.now.accepted c.args.self.now.nvm w
    c.args.core x c.turn.new.self c.turn.new.nvm) c.in-Idle.is (c.in-Ticked.ensures.goes w runs))

-- src/turns.rt:95:5
pub returns-in-Wished-clause-goes : goal.returns-in-Wished-clause-goes
returns-in-Wished-clause-goes c =
    wished_arm c.args.self.now c.in-Runs.running c.turn.new.self c.turn.new.nvm c.args.core c.in-Runs.is
    (λ w runs. subst (λ (x : Reply). Ticks c.in-Runs.running c.args.self.now.accepted c.args.self.now.nvm w
    c.args.core x c.turn.new.self c.turn.new.nvm) c.in-Wished.is (c.in-Ticked.ensures.goes w runs))

-- src/turns.rt:95:5
pub returns-in_default-reply : goal.returns-in_default-reply
returns-in_default-reply c = record {
  goes = retired_arm c.args.self.now c.in-Runs.running c.turn.new.self c.turn.new.nvm c.args.core c.in-Runs.is
      c.in-Ticked.reply c.in_default-reply.not-Idle c.in_default-reply.not-Wished c.in-Ticked.ensures.goes;
  made = λ image made. tt;
  cores = refl;
}

-- src/turns.rt:95:5
pub returns-in-Prepared-clause-goes : goal.returns-in-Prepared-clause-goes
returns-in-Prepared-clause-goes c =
    let size : length c.args.self.now.spent ≡ 512 = search rules in
    prepared_arm c.args.self.now c.in-Runs.running c.turn.new.self c.turn.new.nvm c.args.core c.in-Runs.is
    c.in-Prepared.page c.requires.core size c.in-Prepared.ensures.goes

-- src/turns.rt:95:5
pub returns-in-Waits-clause-goes : goal.returns-in-Waits-clause-goes
returns-in-Waits-clause-goes c =
    waits_arm c.args.self.now c.in-Runs.running c.turn.new.self c.turn.new.nvm c.args.core c.in-Runs.is
    c.in-Waits.page c.in-Waits.other c.in-Waits.ensures.goes
