-- Running cores outlive whatever stores nothing, and each entry that the device accepts.
use Rattle.plain_state.specs.declared.label.Label.TheVariants.{Accept}
use Rattle.core_turns.proofs.Calm.{still_runs}
use Rattle.core_turns.proofs.Accepted.{accepted_runs}
use Rattle.core_turns.proofs.laws.running_cores.Goals as goal

pub returns-clause-calm : goal.returns-clause-calm
returns-clause-calm c = λ k accepted old new w calm homes h. still_runs old new calm homes c.calm.ensures k accepted w h

pub returns-clause-accepts : goal.returns-clause-accepts
returns-clause-accepts c = λ k accepted m w channel below size offered h.
    accepted_runs accepted m w channel below size offered
    (c.worlds_are_sound.ensures.kept w (Accept channel) below tt h.holds.sound)
    (λ content out. c.waiting_entries_stand.ensures.accepted content w out channel) k h
