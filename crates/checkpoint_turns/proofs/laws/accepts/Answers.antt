use Rattle.checkpoint_turns.proofs.Accepts.{accepts_is_of}
use Rattle.checkpoint_turns.proofs.laws.accepts.Goals as goal

pub returns : goal.returns
returns c = λ k accepted m w channel below size offered h.
    accepts_is_of accepted m w channel below size offered c.worlds_are_sound.ensures.kept
    c.waiting_entries_stand.ensures.accepted k h
