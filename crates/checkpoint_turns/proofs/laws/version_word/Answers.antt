use Rattle.checkpoint_turns.proofs.Settled.{version_of}
use Rattle.checkpoint_turns.proofs.laws.version_word.Goals as goal

pub returns : goal.returns
returns c = λ k accepted m w h. version_of k accepted m w h
