-- What is so of each world that a machine comes to.
use Rattle.std.specs.Prelude.{List}
use Rattle.plain_state.specs.declared.label.Label.{Label}
use Rattle.plain_model.specs.States.{State}
use Rattle.plain_model.specs.Worlds.{World}
use Rattle.plain_model.specs.Play.{play}
use Rattle.plain_model.specs.MayStep.{MayPlay}

-- it is so of the running state and of the saved copy
abbrev pub Both : (State → Type 0) → World → Type 0
Both P w = P w.now × P w.saved

-- it is so whatever befalls a world, label after label
abbrev pub Always : (World → Type 0) → World → Type 0
Always P w = (labels : List Label) → P (play w labels)

-- it is so whatever may befall a world, label after label
abbrev pub MayAlways : (World → Type 0) → World → Type 0
MayAlways P w = (labels : List Label) → MayPlay w labels → P (play w labels)
