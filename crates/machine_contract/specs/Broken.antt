-- What is known where memory was missing in a play.
use Rattle.std.specs.Prelude.{◌≡◌, ℕ, List, ◌∷◌, ◌++◌}
use Rattle.pmem_model.specs.Words.{cuts}
use Rattle.pmem_model.specs.Memory.{word_at, AllHome}
use Rattle.plain_state.specs.declared.label.Label.TheVariants as label
use Rattle.machine_contract.specs.declared.answers.Event.{Event}
use Rattle.machine_contract.specs.declared.answers.Event.TheVariants.{Cut}
use Rattle.machine_contract.specs.declared.answers.Answer.{Answer}
use Rattle.machine_contract.specs.declared.answers.BootRefused.{BootRefused}
use Rattle.machine_contract.specs.declared.answers.Off.{Off}
use Rattle.machine_contract.specs.declared.plays.PlayBroken.{PlayBroken}
use Rattle.machine_contract.specs.declared.plays.PlayBroken.TheVariants.{NoRoom, Unlit}
use Rattle.machine_contract.specs.declared.plays.BootPlayBroken.{BootPlayBroken}
use Rattle.machine_contract.specs.declared.plays.BootPlayBroken.TheVariants.{NotBooted, Broken}
use Rattle.machine_contract.specs.Courses.{Course, after_label, played, labels_of}
use Rattle.machine_contract.specs.Shown.{Seen, Format, IsShownOff}
use Rattle.machine_contract.specs.Begins.{CountsCut}
use Rattle.machine_contract.specs.Play.{IsPlayed}

-- A machine was cut and not lit again: what is durable stays, all frames are home, the device keeps its counts, and the
-- memory shows the course after the cut.
pub record IsDark (format : Format) (ShowsOff : Off → Course → Type 0) (old : Seen) (c : Course) (off : Off)
    : Type 0 where
  pub words : (i : ℕ) → word_at off.nvm i ≡ cuts old.words i
  pub home : AllHome off.nvm
  pub accepted : off.accepted ≡ old.accepted
  pub counts : CountsCut old off
  pub shows : ShowsOff off (after_label c label.Cut)
  pub shown : IsShownOff format off.nvm off.accepted (after_label c label.Cut)

-- A play came as far as a cut, with these answers to the events before it, and the machine was not lit again.
pub record IsUnlit {M : Type 0} (format : Format) (seen : M → Seen) (Shows : M → Course → Type 0)
    (ShowsOff : Off → Course → Type 0) (events : List Event) (answers : List Answer) (old : M) (c : Course) (off : Off)
    : Type 0 where
  pub done : List Event
  pub rest : List Event
  pub split : events ≡ done ++ Cut ∷ rest
  pub before : M
  pub plays : IsPlayed format seen Shows done answers old c before
  pub dark : IsDark format ShowsOff (seen before) (played c (labels_of done answers)) off

-- there was no room for the answers
abbrev pub IfNoRoom : {M : Type 0} → PlayBroken M → (M → Type 0) → Type 0
IfNoRoom (NoRoom machine) holds = holds machine
IfNoRoom (Unlit off answers) holds = Unit {0}

-- the machine was not lit again
abbrev pub IfUnlit : {M : Type 0} → PlayBroken M → (Off → List Answer → Type 0) → Type 0
IfUnlit (NoRoom machine) holds = Unit {0}
IfUnlit (Unlit off answers) holds = holds off answers.items

-- the machine was not booted
abbrev pub IfNotBooted : {M : Type 0} → BootPlayBroken M → (BootRefused → Type 0) → Type 0
IfNotBooted (NotBooted refused) holds = holds refused
IfNotBooted (Broken broken) holds = Unit {0}

-- it was booted, and its play broke
abbrev pub IfBroken : {M : Type 0} → BootPlayBroken M → (PlayBroken M → Type 0) → Type 0
IfBroken (NotBooted refused) holds = Unit {0}
IfBroken (Broken broken) holds = holds broken
