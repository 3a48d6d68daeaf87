-- What contracts see of a `Roots`: the committed version, what is being done to all objects, and how far each has come.
use Rattle.std.specs.Prelude.{◌≡◌, ◌≢◌, ℕ, ◌≤◌, ◌==◌, if◌then◌else◌, map, List, slice_index_or}
use Rattle.sls_base.specs.declared.limits.TheConstants.{LAST_VERSION}
use Rattle.object_root.specs.declared.slot.Slot.{Slot}
use Rattle.object_root.specs.declared.slot.Slot.TheVariants.{First, Second}
use Rattle.object_root.specs.declared.stage.Stage.{Stage}
use Rattle.object_root.specs.declared.stage.Stage.TheVariants.{Idle}
use Rattle.object_root.specs.declared.stage.Phase.{Phase}
use Rattle.object_root.specs.declared.roots.Progress.{Progress}

pub record Room : Type 0 where
  pub version : ℕ
  pub phase : Phase
  pub stages : List Stage

abbrev pub stage_at : Room → ℕ → Stage
stage_at r id = slice_index_or r.stages id Idle

abbrev pub number_of : Slot → ℕ
number_of First = 0
number_of Second = 1

abbrev pub other_of : Slot → Slot
other_of First = Second
other_of Second = First

-- nothing is being written
abbrev pub AllIdle : Room → Type 0
AllIdle r = (id : ℕ) → stage_at r id ≡ Idle

-- one object may have come to another stage, and all else stays
pub record KeepsOthers (old new : Room) (id : ℕ) : Type 0 where
  pub others : (i : ℕ) → i ≢ id → stage_at new i ≡ stage_at old i
  pub version : new.version ≡ old.version
  pub phase : new.phase ≡ old.phase

-- all objects come to a phase, and all else stays
pub record Passes (old new : Room) (to : Phase) : Type 0 where
  pub phase : new.phase ≡ to
  pub stages : (i : ℕ) → stage_at new i ≡ stage_at old i
  pub version : new.version ≡ old.version

-- What the private fields keep. Progress that was made under an earlier version counts no more.

abbrev pub stage_under : ℕ → Progress → Stage
stage_under version p = if p.version == version then p.stage else Idle

abbrev pub nothing : Progress
nothing = record { version = 0; stage = Idle }

abbrev pub stages_under : ℕ → List Progress → List Stage
stages_under version progress = map (stage_under version) progress

pub record IsSound (version : ℕ) (progress : List Progress) : Type 0 where
  pub range : version ≤ LAST_VERSION
  pub none_later : (id : ℕ) → (slice_index_or progress id nothing).version ≤ version
