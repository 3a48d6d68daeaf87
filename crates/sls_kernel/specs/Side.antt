-- What a machine is about, as a caller sees it, and which answers are lawful.
use Rattle.std.proofs.Common.{◌≡◌, ◌≢◌, ◌⊎◌, ℕ, ◌+◌, ◌-◌, ◌<◌, ◌≤◌, ◌↔◌, nat_lt, true, false, IsTrue, Option, Some, None, refl, arith}
use Rattle.std.proofs.lemmas.Bool.Decides.{nat_tests}
use Rattle.sls_base.specs.declared.limits.TheConstants.{LAST_VERSION}
use Rattle.sls_kernel.specs.Plain.{World, tick, commit, is_stopped}
use Rattle.sls_kernel.specs.Stages.{is_stage, left_of}
use Rattle.sls_kernel.specs.declared.machine.Machine.{Machine}
use Rattle.sls_kernel.specs.declared.answers.Did.{Did}
use Rattle.sls_kernel.specs.declared.answers.Did.TheVariants as did
use Rattle.sls_kernel.specs.declared.answers.Why.{Why}
use Rattle.sls_kernel.specs.declared.answers.Why.TheVariants as why
use Rattle.sls_kernel.specs.declared.answers.Asked.{Asked}
use Rattle.sls_kernel.specs.declared.answers.Asked.TheVariants as asked
use Rattle.sls_kernel.specs.declared.stage.FormatStep.TheVariants.{Fill, Save as FormatSave, StoreWord, FlushWord, FenceWord}
use Rattle.sls_kernel.specs.declared.stage.Stage.{Stage}
use Rattle.sls_kernel.specs.declared.stage.Stage.TheVariants.{Format, Recover, Up, Checkpoint}
use Rattle.sls_kernel.specs.declared.stage.CheckpointStep.{CheckpointStep}
use Rattle.sls_kernel.specs.declared.stage.CheckpointStep.TheVariants.{Save, StoreVersion, FlushVersion, FenceVersion, FlushAgain, FenceAgain}

-- what a machine does: it formats, recovers, runs, or is in a checkpoint that hasn't committed yet or has
pub data Mode : Type 0 where
  Formatting : Mode
  Recovering : Mode
  Running : Mode
  BeforeCommit : Mode
  AfterCommit : Mode

abbrev pub checkpoint_mode : CheckpointStep → Mode
checkpoint_mode (Save step) = BeforeCommit
checkpoint_mode StoreVersion = BeforeCommit
checkpoint_mode FlushVersion = BeforeCommit
checkpoint_mode FenceVersion = BeforeCommit
checkpoint_mode FlushAgain = AfterCommit
checkpoint_mode FenceAgain = AfterCommit

abbrev pub mode_of : Stage → Mode
mode_of (Format step) = Formatting
mode_of (Recover page) = Recovering
mode_of Up = Running
mode_of (Checkpoint step) = checkpoint_mode step

unfoldable pub mode : Machine → Mode
mode m = mode_of m.stage

-- the turns that are left of formatting, recovery or the checkpoint
unfoldable pub left : Machine → ℕ
left m = left_of m.stage

-- it is up, in a checkpoint or not
abbrev pub IsServing : Mode → Type 0
IsServing Formatting = ⊥
IsServing Recovering = ⊥
IsServing Running = Unit {0}
IsServing BeforeCommit = Unit {0}
IsServing AfterCommit = Unit {0}

-- how the mode may go on by a turn with this answer
abbrev pub ModeGoesInner : Mode → Why → Mode → Type 0
ModeGoesInner old why.Format new = (old ≡ Formatting) × (new ≡ Formatting)
ModeGoesInner old why.Recover new = (old ≡ Recovering) × (new ≡ Recovering)
ModeGoesInner old why.Lead new =
    ((old ≡ BeforeCommit) × (new ≡ BeforeCommit))
    ⊎ ((old ≡ AfterCommit) × ((new ≡ AfterCommit) ⊎ (new ≡ Running)))
ModeGoesInner old (why.Prepare page) new = ⊥
ModeGoesInner old (why.Home page) new = ⊥
ModeGoesInner old (why.Wait page core) new = ⊥
ModeGoesInner old (why.Copy entry) new = ⊥
ModeGoesInner old why.Help new = ⊥
ModeGoesInner old why.Paused new = ⊥

abbrev pub ModeGoes : Mode → Did → Mode → Type 0
ModeGoes old did.Retired new = (old ≡ Running) × (new ≡ Running)
ModeGoes old did.Idle new = (old ≡ Running) × (new ≡ Running)
ModeGoes old (did.Inner why) new = ModeGoesInner old why new
ModeGoes old (did.Committed v) new = (old ≡ BeforeCommit) × (new ≡ Running)
ModeGoes old (did.Up v) new = ((old ≡ Formatting) ⊎ (old ≡ Recovering)) × (new ≡ Running)

-- what a turn with this answer does to the world: a tick, a commit, or nothing
abbrev pub turned : World → Did → World
turned w did.Retired = tick w
turned w did.Idle = tick w
turned w (did.Inner why) = w
turned w (did.Committed v) = commit w
turned w (did.Up v) = w

-- the answers of a turn that a world allows
abbrev pub IsLawful : World → Did → Type 0
IsLawful w did.Retired = is_stopped w.now.thread.status ≡ false
IsLawful w did.Idle = is_stopped w.now.thread.status ≡ true
IsLawful w (did.Inner why) = Unit {0}
IsLawful w (did.Committed v) = (v ≡ w.version + 1) × (v ≤ LAST_VERSION)
IsLawful w (did.Up v) = v ≡ w.version

-- what a write-back with this answer does to the world, and which answers the world allows
abbrev pub written : World → Option ℕ → World
written w None = w
written w (Some v) = commit w

abbrev pub IsWritten : World → Option ℕ → Type 0
IsWritten w None = Unit {0}
IsWritten w (Some v) = (v ≡ w.version + 1) × (v ≤ LAST_VERSION)

-- how the mode may go on by an ask with this answer
abbrev pub AskGoes : Mode → Asked → Mode → Type 0
AskGoes old asked.Started new = (old ≡ Running) × (new ≡ BeforeCommit)
AskGoes old asked.InFlight new = (old ≢ Running) × (new ≡ old)
AskGoes old (asked.VersionSpent v) new = (old ≡ Running) × (new ≡ Running)
AskGoes old asked.Memory new = ⊥

-- the answers of an ask that a world allows
abbrev pub IsLawfulAsked : World → Asked → Type 0
IsLawfulAsked w asked.Started = w.version < LAST_VERSION
IsLawfulAsked w asked.InFlight = Unit {0}
IsLawfulAsked w (asked.VersionSpent v) = (v ≡ w.version) × (v ≡ LAST_VERSION)
IsLawfulAsked w asked.Memory = ⊥

-- Law: no turn is left exactly where a machine runs, in no checkpoint.
some_left : (page : ℕ) → IsTrue (nat_lt page 5) → 5 - page ≢ 0
some_left page below = grind (arith, nat_tests)

stage_ends : (stage : Stage) → IsTrue (is_stage stage) → (left_of stage ≡ 0) ↔ (mode_of stage ≡ Running)
stage_ends (Format Fill) is = (λ none. absurd (omega arith), λ runs. cc)
stage_ends (Format (FormatSave step)) is = (λ none. absurd (omega arith), λ runs. cc)
stage_ends (Format StoreWord) is = (λ none. absurd (omega arith), λ runs. cc)
stage_ends (Format FlushWord) is = (λ none. absurd (omega arith), λ runs. cc)
stage_ends (Format FenceWord) is = (λ none. absurd (omega arith), λ runs. cc)
stage_ends (Recover page) is = (λ none. absurd (some_left page is none), λ runs. cc)
stage_ends Up is = (λ none. refl, λ runs. refl)
stage_ends (Checkpoint (Save step)) is = (λ none. absurd (omega arith), λ runs. cc)
stage_ends (Checkpoint StoreVersion) is = (λ none. absurd (omega arith), λ runs. cc)
stage_ends (Checkpoint FlushVersion) is = (λ none. absurd (omega arith), λ runs. cc)
stage_ends (Checkpoint FenceVersion) is = (λ none. absurd (omega arith), λ runs. cc)
stage_ends (Checkpoint FlushAgain) is = (λ none. absurd (omega arith), λ runs. cc)
stage_ends (Checkpoint FenceAgain) is = (λ none. absurd (omega arith), λ runs. cc)

pub left_ends : (m : Machine) → (left m ≡ 0) ↔ (mode m ≡ Running)
unfolding left mode
left_ends m = stage_ends m.stage m.staged
