-- How far everything has come at each stage of the leader.
use Rattle.std.specs.Prelude.{◌≡◌, ◌≢◌, ◌⊎◌, ℕ, ◌<◌, Bool, true, false, Option, None}
use Rattle.kobj_codec.specs.declared.obj.Obj.{Obj}
use Rattle.alloc_journal.specs.declared.journal.Stage.TheVariants as logs
use Rattle.alloc_journal.specs.Sets.{changes}
use Rattle.alloc_journal.specs.Work.{InUse, is_logging}
use Rattle.object_root.specs.declared.slot.Slot.{Slot}
use Rattle.object_root.specs.declared.stage.Phase.{Phase}
use Rattle.object_root.specs.declared.stage.Phase.TheVariants as phases
use Rattle.object_root.specs.declared.stage.Stage.{Stage as RecordStage}
use Rattle.object_root.specs.declared.stage.Stage.TheVariants.{Idle, Stored, Flushed, TagStored, TagFlushed}
use Rattle.page_store.specs.Known.{Phase as PagePhase, Open, Fenced}
use Rattle.page_store.specs.Stages.{IsFlushed, IsSettled}
use Rattle.page_store.specs.declared.stage.PageStage.{PageStage}
use Rattle.leader_helper.specs.declared.stage.Stage.{Stage}
use Rattle.leader_helper.specs.declared.stage.Stage.TheVariants as at

-- the next version isn't committed yet
abbrev pub is_before_commit : Stage → Bool
is_before_commit at.Apply = false
is_before_commit at.Resume = false
is_before_commit stage = true

-- Pages.

-- the leader has fenced the pages that it flushed
abbrev pub page_phase : Stage → PagePhase
page_phase at.Gather = Open
page_phase (at.Pages page) = Open
page_phase stage = Fenced

-- Cores may still prepare pages at first, and then no core does. Pages before the leader's place are flushed, and all of
-- them once it is past the pages.
abbrev pub IsPageDone : Stage → ℕ → PageStage → Type 0
IsPageDone at.Gather page stage = Unit {0}
IsPageDone (at.Pages first) page stage = IsSettled stage × (page < first → IsFlushed stage)
IsPageDone other page stage = IsFlushed stage

-- Records.

-- what is done to all records
abbrev pub record_phase : Stage → Phase
record_phase (at.Tags id) = phases.Tags
record_phase at.Commit = phases.Tagged
record_phase stage = phases.Records

-- a record is stored, or flushed; its tag is stored, or flushed

abbrev pub IsIdle : RecordStage → Type 0
IsIdle stage = stage ≡ Idle

abbrev pub IsStored : RecordStage → Type 0
IsStored stage = (slot : Slot) × (stage ≡ Stored slot)

abbrev pub IsWritten : RecordStage → Type 0
IsWritten stage = (slot : Slot) × (stage ≡ Flushed slot)

abbrev pub HasTag : RecordStage → Type 0
HasTag stage = (slot : Slot) × (stage ≡ TagStored slot)

abbrev pub IsTagged : RecordStage → Type 0
IsTagged stage = (slot : Slot) × (stage ≡ TagFlushed slot)

-- Records are taken in order, from `first` on: those before it are done, those behind it are still to be done, and what
-- is done to this one may have begun.
pub record IsDoneFrom (first : ℕ) (todo begun done : RecordStage → Type 0) (id : ℕ) (stage : RecordStage)
    : Type 0 where
  pub before : id < first → done stage
  pub here : id ≡ first → todo stage ⊎ begun stage
  pub behind : first < id → todo stage

-- how far the record of a changed object has come
abbrev pub HasCome : Stage → ℕ → RecordStage → Type 0
HasCome at.Gather id stage = IsIdle stage
HasCome (at.Pages page) id stage = IsIdle stage
HasCome (at.Records first) id stage = IsDoneFrom first IsIdle IsStored IsWritten id stage
HasCome at.Log id stage = IsWritten stage
HasCome at.Fence id stage = IsWritten stage
HasCome (at.Tags first) id stage = IsDoneFrom first IsWritten HasTag IsTagged id stage
HasCome at.Commit id stage = IsTagged stage
HasCome at.Apply id stage = IsIdle stage
HasCome at.Resume id stage = IsIdle stage

-- That of a changed object has come so far. No other is written, and it is the saved one, or there is none.
abbrev pub IsRecordDone : Stage → Bool → ℕ → RecordStage → Option Obj → Option Obj → Type 0
IsRecordDone at true id stage saved now = HasCome at id stage
IsRecordDone at false id stage saved now = (stage ≡ Idle) × ((now ≡ saved) ⊎ (now ≡ None))

-- Numbers.

-- The log of the numbers that are in use now is durable, and has an entry for each that changes.
pub record IsLogged (numbers : InUse) : Type 0 where
  pub stage : numbers.work.stage ≡ logs.Logged
  pub logged : numbers.work.logged ≡ numbers.running
  pub entries : numbers.work.entries ≡ changes numbers.work.committed numbers.running

-- it is being written, or is not yet begun
pub record IsLogging (numbers : InUse) : Type 0 where
  pub stage : is_logging numbers.work.stage ≡ true
  pub logged : numbers.work.logged ≡ numbers.running
  pub not_yet : numbers.work.stage ≢ logs.Logged

-- how far the log has come
abbrev pub IsLogDone : Stage → InUse → Type 0
IsLogDone at.Gather numbers = numbers.work.stage ≡ logs.Rest
IsLogDone (at.Pages page) numbers = numbers.work.stage ≡ logs.Rest
IsLogDone (at.Records id) numbers = numbers.work.stage ≡ logs.Rest
IsLogDone at.Log numbers = (numbers.work.stage ≡ logs.Rest) ⊎ IsLogging numbers
IsLogDone stage numbers = IsLogged numbers
