-- The steps of a machine: which comes next, how many are left, and what is known of the words before each.
use Rattle.std.specs.Prelude.{ℕ, ◌+◌, ◌-◌, nat_lt, Bool, true, if◌then◌else◌, Option, Some, None}
use Rattle.pmem_model.specs.Events.{Kind, Any, Cached, Ready, Clean, Over, ReadyOver}
use Rattle.sls_kernel.specs.declared.area.TheConstants.{RECORD_PART}
use Rattle.sls_kernel.specs.declared.machine.TheConstants.{PROGRAM_PAGE}
use Rattle.sls_kernel.specs.declared.stage.TheConstants.{STATE_PAGES, PARTS}
use Rattle.sls_kernel.specs.declared.stage.SaveStep.{SaveStep}
use Rattle.sls_kernel.specs.declared.stage.SaveStep.TheVariants.{Copy, Record, Flush, Fence}
use Rattle.sls_kernel.specs.declared.stage.FormatStep.{FormatStep}
use Rattle.sls_kernel.specs.declared.stage.FormatStep.TheVariants.{Fill, Save as FormatSave, StoreWord, FlushWord, FenceWord}
use Rattle.sls_kernel.specs.declared.stage.CheckpointStep.{CheckpointStep}
use Rattle.sls_kernel.specs.declared.stage.CheckpointStep.TheVariants.{Save, StoreVersion, FlushVersion, FenceVersion, FlushAgain, FenceAgain}
use Rattle.sls_kernel.specs.declared.stage.Stage.{Stage}
use Rattle.sls_kernel.specs.declared.stage.Stage.TheVariants.{Format, Recover, Up, Checkpoint}

-- The numbers in steps are in range.
abbrev pub is_save_step : SaveStep → Bool
is_save_step (Copy page) = nat_lt page STATE_PAGES
is_save_step Record = true
is_save_step (Flush part) = nat_lt part PARTS
is_save_step Fence = true

abbrev pub is_format_step : FormatStep → Bool
is_format_step Fill = true
is_format_step (FormatSave step) = is_save_step step
is_format_step StoreWord = true
is_format_step FlushWord = true
is_format_step FenceWord = true

abbrev pub is_checkpoint_step : CheckpointStep → Bool
is_checkpoint_step (Save step) = is_save_step step
is_checkpoint_step StoreVersion = true
is_checkpoint_step FlushVersion = true
is_checkpoint_step FenceVersion = true
is_checkpoint_step FlushAgain = true
is_checkpoint_step FenceAgain = true

abbrev pub is_stage : Stage → Bool
is_stage (Format step) = is_format_step step
is_stage (Recover page) = nat_lt page STATE_PAGES
is_stage Up = true
is_stage (Checkpoint step) = is_checkpoint_step step

-- What comes next.
abbrev pub step_after : SaveStep → Option SaveStep
step_after (Copy page) = (if nat_lt (page + 1) STATE_PAGES then Some (Copy (page + 1)) else Some Record)
step_after Record = Some (Flush 0)
step_after (Flush part) = (if nat_lt (part + 1) PARTS then Some (Flush (part + 1)) else Some Fence)
step_after Fence = None

-- where a checkpoint goes on once its version word is durable before the leader's fence
abbrev pub resumed_of : Stage → Option Stage
resumed_of (Checkpoint FlushVersion) = Some (Checkpoint FlushAgain)
resumed_of (Checkpoint FenceVersion) = Some (Checkpoint FenceAgain)
resumed_of (Checkpoint (Save step)) = None
resumed_of (Checkpoint StoreVersion) = None
resumed_of (Checkpoint FlushAgain) = None
resumed_of (Checkpoint FenceAgain) = None
resumed_of (Format step) = None
resumed_of (Recover page) = None
resumed_of Up = None

-- what formatting and a checkpoint do when they have saved so far
abbrev pub format_next : Option SaveStep → Stage
format_next None = Format StoreWord
format_next (Some step) = Format (FormatSave step)

abbrev pub checkpoint_next : Option SaveStep → Stage
checkpoint_next None = Checkpoint StoreVersion
checkpoint_next (Some step) = Checkpoint (Save step)

-- How many turns are left.
abbrev pub save_left : SaveStep → ℕ
save_left (Copy page) = 13 - page
save_left Record = 8
save_left (Flush part) = 7 - part
save_left Fence = 1

abbrev pub left_of : Stage → ℕ
left_of (Format Fill) = 17
left_of (Format (FormatSave step)) = 3 + save_left step
left_of (Format StoreWord) = 3
left_of (Format FlushWord) = 2
left_of (Format FenceWord) = 1
left_of (Recover page) = 5 - page
left_of Up = 0
left_of (Checkpoint (Save step)) = 3 + save_left step
left_of (Checkpoint StoreVersion) = 3
left_of (Checkpoint FlushVersion) = 2
left_of (Checkpoint FenceVersion) = 1
left_of (Checkpoint FlushAgain) = 2
left_of (Checkpoint FenceAgain) = 1

-- What is known of the words of an area that is being written, part by part.
abbrev pub save_kind : SaveStep → ℕ → Kind
save_kind (Copy page) part = (if nat_lt part page then Cached else Any)
save_kind Record part = (if nat_lt part RECORD_PART then Cached else Any)
save_kind (Flush flushed) part = (if nat_lt part flushed then Ready else Cached)
save_kind Fence part = Ready

-- and after its last step
abbrev pub kind_after : Option SaveStep → ℕ → Kind
kind_after None part = Clean
kind_after (Some step) part = save_kind step part

-- of the area of the committed version
abbrev pub saved_kind : Stage → ℕ → Kind
saved_kind (Format Fill) part = Any
saved_kind (Format (FormatSave step)) part = save_kind step part
saved_kind (Format StoreWord) part = Clean
saved_kind (Format FlushWord) part = Clean
saved_kind (Format FenceWord) part = Clean
saved_kind (Recover page) part = Clean
saved_kind Up part = Clean
saved_kind (Checkpoint step) part = Clean

-- of the other area
abbrev pub next_kind : CheckpointStep → ℕ → Kind
next_kind (Save step) part = save_kind step part
next_kind StoreVersion part = Clean
next_kind FlushVersion part = Clean
next_kind FenceVersion part = Clean
next_kind FlushAgain part = Any
next_kind FenceAgain part = Any

abbrev pub other_kind : Stage → ℕ → Kind
other_kind (Format step) part = Any
other_kind (Recover page) part = Any
other_kind Up part = Any
other_kind (Checkpoint step) part = next_kind step part

-- of the running pages
abbrev pub running_kind : Stage → ℕ → Kind
running_kind (Format Fill) page = (if nat_lt page PROGRAM_PAGE then Cached else Any)
running_kind (Format (FormatSave step)) page = Cached
running_kind (Format StoreWord) page = Cached
running_kind (Format FlushWord) page = Cached
running_kind (Format FenceWord) page = Cached
running_kind (Recover copied) page = (if nat_lt page copied then Cached else Any)
running_kind Up page = Cached
running_kind (Checkpoint step) page = Cached

-- of the format word
abbrev pub format_kind : Stage → Kind
format_kind (Format FlushWord) = Over 0
format_kind (Format FenceWord) = ReadyOver 0
format_kind (Format Fill) = Clean
format_kind (Format (FormatSave step)) = Clean
format_kind (Format StoreWord) = Clean
format_kind (Recover page) = Clean
format_kind Up = Clean
format_kind (Checkpoint step) = Clean

-- the format word: the bytes TREESLS1
abbrev pub format_word : ℕ
format_word = 0x31534C5345455254

abbrev pub format_value : Stage → ℕ
format_value (Format Fill) = 0
format_value (Format (FormatSave step)) = 0
format_value (Format StoreWord) = 0
format_value (Format FlushWord) = format_word
format_value (Format FenceWord) = format_word
format_value (Recover page) = format_word
format_value Up = format_word
format_value (Checkpoint step) = format_word

-- of the version word
abbrev pub version_kind : Stage → Kind
version_kind (Checkpoint FlushVersion) = Cached
version_kind (Checkpoint FenceVersion) = Ready
version_kind (Checkpoint (Save step)) = Clean
version_kind (Checkpoint StoreVersion) = Clean
version_kind (Checkpoint FlushAgain) = Clean
version_kind (Checkpoint FenceAgain) = Clean
version_kind (Format step) = Clean
version_kind (Recover page) = Clean
version_kind Up = Clean

abbrev pub version_value : Stage → ℕ → ℕ
version_value (Checkpoint FlushVersion) v = v + 1
version_value (Checkpoint FenceVersion) v = v + 1
version_value (Checkpoint (Save step)) v = v
version_value (Checkpoint StoreVersion) v = v
version_value (Checkpoint FlushAgain) v = v
version_value (Checkpoint FenceAgain) v = v
version_value (Format step) v = v
version_value (Recover page) v = v
version_value Up v = v
