-- What a turn, and other events, do to the machine in a course.
use Rattle.std.specs.Prelude.{◌≡◌, ℕ, ◌+◌, ◌<◌, ◌≤◌, true, List, length}
use Rattle.sls_base.specs.declared.limits.TheConstants.{LAST_VERSION, PAGES, VERSION_AT}
use Rattle.sls_base.specs.declared.image.Image.{Image}
use Rattle.pmem_model.specs.Memory.{Memory, word_at}
use Rattle.plain_state.specs.Worlds.{World}
use Rattle.page_store.specs.Slots.{IsAllClean, durable_words}
use Rattle.page_store.specs.Stages.{stage_of, IsAsRecovered}
use Rattle.durable_state.specs.Parts.{Parts, PartsStand}
use Rattle.tree_restore.specs.declared.recovery.Recovery.{Recovery}
use Rattle.tree_restore.specs.declared.recovery.TheConstants.{RECOVERY_TURNS}
use Rattle.tree_restore.specs.Restores.{RestoreShows, turns_left}
use Rattle.core_turns.specs.declared.running.Running.{Running}
use Rattle.core_turns.specs.Runs.{IsRunning, Runs}
use Rattle.checkpoint_turns.specs.declared.checkpoint.Checkpoint.{Checkpoint}
use Rattle.checkpoint_turns.specs.Checkpoints.{IsBefore, turns_left as checkpoint_turns_left}
use Rattle.plain_model.specs.Cost.{cost}
use Rattle.machine_contract.specs.declared.bounds.TheConstants.{MOST_DUE}
use Rattle.machine_contract.specs.declared.answers.Did.{Did}
use Rattle.machine_contract.specs.Courses.{Course, turn_label, after}
use Rattle.machine_contract.specs.Goes.{TurnGoes}
use Rattle.kernel_machine.specs.declared.work.Restoring.{Restoring}
use Rattle.kernel_machine.specs.declared.work.Work.{Work}
use Rattle.kernel_machine.specs.declared.work.Work.TheVariants as work
use Rattle.kernel_machine.specs.declared.kernel.Kernel.{Kernel}
use Rattle.kernel_machine.specs.Sides.{seen_of}
use Rattle.kernel_machine.specs.Formats.{format}
use Rattle.kernel_machine.specs.Worlds.{IsRecovering}
use Rattle.kernel_machine.specs.Shows.{IsAt, IsMadeFrom}

-- A turn of a core goes as it may in the course, and the machine is then at the course after it.
pub record TakesTurn (old : Kernel) (c : Course) (core : ℕ) (did : Did) (new : Kernel) : Type 0 where
  pub goes : TurnGoes format core did (seen_of old) c (seen_of new)
  pub is_at : IsAt new (after c (turn_label core did))

-- the machine is made from the same images
abbrev pub StaysMade : Kernel → Kernel → Type 0
StaysMade old new = (image : Image) → IsMadeFrom old image → IsMadeFrom new image

-- Recovery begins behind formatting, on the words that were stored.
pub record BeginsRecovery (then : Work) (m : Memory) : Type 0 where
  pub start : Restoring
  pub is : then ≡ work.Recovers start
  pub first : start.is_first ≡ true
  pub left : turns_left start.recovery ≤ RECOVERY_TURNS
  pub shows : (v : ℕ) (saved : Parts) → IsAllClean (word_at m) → (word_at m VERSION_AT).durable ≡ v
      → PartsStand (durable_words (word_at m)) v saved → RestoreShows start.recovery (word_at m) v saved

-- The cores run what was recovered: no core has a page in hand, and to none was anything stored.
pub record ComesUp (r : Recovery) (m : Memory) (then : Work) : Type 0 where
  pub running : Running
  pub is : then ≡ work.Runs running
  pub runs : (accepted : List ℕ) (w : World) → IsRecovering r accepted m w → Runs running accepted m w
  pub stages : (accepted : List ℕ) (w : World) → IsRecovering r accepted m w → (page : ℕ) → page < PAGES
      → IsAsRecovered (stage_of running.rooms.pages page)

-- A checkpoint of running cores begins, in each world that they are whose version isn't the last. They have in hand
-- what they had, and each page is at its stage.
pub record BeginsCheckpoint (k : Running) (m : Memory) (then : Work) : Type 0 where
  pub checkpoint : Checkpoint
  pub is : then ≡ work.Saves checkpoint
  pub before : (accepted : List ℕ) (w : World) → w.version < LAST_VERSION
      → length w.now.cores ≡ length w.saved.cores → Runs k accepted m w → IsBefore checkpoint accepted m w
  pub left : (accepted : List ℕ) (w : World) → w.version < LAST_VERSION → Runs k accepted m w
      → checkpoint_turns_left checkpoint + MOST_DUE ≤ cost w
  pub prepares : checkpoint.running.prepares ≡ k.prepares
  pub stages : (page : ℕ) → page < PAGES
      → stage_of checkpoint.running.rooms.pages page ≡ stage_of k.rooms.pages page

-- cores run
abbrev pub IsRunningWork : Work → Memory → Type 0
IsRunningWork now m =
    (k : Running) × (now ≡ work.Runs k) × ((accepted : List ℕ) × IsRunning k accepted m)
