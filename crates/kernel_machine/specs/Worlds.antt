-- When what a machine is at, with the words of its memory, is a world's.
use Rattle.std.specs.Prelude.{◌≡◌, ℕ, ◌+◌, ◌<◌, ◌≤◌, List, Some, slice_index}
use Rattle.sls_base.specs.declared.limits.TheConstants.{OUTPUT_CHANNELS, PAGES}
use Rattle.pmem_model.specs.Memory.{Memory, word_at, AllHome}
use Rattle.plain_state.specs.Worlds.{World, accepted_count}
use Rattle.plain_model.specs.Initial.{first_world}
use Rattle.plain_model.specs.Play.{cut}
use Rattle.plain_laws.specs.Bounds.{IsOfBytes}
use Rattle.plain_laws.specs.Whole.{IsSound}
use Rattle.page_store.specs.Stages.{stage_of}
use Rattle.cow_fault.specs.Faults.{steps_left}
use Rattle.durable_state.specs.Parts.{Parts}
use Rattle.saved_state.specs.State.{ArePartsOf}
use Rattle.first_format.specs.Shows.{FormattingShows}
use Rattle.tree_restore.specs.declared.recovery.Recovery.{Recovery}
use Rattle.tree_restore.specs.Restores.{RestoreShows}
use Rattle.core_turns.specs.declared.running.Running.{Running}
use Rattle.core_turns.specs.Runs.{Runs, prepared_by}
use Rattle.checkpoint_turns.specs.Checkpoints.{IsOf}
use Rattle.machine_contract.specs.declared.bounds.TheConstants.{MOST_PREPARES}
use Rattle.kernel_machine.specs.declared.work.FirstFormat.{FirstFormat}
use Rattle.kernel_machine.specs.declared.work.Work.{Work}
use Rattle.kernel_machine.specs.declared.work.Work.TheVariants as work
use Rattle.kernel_machine.specs.Sides.{spent_at}

-- the device has accepted these many entries of each channel
abbrev pub HasAccepted : List ℕ → World → Type 0
HasAccepted accepted w = (channel : ℕ) → channel < OUTPUT_CHANNELS
    → slice_index accepted channel ≡ accepted_count w channel

-- The memory is being formatted from an image, and the world is the first one of that.
pub record IsFormatting (s : FirstFormat) (cores : ℕ) (accepted : List ℕ) (m : Memory) (w : World) : Type 0 where
  pub bytes : IsOfBytes s.image
  pub shows : FormattingShows s.formatting (word_at m) s.image cores
  pub world : w ≡ first_world s.image cores
  pub counted : HasAccepted accepted w
  pub home : AllHome m

-- Recovery is on its way to the saved copy, and nothing has happened to the world since its last commit or cut.
pub record IsRecovering (r : Recovery) (accepted : List ℕ) (m : Memory) (w : World) : Type 0 where
  pub saved : Parts
  pub shows : RestoreShows r (word_at m) w.version saved
  pub are : ArePartsOf w.base (accepted_count w) saved w.saved
  pub off : cut w ≡ w
  pub sound : IsSound w
  pub counted : HasAccepted accepted w
  pub home : AllHome m

-- What the machine is at is a world's.
abbrev pub IsWorkOf : Work → ℕ → List ℕ → Memory → World → Type 0
IsWorkOf (work.Formats s) cores accepted m w = IsFormatting s cores accepted m w
IsWorkOf (work.Recovers s) cores accepted m w = IsRecovering s.recovery accepted m w
IsWorkOf (work.Runs k) cores accepted m w = Runs k accepted m w
IsWorkOf (work.Saves c) cores accepted m w = IsOf c accepted m w
IsWorkOf work.Between cores accepted m w = ⊥

-- No core past the last has a page in hand. The turns by which a page was prepared, and those that it may still take,
-- are no more than the bound.
pub record AreHands (k : Running) (cores : ℕ) (spent : List ℕ) : Type 0 where
  pub below : (core page : ℕ) → prepared_by k core ≡ Some page → core < cores
  pub seldom : (page : ℕ) → page < PAGES
      → spent_at spent page + steps_left (stage_of k.rooms.pages page) ≤ MOST_PREPARES

-- so it is of cores that run, within a checkpoint too
abbrev pub HaveHands : Work → ℕ → List ℕ → Type 0
HaveHands (work.Formats s) cores spent = Unit {0}
HaveHands (work.Recovers s) cores spent = Unit {0}
HaveHands (work.Runs k) cores spent = AreHands k cores spent
HaveHands (work.Saves c) cores spent = AreHands c.running cores spent
HaveHands work.Between cores spent = Unit {0}
