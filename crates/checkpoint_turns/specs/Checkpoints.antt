-- When a checkpoint in flight, with the words of the memory, is of a world.
use Rattle.std.specs.Prelude.{◌≡◌, ℕ, ◌+◌, ◌<◌, true, false, List, length, Option, Some, None, slice_index}
use Rattle.sls_base.specs.declared.limits.TheConstants.{OUTPUT_CHANNELS, PAGES}
use Rattle.pmem_model.specs.Memory.{Memory, word_at, AllHome}
use Rattle.plain_state.specs.Worlds.{World, accepted_count, has_page}
use Rattle.plain_model.specs.Sweep.{swept}
use Rattle.plain_laws.specs.Whole.{IsSound}
use Rattle.kobj_table.specs.declared.objects.Objects.{Objects}
use Rattle.kobj_table.specs.Objects.{Rest, slot_at, state_of}
use Rattle.call_readings.specs.Content.{Reads}
use Rattle.call_readings.specs.Kernel.{CountsEntries}
use Rattle.object_records.specs.Ranges.{HasFixedSlots}
use Rattle.object_records.specs.Records.{record_at}
use Rattle.alloc_journal.specs.Sets.{has}
use Rattle.page_store.specs.Stages.{stage_of, after}
use Rattle.durable_state.specs.Parts.{Parts}
use Rattle.version_rooms.specs.declared.rooms.Rooms.{Rooms}
use Rattle.version_rooms.specs.Rooms.{Contents}
use Rattle.saved_state.specs.State.{ArePartsOf}
use Rattle.saved_state.specs.Running.{AreNumbersOf, CanBeSaved}
use Rattle.kernel_calls.specs.Kernel.{IsJustSaved}
use Rattle.leader_helper.specs.declared.stage.Stage.TheVariants.{Gather}
use Rattle.leader_helper.specs.Leads.{IsApplying, IsWriting}
use Rattle.leader_helper.specs.Saving.{words_kept}
use Rattle.leader_helper.specs.Turns as leader
use Rattle.core_turns.specs.declared.running.Running.{Running}
use Rattle.core_turns.specs.Runs.{ArePrepared, AreWaitingThere, CountsSaved, objects_of, prepared_by}
use Rattle.checkpoint_turns.specs.declared.checkpoint.Checkpoint.{Checkpoint}

-- how many turns of the leader it takes at most to its end: those that are left, and those that it was spared
abbrev pub turns_left : Checkpoint → ℕ
turns_left c = leader.turns_left c.leader c.running.rooms + c.spared

-- no core has a page in hand
abbrev pub NoneInHand : Checkpoint → Type 0
NoneInHand c = (core : ℕ) → prepared_by c.running core ≡ None

-- A core has a page of the running state in hand where the page's room says so, and only while the leader gathers.
pub record AreInHand (c : Checkpoint) (w : World) : Type 0 where
  pub prepared : ArePrepared c.running
  pub in_range : (core page : ℕ) → prepared_by c.running core ≡ Some page → page < PAGES
  pub gather : (core page : ℕ) → prepared_by c.running core ≡ Some page → c.leader.stage ≡ Gather
  pub there : (core page : ℕ) → prepared_by c.running core ≡ Some page → has_page w.now page ≡ true

-- What devices are told meanwhile: the inputs that wait, the entries that were put and that the device has accepted,
-- and those of the saved copy.
pub record TellsDevices (k : Running) (accepted : List ℕ) (w : World) : Type 0 where
  pub inputs : k.calls.inputs ≡ w.now.inputs
  pub rings : (id : ℕ) → CountsEntries (slot_at (objects_of k) id) w
  pub accepted_are : (channel : ℕ) → channel < OUTPUT_CHANNELS
      → slice_index accepted channel ≡ accepted_count w channel
  pub saved : CountsSaved k w

-- what is saved, and what is written beside it: the records of objects, and the words that pages have now
abbrev pub contents_of : Parts → Objects → (ℕ → Option (ℕ → ℕ)) → Contents
contents_of saved o pages = record { saved = saved; objects = record_at o; pages = pages }

-- Before the commit: the version of the saved copy is committed, and beside it is written the running state, swept.
pub record IsBefore (c : Checkpoint) (accepted : List ℕ) (m : Memory) (w : World) : Type 0 where
  pub sound : IsSound w
  pub cores : length w.now.cores ≡ length w.saved.cores
  pub rest : Rest
  pub now : state_of (objects_of c.running) rest ≡ swept w.now
  pub content : Reads rest.content m
  pub saved : Parts
  pub pages : ℕ → Option (ℕ → ℕ)
  pub are : ArePartsOf w.base (accepted_count w) saved w.saved
  pub writing : IsWriting c.leader c.running.rooms (word_at m) w.version
      (contents_of saved (objects_of c.running) pages)
  pub can : CanBeSaved (objects_of c.running) rest (words_kept (objects_of c.running) pages) w
  pub numbers : AreNumbersOf (has c.running.rooms.numbers.running) (swept w.now)
  pub devices : TellsDevices c.running accepted w
  pub in_hand : AreInHand c w
  pub spared : c.spared ≡ 0
  pub home : AllHome m

-- to no page was anything stored since the commit, and none is prepared
abbrev pub AreAsCommitted : Rooms → Type 0
AreAsCommitted r = (page : ℕ) → page < PAGES → after (stage_of r.pages page) ≡ stage_of r.pages page

-- Behind the commit: the running state is the saved one, and to no page was anything stored since.
pub record IsBehind (c : Checkpoint) (accepted : List ℕ) (m : Memory) (w : World) : Type 0 where
  pub rest : Rest
  pub just : IsJustSaved (objects_of c.running) c.running.calls.inputs accepted m rest w
  pub unchanged : (id : ℕ) → w.changed id ≡ false
  pub saved : Parts
  pub pages : ℕ → Option (ℕ → ℕ)
  pub are : ArePartsOf w.base (accepted_count w) saved w.saved
  pub applying : IsApplying c.leader c.running.rooms (word_at m) w.version saved pages
  pub objects : (id : ℕ) → record_at (objects_of c.running) id ≡ saved.objects id
  pub slots : HasFixedSlots (objects_of c.running)
  pub stages : AreAsCommitted c.running.rooms
  pub waiting : AreWaitingThere (objects_of c.running) w
  pub counts : CountsSaved c.running w
  pub none : NoneInHand c
  pub home : AllHome m

-- A checkpoint in flight is a world's.
pub data IsOf (c : Checkpoint) (accepted : List ℕ) (m : Memory) (w : World) : Type 0 where
  Before : IsBefore c accepted m w → IsOf c accepted m w
  Behind : IsBehind c accepted m w → IsOf c accepted m w

-- it is some world's
pub record IsInFlight (c : Checkpoint) (accepted : List ℕ) (m : Memory) : Type 0 where
  pub world : World
  pub is_of : IsOf c accepted m world
