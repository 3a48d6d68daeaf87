-- When running cores, with the words of the memory, are a world.
use Rattle.std.specs.Prelude.{◌≡◌, ◌↔◌, ℕ, ◌+◌, ◌<◌, false, true, List, Option, Some, None, length, slice_index, slice_index_or}
use Rattle.sls_base.specs.declared.limits.TheConstants.{OBJECTS, OUTPUT_CHANNELS, PAGES}
use Rattle.pmem_model.specs.Memory.{Memory, word_at, AllHome}
use Rattle.kobj_table.specs.declared.objects.Objects.{Objects}
use Rattle.kobj_table.specs.Objects.{Rest}
use Rattle.object_records.specs.Pages.{is_content}
use Rattle.object_records.specs.Ranges.{HasFixedSlots}
use Rattle.object_records.specs.Records.{record_at}
use Rattle.page_store.specs.declared.stage.PageStage.TheVariants as stages
use Rattle.page_store.specs.declared.stage.PageState.TheVariants.{Preparing}
use Rattle.page_store.specs.declared.stage.Writes.TheVariants.{Stored}
use Rattle.page_store.specs.Stages.{stage_of, state_of}
use Rattle.durable_state.specs.Parts.{Parts}
use Rattle.version_rooms.specs.declared.rooms.Rooms.{Rooms}
use Rattle.version_rooms.specs.Rest.{AreAtRest}
use Rattle.saved_state.specs.State.{ArePartsOf}
use Rattle.plain_state.specs.Objects.{page_of_channel}
use Rattle.plain_state.specs.Worlds.{World, accepted_count}
use Rattle.kernel_calls.specs.Kernel.{Holds}
use Rattle.core_turns.specs.declared.running.Running.{Running}
use Rattle.core_turns.specs.Marks.{record_again}

-- the objects of running cores
abbrev pub objects_of : Running → Objects
objects_of k = k.calls.runtime.objects

-- the page that a core prepares
abbrev pub prepared_by : Running → ℕ → Option ℕ
prepared_by k core = slice_index_or k.prepares core None

-- A page is fresh in its room exactly where no record has content on it.
abbrev pub AreFreshAlike : Rooms → Objects → Type 0
AreFreshAlike r o = (page : ℕ) → page < PAGES
    → (stage_of r.pages page ≡ stages.Fresh) ↔ (is_content (record_at o) page ≡ false)

-- A page of which the leader has something to flush was stored to in this epoch.
abbrev pub AreStoredIn : Rooms → World → Type 0
AreStoredIn r w = (page : ℕ) → page < PAGES
    → (origin : _) → stage_of r.pages page ≡ stages.Writable origin Stored → w.stored page ≡ true

-- An object that didn't change in this epoch has its saved record, but that pages are fresh no more which were zeroed.
abbrev pub AreAsSaved : Rooms → Objects → Parts → World → Type 0
AreAsSaved r o saved w = (i : ℕ) → i < OBJECTS → w.changed i ≡ false → record_again r o i ≡ saved.objects i

-- A core has a page in hand exactly where the page's room says that it prepares it.
abbrev pub ArePrepared : Running → Type 0
ArePrepared k = (core page : ℕ) → page < PAGES
    → (prepared_by k core ≡ Some page) ↔ (state_of k.rooms.pages page ≡ Preparing core)

-- The page of a ring that has entries which the device hasn't accepted is not fresh.
abbrev pub AreWaitingThere : Objects → World → Type 0
AreWaitingThere o w = (channel : ℕ) → channel < OUTPUT_CHANNELS
    → length (w.released channel) < length (w.now.out channel)
    → is_content (record_at o) (page_of_channel channel) ≡ true

-- It is known how many entries of each channel the saved copy has put.
abbrev pub CountsSaved : Running → World → Type 0
CountsSaved k w = (channel : ℕ) → channel < OUTPUT_CHANNELS
    → slice_index k.saved channel ≡ w.base channel + length (w.saved.out channel)

-- Running cores are a world's: the kernel's values are its running state, and the rooms are at rest with its saved one.
pub record Runs (k : Running) (accepted : List ℕ) (m : Memory) (w : World) : Type 0 where
  pub rest : Rest
  pub holds : Holds k.calls accepted m rest w
  pub saved : Parts
  pub pages : ℕ → Option (ℕ → ℕ)
  pub at_rest : AreAtRest k.rooms (word_at m) w.version saved pages
  pub are : ArePartsOf w.base (accepted_count w) saved w.saved
  pub slots : HasFixedSlots (objects_of k)
  pub fresh : AreFreshAlike k.rooms (objects_of k)
  pub stored : AreStoredIn k.rooms w
  pub unchanged : AreAsSaved k.rooms (objects_of k) saved w
  pub waiting : AreWaitingThere (objects_of k) w
  pub counts : CountsSaved k w
  pub prepares : ArePrepared k
  pub in_range : (core page : ℕ) → prepared_by k core ≡ Some page → page < PAGES
  pub home : AllHome m

-- they are some world's
pub record IsRunning (k : Running) (accepted : List ℕ) (m : Memory) : Type 0 where
  pub world : World
  pub runs : Runs k accepted m world
