-- How running objects, with the words of their pages, are a state that can be saved.
use Rattle.std.specs.Prelude.{◌≡◌, ℕ, ◌<◌, ◌≤◌, Bool, true, [], length, Option, is_some}
use Rattle.sls_base.specs.declared.limits.TheConstants.{OBJECTS, OUTPUT_CHANNELS, PAGES}
use Rattle.pmem_layout.specs.declared.number.Number.TheVariants.{Object, Page}
use Rattle.pmem_layout.specs.Numbers.{index_of}
use Rattle.plain_model.specs.States.{State}
use Rattle.plain_model.specs.Worlds.{World, has_page}
use Rattle.plain_model.specs.Sweep.{swept}
use Rattle.plain_laws.specs.Bounds.{HasRoom}
use Rattle.kobj_table.specs.declared.objects.Objects.{Objects}
use Rattle.kobj_table.specs.Objects.{Rest, slot_at, state_of, HasNoStrays}
use Rattle.object_records.specs.Records.{record_at, HasOwnLists}
use Rattle.object_records.specs.Ranges.{HasFixedSlots, IsSoundState}
use Rattle.object_records.specs.Pages.{is_content}
use Rattle.call_readings.specs.Kernel.{CountsEntries}
use Rattle.out_gate.specs.Entries.{EntriesStand}
use Rattle.durable_state.specs.Parts.{Parts}
use Rattle.saved_state.specs.State.{AreOfRecords, content_of}

-- The words of pages are those of the objects, and the content that page numbers stand for agrees with them.
pub record HaveWords (o : Objects) (content : ℕ → ℕ → ℕ) (pages : ℕ → Option (ℕ → ℕ)) : Type 0 where
  pub told : AreOfRecords (record_at o) pages
  pub agree : (page offset : ℕ) → is_content (record_at o) page ≡ true
      → content_of pages page offset ≡ content page offset

-- The numbers are those of a state: its objects', and those of their pages.
pub record AreNumbersOf (numbers : ℕ → Bool) (s : State) : Type 0 where
  pub objects : (i : ℕ) → i < OBJECTS → numbers (index_of (Object i)) ≡ is_some (s.objects i)
  pub pages : (page : ℕ) → page < PAGES → numbers (index_of (Page page)) ≡ has_page s page

-- Running objects, with what doesn't stand in them, are a state that can be saved: it is sound and swept, its rings
-- count the entries that were put, and those that a world's device hasn't accepted stand on their pages.
pub record CanBeSaved (o : Objects) (rest : Rest) (pages : ℕ → Option (ℕ → ℕ)) (w : World) : Type 0 where
  pub sound : IsSoundState (state_of o rest)
  pub swept : swept (state_of o rest) ≡ state_of o rest
  pub slots : HasFixedSlots o
  pub strays : HasNoStrays o
  pub words : HaveWords o rest.content pages
  pub rings : (id : ℕ) → CountsEntries (slot_at o id) (record w { now = state_of o rest })
  pub room : HasRoom w (state_of o rest)
  pub entries : EntriesStand (content_of pages) w rest.out
  pub channels : (channel : ℕ) → OUTPUT_CHANNELS ≤ channel → rest.out channel ≡ []

-- the parts that running objects are, with these numbers in use and these words of pages
abbrev pub parts_of : Objects → (ℕ → Bool) → (ℕ → Option (ℕ → ℕ)) → State → Parts
parts_of o numbers pages s = record { cores = length s.cores; numbers = numbers; objects = record_at o; pages = pages }

-- Objects that were put back from the records of a version: each has its record, and no list has other threads.
pub record ArePutBack (o : Objects) (p : Parts) : Type 0 where
  pub records : (i : ℕ) → record_at o i ≡ p.objects i
  pub own : HasOwnLists o
