-- Of which world the running kernel's values are.
use Rattle.std.specs.Prelude.{◌≡◌, ◌≢◌, ℕ, ◌<◌, ◌≤◌, length, option_map, slice_get, slice_index}
use Rattle.sls_base.specs.declared.limits.TheConstants.{OUTPUT_CHANNELS}
use Rattle.pmem_model.specs.Memory.{Memory}
use Rattle.plain_laws.specs.Bounds.{HasThreads}
use Rattle.plain_model.specs.Worlds.{World, is_used_object, is_used_page, put_count, accepted_count}
use Rattle.kobj_table.specs.declared.slot.Slot.{Slot}
use Rattle.kobj_table.specs.declared.slot.Slot.TheVariants as slots
use Rattle.kobj_table.specs.declared.objects.Objects.{Objects}
use Rattle.kobj_table.specs.Objects.{Rest, slot_at, state_of}
use Rattle.call_readings.specs.declared.numbers.NumbersInUse.{NumbersInUse}
use Rattle.call_readings.specs.declared.devices.Devices.{Devices}
use Rattle.call_readings.specs.Content.{Reads}
use Rattle.call_readings.specs.NumberSets.{uses_object, uses_page}

-- a world whose running state is that of the objects
unfoldable pub world_of : Objects → Rest → World → World
world_of o rest w = record w { now = state_of o rest }

-- The numbers are those in use in the world: by its running state, or by its saved one.
pub record IsCounted (numbers : NumbersInUse) (w : World) : Type 0 where
  pub objects : (id : ℕ) → uses_object numbers id ≡ is_used_object w id
  pub pages : (page : ℕ) → uses_page numbers page ≡ is_used_page w page

-- a ring is of a channel that there is, and has the count of the entries that were put on it
abbrev pub CountsEntries : Slot → World → Type 0
CountsEntries (slots.Ring ring) w =
    (ring.channel ≤ OUTPUT_CHANNELS) × (ring.channel ≢ OUTPUT_CHANNELS → ring.count ≡ put_count w ring.channel)
CountsEntries slot w = Unit {0}

-- The rings count the world's entries, and the devices tell how many of them it has accepted and which input waits.
pub record IsAttached (o : Objects) (devices : Devices) (w : World) : Type 0 where
  pub rings : (id : ℕ) → CountsEntries (slot_at o id) w
  pub accepted : (channel : ℕ) → channel < OUTPUT_CHANNELS
      → slice_index devices.accepted channel ≡ accepted_count w channel
  pub input : devices.first_input ≡ option_map length (slice_get w.now.inputs 0)

-- What a tick finds is a world's: beside that, the pages' bytes, and threads each at the address of an instruction.
pub record IsOfWorld (o : Objects) (numbers : NumbersInUse) (devices : Devices) (m : Memory) (rest : Rest) (w : World)
    : Type 0 where
  pub counted : IsCounted numbers (world_of o rest w)
  pub attached : IsAttached o devices (world_of o rest w)
  pub content : Reads rest.content m
  pub threads : HasThreads (state_of o rest)
