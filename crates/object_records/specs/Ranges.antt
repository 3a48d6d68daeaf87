-- Which objects of a running kernel have a record.
use Rattle.std.specs.Prelude.{◌≡◌, ℕ, ◌+◌, ◌<◌, ◌≤◌, Bool, false, length, None, slice_index_or}
use Rattle.sls_base.specs.declared.limits.TheConstants.{CORES, OUTPUT_CHANNELS}
use Rattle.sls_base.specs.declared.fixed.TheConstants.{FIRST_OUTPUT_RING, INPUT_RING, SCHEDULER}
use Rattle.plain_model.specs.Objects.{page_of_channel}
use Rattle.plain_model.specs.States.{State}
use Rattle.plain_laws.specs.Places.{IsPlaced, IsPresent}
use Rattle.plain_laws.specs.Sound.{HaveForms, NameWhatIs, AreApart}
use Rattle.plain_laws.specs.Laws.{AreInRange}
use Rattle.plain_laws.specs.Fixed.{HasFixedObjects}
use Rattle.plain_laws.specs.Bounds.{HasThreads}
use Rattle.kobj_table.specs.declared.slot.Slot.{Slot}
use Rattle.kobj_table.specs.declared.slot.Slot.TheVariants as slots
use Rattle.kobj_table.specs.declared.slot.Cores.{Cores}
use Rattle.kobj_table.specs.declared.objects.Objects.{Objects}
use Rattle.kobj_table.specs.Objects.{slot_at}
use Rattle.kobj_codec.specs.Objects.{IsRing}

-- What is sound of one state of a sound world.
pub record IsSoundState (s : State) : Type 0 where
  pub placed : IsPlaced s
  pub present : IsPresent s
  pub in_range : AreInRange s
  pub forms : HaveForms s
  pub names : NameWhatIs s
  pub apart : AreApart s
  pub fixed : HasFixedObjects s
  pub threads : HasThreads s

-- there are 1 to 8 cores, and nothing runs on any other
pub record IsCores (c : Cores) : Type 0 where
  pub some : 1 ≤ c.cores
  pub most : c.cores ≤ CORES
  pub size : length c.running ≡ CORES
  pub past : (core : ℕ) → c.cores ≤ core → slice_index_or c.running core None ≡ None

-- What of a slot no plain state tells is in range: a ring's count, page and mark, and which cores there are.
abbrev pub IsUntoldInRange : Slot → Type 0
IsUntoldInRange (slots.Ring ring) = IsRing ring
IsUntoldInRange (slots.Scheduler cores) = IsCores cores
IsUntoldInRange slot = Unit {0}

-- so it is of each slot
abbrev pub AreUntoldInRange : Objects → Type 0
AreUntoldInRange o = (i : ℕ) → IsUntoldInRange (slot_at o i)

-- The ring of an output channel stands in a slot, with its channel and its page.
pub record IsOutputRing (channel : ℕ) (slot : Slot) : Type 0 where
  pub fresh : Bool
  pub count : ℕ
  pub is : slot ≡ slots.Ring (record { channel = channel; fresh = fresh; count = count; page = page_of_channel channel })

-- The objects that are always there stand at their numbers, with what no plain state tells of them: the scheduler has
-- 1 to 8 cores, and each ring its page.
pub record HasFixedSlots (o : Objects) : Type 0 where
  pub cores : Cores
  pub scheduler : slot_at o SCHEDULER ≡ slots.Scheduler cores
  pub cores_are : IsCores cores
  pub outputs : (channel : ℕ) → channel < OUTPUT_CHANNELS
      → IsOutputRing channel (slot_at o (FIRST_OUTPUT_RING + channel))
  pub input : slot_at o INPUT_RING
      ≡ slots.Ring (record { channel = OUTPUT_CHANNELS; fresh = false; count = 0; page = 0 })
