-- What of objects no plain state tells, and how it is left alone while the kernel runs.
use Rattle.std.specs.Prelude.{◌≡◌, ◌⊎◌, ℕ, ◌^◌, ◌<◌, ◌≤◌, true, length, All, None, slice_index_or}
use Rattle.sls_base.specs.declared.limits.TheConstants.{OUTPUT_CHANNELS}
use Rattle.sls_base.specs.declared.thread.Ring.{Ring}
use Rattle.link_lists.specs.Lists.{list_at}
use Rattle.kobj_table.specs.declared.slot.Slot.{Slot}
use Rattle.kobj_table.specs.declared.slot.Slot.TheVariants as slots
use Rattle.kobj_table.specs.declared.slot.Cores.{Cores}
use Rattle.kobj_table.specs.declared.objects.Objects.{Objects}
use Rattle.kobj_table.specs.Slots.{cores_of, is_scheduler}
use Rattle.kobj_table.specs.Objects.{slot_at, object_at}

-- a ring counts as many entries as before; or it is an output's, and counts more, as far as counts go
abbrev pub CountsOn : Ring → Ring → Type 0
CountsOn old new =
    (new.count ≡ old.count)
    ⊎ ((new.channel < OUTPUT_CHANNELS) × (old.count ≤ new.count) × (new.count < 2 ^ 64))

-- A ring has its channel, its mark and its page.
pub record KeepsRing (old new : Ring) : Type 0 where
  pub channel : new.channel ≡ old.channel
  pub fresh : new.fresh ≡ old.fresh
  pub page : new.page ≡ old.page
  pub count : CountsOn old new

-- There are as many cores, and what stands in the places of those that there aren't is as before.
pub record KeepsCores (old new : Cores) : Type 0 where
  pub cores : new.cores ≡ old.cores
  pub size : length new.running ≡ length old.running
  pub past : (core : ℕ) → old.cores ≤ core
      → slice_index_or new.running core None ≡ slice_index_or old.running core None

-- What of a slot no plain state tells is left alone. A memory object is the one that stood there, with the marks of its
-- pages; or nothing stood there, and all its pages are fresh. A ring or a scheduler stood there, and is the same but
-- for what is told elsewhere: the entries counted, and what the cores run. An object stays.
abbrev pub IsUntoldKept : Slot → Slot → Type 0
IsUntoldKept old slots.Empty = old ≡ slots.Empty
IsUntoldKept old (slots.Memory memory) =
    (old ≡ slots.Memory memory) ⊎ ((old ≡ slots.Empty) × All (λ page. page.fresh ≡ true) memory.pages.items)
IsUntoldKept old (slots.Ring ring) = (before : Ring) × (old ≡ slots.Ring before) × KeepsRing before ring
IsUntoldKept old (slots.Scheduler cores) = (before : Cores) × (old ≡ slots.Scheduler before) × KeepsCores before cores
IsUntoldKept old new = Unit {0}

-- So it is of each slot.
pub record KeepsUntold (old new : Objects) : Type 0 where
  pub each : (i : ℕ) → IsUntoldKept (slot_at old i) (slot_at new i)

-- What is told elsewhere than by an object.

-- how many entries a ring counts
abbrev pub count_in : Slot → ℕ
count_in (slots.Ring ring) = ring.count
count_in slot = 0

-- What the plain machine tells of a number is the same: the object, of a ring the entries that it counts, and of a
-- scheduler what its cores run and the run queue.
pub record IsToldSame (before after : ℕ → ℕ → ℕ) (old new : Objects) (i : ℕ) : Type 0 where
  pub object : object_at after new i ≡ object_at before old i
  pub count : (ring : Ring) → slot_at new i ≡ slots.Ring ring → ring.count ≡ count_in (slot_at old i)
  pub cores : is_scheduler (slot_at new i) ≡ true → cores_of (slot_at new i) ≡ cores_of (slot_at old i)
  pub queue : is_scheduler (slot_at new i) ≡ true → list_at new.links i ≡ list_at old.links i
