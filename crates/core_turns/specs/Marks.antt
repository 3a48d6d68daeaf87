-- The record that an object had before its pages were prepared.
use Rattle.std.specs.Prelude.{ℕ, ◌||◌, ◌&&◌, nat_lt, Bool, true, false, Option, map}
use Rattle.sls_base.specs.declared.limits.TheConstants.{OUTPUT_CHANNELS}
use Rattle.sls_base.specs.declared.thread.Ring.{Ring}
use Rattle.mem_space.specs.declared.memory.MemPage.{MemPage}
use Rattle.link_lists.specs.Lists.{list_at}
use Rattle.kobj_codec.specs.declared.obj.Obj.{Obj}
use Rattle.kobj_table.specs.declared.objects.Objects.{Objects}
use Rattle.kobj_table.specs.declared.slot.Slot.{Slot}
use Rattle.kobj_table.specs.declared.slot.Slot.TheVariants as slots
use Rattle.kobj_table.specs.Objects.{slot_at}
use Rattle.object_records.specs.Records.{record_of}
use Rattle.page_store.specs.declared.stage.PageStage.{PageStage}
use Rattle.page_store.specs.declared.stage.PageStage.TheVariants.{Writable}
use Rattle.page_store.specs.declared.stage.Origin.TheVariants.{Zeros}
use Rattle.page_store.specs.declared.stage.Writes.TheVariants.{Nothing}
use Rattle.page_store.specs.Stages.{stage_of}
use Rattle.version_rooms.specs.declared.rooms.Rooms.{Rooms}

-- a page was fresh at the last commit, and was zeroed since to be stored to
abbrev pub is_zeroed : PageStage → Bool
is_zeroed (Writable Zeros Nothing) = true
is_zeroed stage = false

abbrev pub was_fresh : Rooms → ℕ → Bool
was_fresh r page = is_zeroed (stage_of r.pages page)

-- a page of a memory object, an output ring, and what stands in a slot, where these pages are fresh again

abbrev pub page_again : Rooms → MemPage → MemPage
page_again r p = record p { fresh = p.fresh || was_fresh r p.page }

abbrev pub ring_again : Rooms → Ring → Ring
ring_again r ring =
    record ring { fresh = ring.fresh || was_fresh r ring.page && nat_lt ring.channel OUTPUT_CHANNELS }

abbrev pub slot_again : Rooms → Slot → Slot
slot_again r (slots.Memory memory) =
    slots.Memory (record { pages = record { items = map (page_again r) memory.pages.items } })
slot_again r (slots.Ring ring) = slots.Ring (ring_again r ring)
slot_again r slot = slot

-- the record that the object of a number would have
abbrev pub record_again : Rooms → Objects → ℕ → Option Obj
record_again r o i = record_of (slot_again r (slot_at o i)) (list_at o.links i)
