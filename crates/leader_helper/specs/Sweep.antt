-- What the sweep of a checkpoint leaves.
use Rattle.std.specs.Prelude.{◌≡◌, ℕ, ◌<◌, ◌&&◌, ◌||◌, nat_lt, Bool, true, false, if◌then◌else◌, map}
use Rattle.sls_base.specs.declared.limits.TheConstants.{OUTPUT_CHANNELS, PAGES}
use Rattle.sls_base.specs.declared.thread.Ring.{Ring}
use Rattle.mem_space.specs.declared.memory.MemPage.{MemPage}
use Rattle.kobj_table.specs.declared.slot.Slot.{Slot}
use Rattle.kobj_table.specs.declared.slot.Slot.TheVariants as slots
use Rattle.page_store.specs.declared.stage.PageStage.{PageStage}
use Rattle.page_store.specs.declared.stage.PageStage.TheVariants.{Writable}
use Rattle.page_store.specs.declared.stage.Origin.TheVariants.{Zeros}
use Rattle.page_store.specs.declared.stage.Writes.TheVariants.{Nothing}
use Rattle.page_store.specs.Stages.{stage_of}
use Rattle.version_rooms.specs.declared.rooms.Rooms.{Rooms}

-- a page was zeroed to be stored to, and nothing was stored to it
abbrev pub is_zeroed_alone : PageStage → Bool
is_zeroed_alone (Writable Zeros Nothing) = true
is_zeroed_alone stage = false

-- the page is so in the rooms
abbrev pub IsZeroedAlone : Rooms → ℕ → Type 0
IsZeroedAlone r page = (page < PAGES) × (is_zeroed_alone (stage_of r.pages page) ≡ true)

-- Such pages are zero.
abbrev pub ReadAsZeros : Rooms → (ℕ → ℕ → ℕ) → Type 0
ReadAsZeros r content = (page offset : ℕ) → IsZeroedAlone r page → content page offset ≡ 0

-- the page is so, and below another one
abbrev pub is_zeroed_below : Rooms → ℕ → ℕ → Bool
is_zeroed_below r end page = is_zeroed_alone (stage_of r.pages page) && nat_lt page end

-- a page of a memory object, and an output ring, where these pages are marked as fresh

abbrev pub page_freshened : (ℕ → Bool) → MemPage → MemPage
page_freshened these p = record p { fresh = p.fresh || these p.page }

abbrev pub ring_freshened : (ℕ → Bool) → Ring → Ring
ring_freshened these ring =
    if nat_lt ring.channel OUTPUT_CHANNELS then record ring { fresh = ring.fresh || these ring.page } else ring

-- what stands in a slot, where they are
abbrev pub freshened : (ℕ → Bool) → Slot → Slot
freshened these (slots.Memory memory) =
    slots.Memory (record { pages = record { items = map (page_freshened these) memory.pages.items } })
freshened these (slots.Ring ring) = slots.Ring (ring_freshened these ring)
freshened these slot = slot
