-- The marks that say which pages are fresh.
use Rattle.std.specs.Prelude.{ℕ, ◌==◌, ◌&&◌, not, nat_lt, Bool, if◌then◌else◌, List, map}
use Rattle.sls_base.specs.declared.limits.TheConstants.{OUTPUT_CHANNELS}
use Rattle.sls_base.specs.declared.thread.Ring.{Ring}
use Rattle.mem_space.specs.declared.memory.MemPage.{MemPage}
use Rattle.kobj_table.specs.declared.slot.Slot.{Slot}
use Rattle.kobj_table.specs.declared.slot.Slot.TheVariants as slots

-- a page of a memory object, and an output ring, where page `page` has this mark
abbrev pub page_marked : ℕ → Bool → MemPage → MemPage
page_marked page fresh p = if p.page == page then record p { fresh = fresh } else p

abbrev pub ring_marked : ℕ → Bool → Ring → Ring
ring_marked page fresh ring =
    if (ring.page == page) && nat_lt ring.channel OUTPUT_CHANNELS then record ring { fresh = fresh } else ring

-- what stands in a slot, where it has
abbrev pub marked : ℕ → Bool → Slot → Slot
marked page fresh (slots.Memory memory) =
    slots.Memory (record { pages = record { items = map (page_marked page fresh) memory.pages.items } })
marked page fresh (slots.Ring ring) = slots.Ring (ring_marked page fresh ring)
marked page fresh slot = slot
