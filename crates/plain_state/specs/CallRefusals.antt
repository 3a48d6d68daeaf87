-- When a call is refused: the first refusal, in the stated order, that holds for any of its arguments.
use Rattle.std.specs.Prelude.{ℕ, ◌+◌, ◌*◌, ◌/◌, ◌%◌, ◌^◌, ◌-◌, ◌==◌, ◌&&◌, ◌||◌, not, nat_lt, nat_le, min, Bool, false, List, length, find, Option, Some, is_none}
use Rattle.std.specs.List.{list_any}
use Rattle.sls_base.specs.declared.limits.TheConstants.{PAGE_BYTES, ENTRY_BYTES, MEMORY_PAGES, SPACE_REGIONS, GROUP_SLOTS, INSTRUCTION_BYTES}
use Rattle.sls_base.specs.declared.rights.TheConstants.{READ, WRITE, REGION_RIGHTS}
use Rattle.sls_base.specs.declared.thread.Thread.{Thread as ThreadRecord}
use Rattle.plain_state.specs.declared.objects.Region.{Region}
use Rattle.plain_state.specs.declared.calls.Refusal.{Refusal}
use Rattle.plain_state.specs.declared.calls.Refusal.TheVariants.{NoCap, WrongKind, NoRight, BadAddress, BadSize, Overlap, NoSlot, NoObjects, NoPages, NoRegions, Full, Empty, Taken}
use Rattle.plain_state.specs.declared.calls.Need.{Need}
use Rattle.plain_state.specs.declared.calls.Call.{Call}
use Rattle.plain_state.specs.declared.calls.Call.TheVariants.{Put, Get, MemNew, Map, Unmap, SpaceNew, GroupNew, CapCopy, CapDrop, ThreadNew, NoteNew, Signal, ConnNew, ConnCall, Serve}
use Rattle.plain_state.specs.Objects.{Object, Group, Connection, Notification, OutputRing, slots_of, regions_of, pages_of, is_kind, includes}
use Rattle.plain_state.specs.States.{State}
use Rattle.plain_state.specs.Memory.{is_covered}
use Rattle.plain_state.specs.Worlds.{World, is_ring_full, free_objects, free_pages}
use Rattle.plain_state.specs.Calls.{arg, cap_in, cap_named, named, rights_of_cap, free_slot, needs}
use Rattle.plain_state.specs.Refusals.{refusal_order}

-- What is asked of each thing that a call needs: that there is a capability, of the right kind, with the rights.
abbrev pub is_unmet : State → ThreadRecord → Refusal → Need → Bool
is_unmet s thread NoCap need = is_none (cap_named s thread need.argument)
is_unmet s thread WrongKind need = not (is_kind need.kind (named s thread need.argument))
is_unmet s thread NoRight need = not (includes (rights_of_cap (cap_named s thread need.argument)) need.rights)
is_unmet s thread _ need = false

-- Buffers.

-- an entry has from 1 to 56 bytes
abbrev pub is_entry_length : ℕ → Bool
is_entry_length n = nat_le 1 n && nat_le n ENTRY_BYTES

-- one of the first bytes of a buffer, as many as an entry can have, isn't there with this right
abbrev pub is_bad_buffer : State → ThreadRecord → ℕ → Bool
is_bad_buffer s thread right =
    not (is_covered (regions_of (s.objects thread.space)) right (arg thread 1) (min (arg thread 2) ENTRY_BYTES))

-- Regions.

-- a region's base is no page's, or it ends past 2^32
abbrev pub is_bad_range : ℕ → ℕ → Bool
is_bad_range base count = not (base % PAGE_BYTES == 0) || nat_lt (2 ^ 32) (base + PAGE_BYTES * count)

-- it has no page, or one that its memory object hasn't, or no right, or others than read, write and execute
abbrev pub is_bad_part : ℕ → ℕ → ℕ → ℕ → Bool
is_bad_part pages first count rights =
    (count == 0) || (nat_lt pages (first + count) || ((rights == 0) || nat_lt REGION_RIGHTS rights))

-- a page of a range is in a region
abbrev pub meets : ℕ → ℕ → Region → Bool
meets base count region = nat_lt base (region.base + region.count) && nat_lt region.base (base + count)

-- no region begins at an address
abbrev pub no_region_at : List Region → ℕ → Bool
no_region_at regions base = not (list_any (λ region. PAGE_BYTES * region.base == base) regions)

-- Room.

abbrev pub no_slot : Option Object → Bool
no_slot group = is_none (free_slot (slots_of group))

-- a call that makes an object needs a slot of the caller's own group, and a number
abbrev pub no_room : World → ThreadRecord → Refusal → Bool
no_room w thread NoSlot = no_slot (w.now.objects thread.group)
no_room w thread NoObjects = length (free_objects w) == 0
no_room w thread _ = false

-- a memory object has from 1 to 64 pages, and takes a page number for each
abbrev pub is_memory_size : ℕ → Bool
is_memory_size n = nat_le 1 n && nat_le n MEMORY_PAGES

abbrev pub pages_wanted : ℕ → ℕ
pages_wanted n = n

-- Objects.

abbrev pub is_full_ring : World → Option Object → Bool
is_full_ring w (Some (OutputRing channel)) = is_ring_full w channel
is_full_ring w _ = false

-- nobody waits, and the count is the greatest
abbrev pub is_full_count : Option Object → Bool
is_full_count (Some (Notification count waiters)) = (length waiters == 0) && (count == 2 ^ 32 - 1)
is_full_count _ = false

abbrev pub is_server : ℕ → Option Object → Bool
is_server id (Some (Connection server client clients)) = server == id
is_server id _ = false

-- the slot that cap_drop names is none that a group has, or is empty in the group that is named
abbrev pub no_cap_there : Option Object → ℕ → Bool
no_cap_there (Some (Group slots)) slot = nat_le GROUP_SLOTS slot || is_none (cap_in slots slot)
no_cap_there _ slot = nat_le GROUP_SLOTS slot

-- Where a call is refused beside what it needs.
abbrev pub is_refused_besides : World → ℕ → ThreadRecord → Call → Refusal → Bool
is_refused_besides w id thread Put BadAddress = is_bad_buffer w.now thread READ
is_refused_besides w id thread Put BadSize = not (is_entry_length (arg thread 2))
is_refused_besides w id thread Put Full = is_full_ring w (named w.now thread 0)
is_refused_besides w id thread Get BadAddress = is_bad_buffer w.now thread WRITE
is_refused_besides w id thread Get BadSize = not (is_entry_length (arg thread 2))
is_refused_besides w id thread Get Empty = length w.now.inputs == 0
is_refused_besides w id thread MemNew BadSize = not (is_memory_size (arg thread 0))
is_refused_besides w id thread MemNew NoPages = nat_lt (length (free_pages w)) (pages_wanted (arg thread 0))
is_refused_besides w id thread MemNew refusal = no_room w thread refusal
is_refused_besides w id thread Map BadAddress = is_bad_range (arg thread 2) (arg thread 4)
is_refused_besides w id thread Map BadSize =
    is_bad_part (length (pages_of (named w.now thread 1))) (arg thread 3) (arg thread 4) (arg thread 5)
is_refused_besides w id thread Map Overlap =
    list_any (meets (arg thread 2 / PAGE_BYTES) (arg thread 4)) (regions_of (named w.now thread 0))
is_refused_besides w id thread Map NoRegions = nat_le SPACE_REGIONS (length (regions_of (named w.now thread 0)))
is_refused_besides w id thread Unmap BadAddress = no_region_at (regions_of (named w.now thread 0)) (arg thread 1)
is_refused_besides w id thread SpaceNew refusal = no_room w thread refusal
is_refused_besides w id thread GroupNew refusal = no_room w thread refusal
is_refused_besides w id thread CapCopy NoSlot = no_slot (named w.now thread 1)
is_refused_besides w id thread CapDrop NoCap = no_cap_there (named w.now thread 0) (arg thread 1)
is_refused_besides w id thread ThreadNew BadAddress = not (arg thread 2 % INSTRUCTION_BYTES == 0)
is_refused_besides w id thread ThreadNew refusal = no_room w thread refusal
is_refused_besides w id thread NoteNew refusal = no_room w thread refusal
is_refused_besides w id thread ConnNew refusal = no_room w thread refusal
is_refused_besides w id thread Signal Full = is_full_count (named w.now thread 0)
is_refused_besides w id thread ConnCall Taken = is_server id (named w.now thread 0)
is_refused_besides w id thread Serve Taken = not (is_server id (named w.now thread 0))
is_refused_besides w id thread _ _ = false

-- a refusal holds for an argument of a call of thread `id`
abbrev pub is_refused_by : World → ℕ → ThreadRecord → Call → Refusal → Bool
is_refused_by w id thread call refusal =
    list_any (is_unmet w.now thread refusal) (needs thread call) || is_refused_besides w id thread call refusal

unfoldable pub refusal_of : World → ℕ → ThreadRecord → Call → Option Refusal
refusal_of w id thread call = find (is_refused_by w id thread call) refusal_order
