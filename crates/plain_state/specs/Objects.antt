-- The objects of the kernel as plain values. A list stands where the kernel has links, and a page has its bytes: no place
-- in the memory, no version, no mark.
use Rattle.std.specs.Prelude.{ℕ, Bool, true, false, List, [], ◌∷◌, map, Option, Some, None, nat_lt, if◌then◌else◌, replicate}
use Rattle.std.specs.List.{range_with_len}
use Rattle.sls_base.specs.declared.limits.TheConstants.{GROUP_SLOTS, OBJECTS, PAGES}
use Rattle.sls_base.specs.Rights.{has_rights}
use Rattle.sls_base.specs.declared.thread.Thread.{Thread as ThreadRecord}
use Rattle.plain_state.specs.declared.objects.Capability.{Capability}
use Rattle.plain_state.specs.declared.objects.Region.{Region}
use Rattle.plain_state.specs.declared.objects.Kind.{Kind}
use Rattle.plain_state.specs.declared.objects.Kind.TheVariants.{AnyKind, GroupKind, SpaceKind, MemoryKind, ConnectionKind, NotificationKind, OutputKind, InputKind}

-- a page: its number, and the byte at each of its 4,096 offsets; at any other there is 0
pub record Page : Type 0 where
  pub number : ℕ
  pub byte : ℕ → ℕ

-- The objects, by kind:
--   a group has its slots, each of which is empty or has a capability;
--   a thread has its group, its space, what it does, its pc and its registers;
--   a space has its regions, by rising base;
--   a memory object has its pages, in order;
--   a connection has its server, the client that it serves, and the clients that wait, in order;
--   a notification has its count, and the threads that wait, in order;
--   an output ring has its channel. What was put on it, and what waits at the input ring, stands in the state, and so do the
--   run queue and the threads on cores, which are the scheduler's.
pub data Object : Type 0 where
  Group : List (Option Capability) → Object
  Thread : ThreadRecord → Object
  Space : List Region → Object
  Memory : List Page → Object
  Connection : ℕ → Option ℕ → List ℕ → Object
  Notification : ℕ → List ℕ → Object
  OutputRing : ℕ → Object
  InputRing : Object
  Scheduler : Object

-- Slots, regions and pages: none where no object is, or one of another kind.

abbrev pub slots_of : Option Object → List (Option Capability)
slots_of (Some (Group slots)) = slots
slots_of _ = []

abbrev pub regions_of : Option Object → List Region
regions_of (Some (Space regions)) = regions
regions_of _ = []

abbrev pub pages_of : Option Object → List Page
pages_of (Some (Memory pages)) = pages
pages_of _ = []

-- each output channel has a page of its own, by the same number
abbrev pub page_of_channel : ℕ → ℕ
page_of_channel channel = channel

-- the numbers of an object's pages
abbrev pub page_numbers : Option Object → List ℕ
page_numbers (Some (Memory pages)) = map (λ page. page.number) pages
page_numbers (Some (OutputRing channel)) = page_of_channel channel ∷ []
page_numbers _ = []

-- the numbers that an object, and a page, can have
unfoldable pub every_object : List ℕ
every_object = range_with_len 0 OBJECTS

unfoldable pub every_page : List ℕ
every_page = range_with_len 0 PAGES

-- New objects.

-- a new page is zero
abbrev pub new_page : ℕ → Page
new_page number = record { number = number; byte = λ offset. 0 }

-- a memory object of new pages with these numbers
abbrev pub new_memory : List ℕ → Object
new_memory numbers = Memory (map new_page numbers)

unfoldable pub empty_slots : List (Option Capability)
empty_slots = replicate GROUP_SLOTS None

abbrev pub new_group : Object
new_group = Group empty_slots

-- the regions with one more, by rising base
abbrev pub inserted : Region → List Region → List Region
inserted region [] = region ∷ []
inserted region (r ∷ regions) = if nat_lt region.base r.base then region ∷ r ∷ regions else r ∷ inserted region regions

-- Kinds.

abbrev pub is_thread : Option Object → Bool
is_thread (Some (Thread thread)) = true
is_thread _ = false

-- whether an object is of the kind that a call wants
abbrev pub is_kind : Kind → Option Object → Bool
is_kind AnyKind object = true
is_kind GroupKind (Some (Group slots)) = true
is_kind SpaceKind (Some (Space regions)) = true
is_kind MemoryKind (Some (Memory pages)) = true
is_kind ConnectionKind (Some (Connection server client clients)) = true
is_kind NotificationKind (Some (Notification count waiters)) = true
is_kind OutputKind (Some (OutputRing channel)) = true
is_kind InputKind (Some InputRing) = true
is_kind _ _ = false

-- Rights are the sum of 1 read, 2 write, 4 execute and 8 grant: each right wanted is among those that are had. A number with
-- a higher bit has a right that nothing has.
abbrev pub includes : ℕ → ℕ → Bool
includes had wanted = has_rights had wanted
