-- What is sound of a state that a machine comes to: its objects keep their forms, what they name is there, and each
-- page is of one object alone.
use Rattle.std.specs.Prelude.{◌≡◌, ◌≢◌, ℕ, ◌+◌, ◌^◌, ◌<◌, ◌≤◌, true, [], length, All, AllPairs, Contains, Option, Some, None}
use Rattle.sls_base.specs.declared.limits.TheConstants.{GROUP_SLOTS, SPACE_REGIONS, MEMORY_PAGES, ADDRESS_PAGES, OUTPUT_CHANNELS, PAGES}
use Rattle.sls_base.specs.declared.rights.TheConstants.{ALL_RIGHTS, REGION_RIGHTS}
use Rattle.plain_state.specs.declared.objects.Capability.{Capability}
use Rattle.plain_state.specs.declared.objects.Region.{Region}
use Rattle.plain_state.specs.declared.objects.Kind.TheVariants.{GroupKind, SpaceKind, MemoryKind}
use Rattle.plain_model.specs.Objects.{Object, Group, Thread, Space, Memory, Connection, Notification, OutputRing, pages_of, page_numbers, is_kind, is_thread}
use Rattle.plain_model.specs.States.{State}

-- Forms.

-- a capability has no right that there isn't
abbrev pub IsSlot : Option Capability → Type 0
IsSlot None = Unit {0}
IsSlot (Some cap) = cap.rights ≤ ALL_RIGHTS

-- a region has some page and some right, and ends at the last address at the latest
pub record IsMapped (region : Region) : Type 0 where
  pub some_page : 1 ≤ region.count
  pub end : region.base + region.count ≤ ADDRESS_PAGES
  pub some_right : 1 ≤ region.rights
  pub rights : region.rights ≤ REGION_RIGHTS

-- one region ends before another begins
abbrev pub IsBefore : Region → Region → Type 0
IsBefore a b = a.base + a.count ≤ b.base

-- a group has its slots, a space at most so many regions, by rising base and apart, and a memory object from 1 to 64
-- pages; a notification has a count of 32 bits, which is 0 where threads wait
abbrev pub HasForm : Option Object → Type 0
HasForm (Some (Group slots)) = (length slots ≡ GROUP_SLOTS) × All IsSlot slots
HasForm (Some (Space regions)) = (length regions ≤ SPACE_REGIONS) × All IsMapped regions × AllPairs IsBefore regions
HasForm (Some (Memory pages)) = (1 ≤ length pages) × (length pages ≤ MEMORY_PAGES)
HasForm (Some (Notification count waiters)) = (count < 2 ^ 32) × (waiters ≢ [] → count ≡ 0)
HasForm (Some (OutputRing channel)) = channel < OUTPUT_CHANNELS
HasForm _ = Unit {0}

abbrev pub HaveForms : State → Type 0
HaveForms s = (i : ℕ) → HasForm (s.objects i)

-- Names.

-- a capability is to an object that is there
abbrev pub NamesObject : State → Option Capability → Type 0
NamesObject s None = Unit {0}
NamesObject s (Some cap) = s.objects cap.object ≢ None

-- a region is of pages that a memory object has
abbrev pub NamesPages : State → Region → Type 0
NamesPages s region =
    (is_kind MemoryKind (s.objects region.memory) ≡ true)
    × (region.first + region.count ≤ length (pages_of (s.objects region.memory)))

-- what an object leads to is there, and of the right kind: a thread's group and space, and a connection's server
abbrev pub NamesWhatIs : State → Option Object → Type 0
NamesWhatIs s (Some (Group slots)) = All (NamesObject s) slots
NamesWhatIs s (Some (Thread thread)) =
    (is_kind GroupKind (s.objects thread.group) ≡ true) × (is_kind SpaceKind (s.objects thread.space) ≡ true)
NamesWhatIs s (Some (Space regions)) = All (NamesPages s) regions
NamesWhatIs s (Some (Connection server client clients)) = is_thread (s.objects server) ≡ true
NamesWhatIs s _ = Unit {0}

abbrev pub NameWhatIs : State → Type 0
NameWhatIs s = (i : ℕ) → NamesWhatIs s (s.objects i)

-- Pages.

-- a page number is in range, and stands once among the pages of one object
pub record AreApart (s : State) : Type 0 where
  pub in_range : (i page : ℕ) → Contains (page_numbers (s.objects i)) page → page < PAGES
  pub once : (i : ℕ) → AllPairs (λ p q. p ≢ q) (page_numbers (s.objects i))
  pub apart : (i j page : ℕ) → Contains (page_numbers (s.objects i)) page → Contains (page_numbers (s.objects j)) page
      → i ≡ j
