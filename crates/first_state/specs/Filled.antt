-- A table that is filled in order of number.
use Rattle.std.specs.Prelude.{◌≡◌, ◌≢◌, ℕ, ◌+◌, ◌*◌, ◌<◌, ◌≤◌, nat_le, Bool, true, false, List, [], length, map, All, ◌↔◌, Option, option_map, slice_get, slice_index_or}
use Rattle.sls_base.specs.declared.limits.TheConstants.{PAGE_BYTES}
use Rattle.sls_base.specs.declared.image.Image.{Image}
use Rattle.sls_base.specs.declared.image.RegionSpec.{RegionSpec}
use Rattle.link_lists.specs.Lists.{list_at, IsFree}
use Rattle.ipc_note.specs.declared.lists.TheConstants.{RUN_QUEUE}
use Rattle.cap_group.specs.declared.cap.Cap.{Cap}
use Rattle.mem_space.specs.declared.memory.MemPage.{MemPage}
use Rattle.plain_state.specs.declared.objects.Capability.{Capability}
use Rattle.plain_model.specs.Objects.{Object}
use Rattle.plain_model.specs.Initial.{thread_numbers}
use Rattle.kobj_table.specs.declared.slot.Slot.{Slot}
use Rattle.kobj_table.specs.declared.slot.Slot.TheVariants as slots
use Rattle.kobj_table.specs.declared.objects.Objects.{Objects}
use Rattle.kobj_table.specs.Slots.{memory_in, has_list, capability_of}
use Rattle.kobj_table.specs.Objects.{slot_at, object_at, Rest}
use Rattle.first_state.specs.Content.{image_parts}

-- a thread stands in a slot
abbrev pub has_thread : Slot → Bool
has_thread (slots.Thread thread) = true
has_thread _ = false

-- The table has these objects, by number, where page numbers stand for some content. None of them has a list of its
-- own: its threads stand in the run queue, in order of number.
pub record IsFilled (content : ℕ → ℕ → ℕ) (o : Objects) (list : List Object) : Type 0 where
  pub objects : (i : ℕ) → object_at content o i ≡ slice_get list i
  pub listless : (i : ℕ) → has_list (slot_at o i) ≡ false
  pub queue : list_at o.links RUN_QUEUE ≡ thread_numbers list
  pub lists : (i : ℕ) → i ≢ RUN_QUEUE → list_at o.links i ≡ []

-- no number from n on is in a list
abbrev pub IsFreeFrom : Objects → ℕ → Type 0
IsFreeFrom o n = (j : ℕ) → n ≤ j → IsFree o.links j

-- what stands at the numbers below n is as before
abbrev pub KeepsBelow : Objects → Objects → ℕ → Type 0
KeepsBelow old new n = (i : ℕ) → i < n → slot_at new i ≡ slot_at old i

-- page j of a region whose first page has the number k: it is fresh where the content ends before it
abbrev pub region_page : RegionSpec → ℕ → ℕ → MemPage
region_page spec k j = record { page = k + j; fresh = nat_le (length spec.content.items) (PAGE_BYTES * j) }

-- each page of a memory object is fresh exactly where nothing stands on it
abbrev pub AreMarked : List (List ℕ) → Objects → Type 0
AreMarked parts o =
    (i : ℕ) → All (λ p. (p.fresh ≡ true) ↔ (slice_index_or parts p.page [] ≡ [])) (memory_in (slot_at o i)).pages.items

-- the slots of a group as the plain machine has them
abbrev pub caps_of : List (Option Cap) → List (Option Capability)
caps_of slots = map (option_map capability_of) slots

-- the pages that are fresh are those on which nothing of the image stands
abbrev pub HasFreshPages : Image → Objects → Type 0
HasFreshPages image o = AreMarked (image_parts image.programs.items) o

-- what a machine begins with beside its objects: nothing has been put on a channel, and no input waits
abbrev pub first_rest : (ℕ → ℕ → ℕ) → Rest
first_rest content = record { content = content; out = λ channel. []; inputs = [] }
