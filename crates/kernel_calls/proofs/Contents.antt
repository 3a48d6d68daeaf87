-- What of objects doesn't hang on the content of pages, and what becomes of the numbers in use.
use Rattle.std.specs.Prelude.{◌≡◌, ℕ, ◌==◌, ◌||◌, Bool, true, List, [], ◌∷◌, map, Some, is_some}
use Rattle.std.specs.List.{list_any}
use Rattle.std.proofs.Common.{refl, ap, sym, ◌∙◌}
use mathlib.Core.Path.{fun_ext}
use Rattle.mem_space.specs.declared.memory.MemPage.{MemPage}
use Rattle.plain_state.specs.Objects.{OutputRing, Page, every_object, page_numbers, regions_of}
use Rattle.plain_state.specs.Worlds.{World, has_page}
use Rattle.link_lists.specs.Lists.{list_at}
use Rattle.kobj_table.specs.declared.objects.Objects.{Objects}
use Rattle.kobj_table.specs.declared.slot.Slot.{Slot}
use Rattle.kobj_table.specs.Slots.{object_of, page_of}
use Rattle.kobj_table.specs.Objects.{Rest, slot_at, object_at, state_of}
use Rattle.call_readings.specs.declared.numbers.NumbersInUse.{NumbersInUse}
use Rattle.call_readings.specs.Kernel.{world_of, IsCounted}
use Rattle.kernel_calls.proofs.Objects.{told}

-- Whatever the content of pages is.

module _ (a b : ℕ → ℕ → ℕ) where
  -- a space has its regions
  regions_in : (slot : Slot) (listed : List ℕ) → regions_of (object_of a slot listed) ≡ regions_of (object_of b slot listed)
  regions_in Slot.Empty listed = refl
  regions_in (Slot.Group group) listed = refl
  regions_in (Slot.Thread thread) listed = refl
  regions_in (Slot.Space space) listed = refl
  regions_in (Slot.Memory memory) listed = refl
  regions_in (Slot.Connection connection) listed = refl
  regions_in (Slot.Notification note) listed = refl
  regions_in (Slot.Ring ring) listed = refl
  regions_in (Slot.Scheduler cores) listed = refl

  pub regions_same : (o : Objects) (space : ℕ) → regions_of (object_at a o space) ≡ regions_of (object_at b o space)
  regions_same o space = regions_in (slot_at o space) (list_at o.links space)

  -- a ring is a ring
  ring_in : (slot : Slot) (listed : List ℕ) (channel : ℕ) → object_of a slot listed ≡ Some (OutputRing channel) → object_of b slot listed ≡ Some (OutputRing channel)
  ring_in Slot.Empty listed channel is = absurd (cc)
  ring_in (Slot.Group group) listed channel is = absurd (cc)
  ring_in (Slot.Thread thread) listed channel is = absurd (cc)
  ring_in (Slot.Space space) listed channel is = absurd (cc)
  ring_in (Slot.Memory memory) listed channel is = absurd (cc)
  ring_in (Slot.Connection connection) listed channel is = absurd (cc)
  ring_in (Slot.Notification note) listed channel is = absurd (cc)
  ring_in (Slot.Ring ring) listed channel is = is
  ring_in (Slot.Scheduler cores) listed channel is = absurd (cc)

  pub ring_same : (o : Objects) (id channel : ℕ) → object_at a o id ≡ Some (OutputRing channel) → object_at b o id ≡ Some (OutputRing channel)
  ring_same o id channel is = ring_in (slot_at o id) (list_at o.links id) channel is

  -- an object is there, and has its pages
  numbers_in : (pages : List MemPage) → map (λ (p : Page). p.number) (map (page_of a) pages) ≡ map (λ (p : Page). p.number) (map (page_of b) pages)
  numbers_in [] = refl
  numbers_in (p ∷ pages) = rw (numbers_in pages) refl

  told_in : (slot : Slot) (listed : List ℕ) → told (object_of a slot listed) ≡ told (object_of b slot listed)
  told_in Slot.Empty listed = refl
  told_in (Slot.Group group) listed = refl
  told_in (Slot.Thread thread) listed = refl
  told_in (Slot.Space space) listed = refl
  told_in (Slot.Memory memory) listed = ap (λ (l : List ℕ). (true, l)) (numbers_in memory.pages.items)
  told_in (Slot.Connection connection) listed = refl
  told_in (Slot.Notification note) listed = refl
  told_in (Slot.Ring ring) listed = refl
  told_in (Slot.Scheduler cores) listed = refl

  pub told_same : (o : Objects) (i : ℕ) → told (object_at a o i) ≡ told (object_at b o i)
  told_same o i = told_in (slot_at o i) (list_at o.links i)

-- The numbers in use stay where objects are there as before, with the same pages.

pages_in : (ℕ → List ℕ) → ℕ → Bool
pages_in numbers page = list_any (λ i. list_any (λ number. number == page) (numbers i)) every_object

pub counted_again : (numbers : NumbersInUse) (o n : Objects) (rest after : Rest) (w : World)
    → ((i : ℕ) → told (object_at after.content n i) ≡ told (object_at rest.content o i)) → IsCounted numbers (world_of o rest w) → IsCounted numbers (world_of n after w)
unfolding world_of state_of has_page pages_in
counted_again numbers o n rest after w same h =
    let pages : (λ (i : ℕ). page_numbers (object_at after.content n i)) ≡ (λ (i : ℕ). page_numbers (object_at rest.content o i)) =
    fun_ext (λ i. ap (λ (t : Bool × List ℕ). t.1) (same i)) in
    record {
      objects = λ i. h.objects i ∙ ap (λ (b : Bool). b || is_some (w.saved.objects i)) (sym (ap (λ (t : Bool × List ℕ). t.0) (same i)));
      pages = λ page. h.pages page ∙ ap (λ (f : ℕ → List ℕ). pages_in f page || has_page w.saved page) (sym pages);
    }
