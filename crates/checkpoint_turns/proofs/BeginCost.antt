-- The turns of a checkpoint that begins are no more than the plain machine's cost.
use Rattle.std.specs.Prelude.{◌≡◌, ℕ, ◌+◌, ◌<◌, ◌≤◌, ◌==◌, Bool, true, false, List, Option, Some, None, is_some}
use Rattle.std.specs.List.{list_any}
use Rattle.std.proofs.Common.{refl, ap, sym, subst, ◌∙◌, arith, inl, inr}
use Rattle.std.proofs.lemmas.Bool.{cases_Bool}
use Rattle.sls_base.specs.declared.limits.TheConstants.{OBJECTS, PAGES}
use Rattle.sls_base.proofs.ListTests.{or_false}
use Rattle.link_lists.specs.Lists.{list_at}
use Rattle.pmem_model.specs.Memory.{Memory}
use Rattle.pmem_layout.specs.declared.places.TheConstants.{NUMBERS}
use Rattle.plain_model.specs.Cost.{count_of, cost, is_written, object_turns, page_turns}
use Rattle.plain_model.specs.Cost as plain
use Rattle.plain_model.specs.Objects.{every_object, every_page, page_numbers}
use Rattle.plain_model.specs.Sweep.{is_swept_otherwise, swept}
use Rattle.plain_state.specs.States.{State}
use Rattle.plain_state.specs.Worlds.{World, has_page}
use Rattle.plain_laws.specs.Sound.{AreApart}
use Rattle.kobj_codec.specs.declared.obj.Obj.{Obj}
use Rattle.kobj_table.specs.declared.objects.Objects.{Objects}
use Rattle.kobj_table.specs.declared.slot.Slot.{Slot}
use Rattle.kobj_table.specs.Slots.{object_of}
use Rattle.kobj_table.specs.Objects.{slot_at, state_of}
use Rattle.object_records.specs.Records.{object_in, record_at, record_of, state_of_records}
use Rattle.alloc_journal.specs.Sets.{changes, has}
use Rattle.alloc_journal.specs.Sets as sets
use Rattle.alloc_journal.specs.Work.{IsExact}
use Rattle.page_store.specs.declared.stage.PageStage.{PageStage}
use Rattle.page_store.specs.declared.stage.PageStage.TheVariants as stages
use Rattle.page_store.specs.declared.stage.Origin.{Origin}
use Rattle.page_store.specs.declared.stage.Writes.TheVariants.{Nothing, Stored, Flushed}
use Rattle.page_store.specs.Stages.{stage_of}
use Rattle.version_rooms.specs.declared.rooms.Rooms.{Rooms}
use Rattle.saved_state.specs.Running.{AreNumbersOf}
use Rattle.saved_state.specs.State.{rest_of}
use Rattle.leader_helper.specs.declared.leader.Leader.{Leader}
use Rattle.leader_helper.specs.Begins.{IsToWrite}
use Rattle.leader_helper.specs.Leads.{is_changed}
use Rattle.leader_helper.specs.Sweep.{freshened, is_zeroed_below}
use Rattle.leader_helper.specs.Turns.{is_to_flush, is_unflushed, numbers_changed, pages_left}
use Rattle.leader_helper.proofs.Contents.{IsRingInPlace, contains_number, rings_in_place}
use Rattle.core_turns.specs.declared.running.Running.{Running}
use Rattle.core_turns.specs.Runs.{Runs, objects_of}
use Rattle.checkpoint_turns.proofs.BeginCounts.{counted, differ_same, parted}
use Rattle.checkpoint_turns.proofs.BeginMarks.{slot_alike}

-- a page that was stored to and not flushed
unflushed_is : (stage : PageStage) → is_unflushed stage ≡ true
    → (origin : Origin) × (stage ≡ stages.Writable origin Stored)
unflushed_is stages.Fresh is = absurd (cc)
unflushed_is stages.Protected is = absurd (cc)
unflushed_is (stages.Preparing core next) is = absurd (cc)
unflushed_is (stages.Writable origin Nothing) is = absurd (cc)
unflushed_is (stages.Writable origin Stored) is = (origin, refl)
unflushed_is (stages.Writable origin Flushed) is = absurd (cc)

-- a record is that of an object
has_object : (content : ℕ → ℕ → ℕ) (told : Option Obj) → is_some (object_in content told) ≡ is_some told
has_object content None = refl
has_object content (Some (Obj.Group group)) = refl
has_object content (Some (Obj.Thread thread)) = refl
has_object content (Some (Obj.Space space)) = refl
has_object content (Some (Obj.Memory memory)) = refl
has_object content (Some (Obj.Connection c)) = refl
has_object content (Some (Obj.Notification note)) = refl
has_object content (Some (Obj.Ring ring)) = refl
has_object content (Some (Obj.Scheduler cores)) = refl

module _ (k : Running) (accepted : List ℕ) (m : Memory) (w : World) (h : Runs k accepted m w) where
  -- Pages.
  pub pages_cost : pages_left k.rooms ≤ count_of every_page w.stored
  unfolding every_page
  pages_cost =
      counted (is_to_flush k.rooms) w.stored PAGES (λ page below is.
      let stored = unflushed_is (stage_of k.rooms.pages page) is in h.stored page below stored.0 stored.1)

  -- Objects.
  apart : AreApart (state_of (objects_of k) h.rest)
  apart = subst AreApart h.holds.now h.holds.sound.apart.0

  in_place : (i : ℕ) → IsRingInPlace (slot_at (objects_of k) i)
  in_place = rings_in_place (objects_of k) h.rest
      (subst Rattle.plain_laws.specs.Fixed.HasFixedObjects h.holds.now h.holds.sound.fixed.0) h.slots

  inside : (i page : ℕ) → list_any (λ number. number == page)
      (page_numbers (object_of h.rest.content (slot_at (objects_of k) i) (list_at (objects_of k).links i))) ≡ true
      → page < PAGES
  unfolding state_of
  inside i page is =
      apart.in_range i page (contains_number (page_numbers ((state_of (objects_of k) h.rest).objects i)) page is)

  module _ (n : Objects) (l : Leader)
      (unswept : (i : ℕ) → is_swept_otherwise (state_of (objects_of k) h.rest) i ≡ false
      → record_at n i ≡ record_of (freshened (is_zeroed_below k.rooms PAGES) (slot_at (objects_of k) i))
      (list_at (objects_of k).links i)) where
    unwritten : (i : ℕ) → i < OBJECTS → is_written w i ≡ false → record_at n i ≡ h.saved.objects i
    unwritten i below none =
        let both = or_false (w.changed i) (is_swept_otherwise w.now i) none in
        unswept i (ap (λ (s : State). is_swept_otherwise s i) (sym h.holds.now) ∙ both.1)
        ∙ ap (λ (slot : Slot). record_of slot (list_at (objects_of k).links i))
        (slot_alike k.rooms h.rest.content (slot_at (objects_of k) i) (list_at (objects_of k).links i) (in_place i)
        (inside i))
        ∙ h.unchanged i below both.0

    pub objects_cost : ((i : ℕ) → i < OBJECTS → is_changed l i ≡ true → IsToWrite (record_at n i) (h.saved.objects i))
        → sets.count_of (is_changed l) OBJECTS ≤ count_of every_object (is_written w)
    unfolding every_object
    objects_cost changed = counted (is_changed l) (is_written w) OBJECTS (λ i below is. by i below is)
      where
        by : (i : ℕ) → i < OBJECTS → is_changed l i ≡ true → is_written w i ≡ true
        by i below is = elim (cases_Bool (is_written w i)) [
          | inl written ↦ written
          | inr none ↦
              let to_write = changed i below is in
              absurd (to_write.other (sym (unwritten i below none) ∙ to_write.is))
        ]

  -- Numbers.
  module _ (n : Objects) (r : Rooms) (work_same : r.numbers.work ≡ k.rooms.numbers.work)
      (exact : IsExact k.rooms.numbers.work h.saved.numbers)
      (numbers : AreNumbersOf (has r.numbers.running) (state_of n h.rest))
      (now_is : state_of n h.rest ≡ swept w.now) where
    abbrev changes_at : ℕ → Bool
    changes_at i = sets.differ (has r.numbers.work.committed i) (has r.numbers.running i)

    committed : (i : ℕ) → i < NUMBERS → has r.numbers.work.committed i ≡ h.saved.numbers i
    committed i below = ap (λ (work : _). has work.committed i) work_same ∙ exact i below

    saved_there : (i : ℕ) → is_some (w.saved.objects i) ≡ is_some (h.saved.objects i)
    unfolding state_of_records
    saved_there i =
        ap (λ (s : State). is_some (s.objects i)) h.are.state
        ∙ has_object (rest_of h.saved.pages w.saved).content (h.saved.objects i)

    object_at : (i : ℕ) → i < OBJECTS → changes_at i ≡ object_turns w i
    object_at i below =
        differ_same (has r.numbers.work.committed i) (has r.numbers.running i)
        ∙ ap (λ (b : Bool). plain.differ b (has r.numbers.running i))
        (committed i (omega (arith, below)) ∙ h.are.used_objects i below ∙ sym (saved_there i))
        ∙ ap (plain.differ (is_some (w.saved.objects i)))
        (numbers.objects i below ∙ ap (λ (s : State). is_some (s.objects i)) now_is)

    page_at : (page : ℕ) → page < PAGES → changes_at (OBJECTS + page) ≡ page_turns w page
    page_at page below =
        differ_same (has r.numbers.work.committed (OBJECTS + page)) (has r.numbers.running (OBJECTS + page))
        ∙ ap (λ (b : Bool). plain.differ b (has r.numbers.running (OBJECTS + page)))
        (committed (OBJECTS + page) (omega (arith, below)) ∙ h.are.used_pages page below)
        ∙ ap (plain.differ (has_page w.saved page))
        (numbers.pages page below ∙ ap (λ (s : State). has_page s page) now_is)

    pub numbers_cost : numbers_changed r
        ≤ count_of every_object (object_turns w) + count_of every_page (page_turns w)
    unfolding every_object every_page changes
    numbers_cost =
        let objects = counted changes_at (object_turns w) OBJECTS (λ i below is. sym (object_at i below) ∙ is) in
        let pages = counted (λ page. changes_at (OBJECTS + page)) (page_turns w) PAGES
        (λ page below is. sym (page_at page below) ∙ is) in
        let both = parted changes_at OBJECTS PAGES in
        omega (arith, objects, pages, both)
