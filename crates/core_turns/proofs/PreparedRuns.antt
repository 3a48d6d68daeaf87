-- Running cores stay a world's through a step by which a core prepares a page.
use Rattle.std.specs.Prelude.{◌≡◌, ◌≢◌, ℕ, ◌<◌, Bool, true, false, List, None, Option, Some, slice_index}
use Rattle.std.proofs.Common.{refl, ap, sym, subst, ◌∙◌, inl, inr}
use Rattle.std.proofs.lemmas.Bool.{cases_eq}
use Rattle.sls_base.specs.declared.fixed.TheConstants.{SCHEDULER}
use Rattle.sls_base.specs.declared.limits.TheConstants.{FRAME_WORDS, OBJECTS, PAGES}
use Rattle.pmem_model.specs.Memory.{count_up, KeepsCounts, Memory, SameHomes, word_at}
use Rattle.pmem_operations.specs.Operations.{IsAtMostOne}
use Rattle.link_lists.specs.Lists.{list_at}
use Rattle.kobj_codec.specs.declared.obj.Obj.{Obj}
use Rattle.kobj_table.specs.declared.objects.Objects.{Objects}
use Rattle.kobj_table.specs.Objects.{Rest, slot_at, state_of}
use Rattle.kobj_table.specs.Slots.{is_scheduler}
use Rattle.object_records.specs.Marks.{marked}
use Rattle.object_records.specs.Pages.{has_content_in, is_content}
use Rattle.object_records.specs.Ranges.{HasFixedSlots}
use Rattle.object_records.specs.Records.{record_at, SameBytes, state_of_records}
use Rattle.object_root.specs.Room.{AllIdle}
use Rattle.page_store.specs.declared.stage.Origin.TheVariants.{Zeros}
use Rattle.page_store.specs.declared.stage.PageStage.{PageStage}
use Rattle.page_store.specs.declared.stage.PageStage.TheVariants.{Fresh, Writable}
use Rattle.page_store.specs.declared.stage.PageState.TheVariants as state
use Rattle.page_store.specs.declared.stage.Writes.TheVariants.{Nothing}
use Rattle.page_store.specs.Known.{Open}
use Rattle.page_store.specs.Shows.{PageShows}
use Rattle.page_store.specs.Stages.{stage_of, state_at}
use Rattle.cow_fault.specs.Faults.{faulted}
use Rattle.durable_state.specs.Parts.{Parts}
use Rattle.version_rooms.specs.declared.rooms.Rooms.{Rooms}
use Rattle.version_rooms.specs.Rest.{AreAtRest}
use Rattle.version_rooms.specs.Rooms.{Keeps}
use Rattle.plain_laws.specs.Sound.{AreApart}
use Rattle.plain_state.specs.Objects.{page_of_channel}
use Rattle.plain_state.specs.States.{State}
use Rattle.plain_state.specs.Worlds.{has_page, World}
use Rattle.kernel_calls.specs.declared.calls.Calls.{Calls}
use Rattle.kernel_calls.specs.Kernel.{Holds}
use Rattle.core_turns.specs.declared.running.Running.{Running}
use Rattle.core_turns.specs.Marks.{is_zeroed, record_again, slot_again, was_fresh}
use Rattle.core_turns.specs.Runs.{AreAsSaved, AreFreshAlike, AreStoredIn, AreWaitingThere, objects_of, Runs}
use Rattle.core_turns.specs.Turns.{MayPrepare, Prepares}
use Rattle.core_turns.proofs.Again.{marked_again, record_same, same_again}
use Rattle.core_turns.proofs.Content.{content_at, page_words, words_in, zeroed_words, zeros_read}
use Rattle.core_turns.proofs.Faulting.{fresh_not_zeroed, never_fresh, never_stored, zeroed_as_before}
use Rattle.core_turns.proofs.Marking.{fixed_marked, in_place, IsRingInPlace, none_at, other_content, own_content}
use Rattle.core_turns.proofs.Preparing.{done_then, goes_on_then, hand_alone, hand_in_range, others_stay, still_prepared, TakesStep}
use Rattle.core_turns.proofs.StillHeld.{rest_now, still_held}

-- What the objects tell is that of the world, with these rooms and the memory after the step.
pub record ObjectsRun (n : Running) (accepted : List ℕ) (next : Memory) (rest : Rest) (w : World) (saved : Parts)
    : Type 0 where
  pub holds : Holds n.calls accepted next rest w
  pub slots : HasFixedSlots (objects_of n)
  pub fresh : AreFreshAlike n.rooms (objects_of n)
  pub unchanged : AreAsSaved n.rooms (objects_of n) saved w
  pub waiting : AreWaitingThere (objects_of n) w

module _ (k n : Running) (accepted : List ℕ) (m next : Memory) (w : World) (h : Runs k accepted m w)
    (core page : ℕ) (done : Bool) (is : TakesStep k n core page done) (why : MayPrepare k w core page)
    (rooms : n.rooms ≡ record k.rooms { pages = n.rooms.pages })
    (shows : Keeps k.rooms n.rooms (word_at m) (word_at next) Open Open) where
  pub at_rest_now : AreAtRest n.rooms (word_at next) w.version h.saved h.pages
  at_rest_now = record {
    shows = λ objects. shows w.version (record { saved = h.saved; objects = objects; pages = h.pages })
        (h.at_rest.shows objects);
    committer = ap (λ (r : Rooms). r.committer.version) rooms ∙ h.at_rest.committer;
    records = ap (λ (r : Rooms). r.roots.phase) rooms ∙ h.at_rest.records;
    idle = subst (λ (r : Rooms). AllIdle r.roots) (sym rooms) h.at_rest.idle;
    log = ap (λ (r : Rooms). r.numbers.work.stage) rooms ∙ h.at_rest.log;
  }

  page_before : (p : ℕ) → p < PAGES
      → PageShows (stage_of k.rooms.pages p) (word_at m) w.version p (h.saved.pages p) (h.pages p) Open
  page_before p below = (h.at_rest.shows (λ i. None)).keep.pages.each p below

  page_now : (p : ℕ) → p < PAGES
      → PageShows (stage_of n.rooms.pages p) (word_at next) w.version p (h.saved.pages p) (h.pages p) Open
  page_now p below = (at_rest_now.shows (λ i. None)).keep.pages.each p below

  own_stale : stage_of n.rooms.pages page ≡ Fresh → ⊥
  own_stale e = never_fresh (stage_of k.rooms.pages page) core (sym is.stage ∙ e)

  stale_now : (p : ℕ) → (stage_of k.rooms.pages p ≡ Fresh → ⊥) → stage_of n.rooms.pages p ≡ Fresh → ⊥
  stale_now p stale e = elim (cases_eq p page) [
    | inl here ↦ own_stale (ap (stage_of n.rooms.pages) (sym here) ∙ e)
    | inr apart ↦ stale (sym (is.stages p apart) ∙ e)
  ]

  pub words_kept : (p : ℕ) → p < PAGES → (stage_of k.rooms.pages p ≡ Fresh → ⊥) → (j : ℕ) → j < FRAME_WORDS
      → words_in (word_at next) p j ≡ words_in (word_at m) p j
  words_kept p below stale j inside =
      page_words (stage_of n.rooms.pages p) (word_at next) w.version p (h.saved.pages p) (h.pages p) Open j
      (stale_now p stale) inside (page_now p below)
      ∙ sym (page_words (stage_of k.rooms.pages p) (word_at m) w.version p (h.saved.pages p) (h.pages p) Open j
      stale inside (page_before p below))

  stored_now : AreStoredIn n.rooms w
  stored_now p below origin e = elim (cases_eq p page) [
    | inl here ↦
        absurd (never_stored (stage_of k.rooms.pages page) core origin is.may
        (sym is.stage ∙ ap (stage_of n.rooms.pages) (sym here) ∙ e))
    | inr apart ↦ h.stored p below origin (sym (is.stages p apart) ∙ e)
  ]

  -- what there is of the state beside the objects, with the bytes that the memory has now
  abbrev pub rest_then : Rest
  rest_then = rest_now k accepted m w h next words_kept

  step_runs : n.saved ≡ k.saved → SameHomes m next → ObjectsRun n accepted next rest_then w h.saved
      → Runs n accepted next w
  step_runs saved homes objects = record {
    rest = rest_then;
    holds = objects.holds;
    saved = h.saved;
    pages = h.pages;
    at_rest = at_rest_now;
    are = h.are;
    slots = objects.slots;
    fresh = objects.fresh;
    stored = stored_now;
    unchanged = objects.unchanged;
    waiting = objects.waiting;
    counts = λ channel below. ap (λ (counts : List ℕ). slice_index counts channel) saved ∙ h.counts channel below;
    prepares = still_prepared k n core page done is h.prepares (hand_alone k w core page why);
    in_range = hand_in_range k n core page done is h.in_range;
    home = λ bank below. homes bank ∙ h.home bank below;
  }

  pub step_prepares : n.saved ≡ k.saved → SameHomes m next → KeepsCounts m next → next.ops ≡ count_up m.ops
      → IsAtMostOne core (word_at m) (word_at next) → ObjectsRun n accepted next rest_then w h.saved
      → Prepares k accepted m w core page n next
  step_prepares saved homes counts one operation objects = record {
    in_range = is.in_range;
    why = why;
    runs = step_runs saved homes objects;
    stage = is.stage;
    stages = is.stages;
    done = done_then k n core page done is;
    goes_on = goes_on_then k n core page done is;
    others = others_stay k n core page done is;
    counts = counts;
    one = one;
    operation = operation;
  }

  module _
      (of_records : (o : Objects) (rest : Rest) → is_scheduler (slot_at o SCHEDULER) ≡ true
      → state_of o rest ≡ state_of_records (record_at o) rest)
      (zeros : (records : ℕ → Option Obj) (rest : Rest) (content : ℕ → ℕ → ℕ)
      → ((i : ℕ) (obj : Obj) → records i ≡ Some obj → SameBytes rest.content content obj)
      → state_of_records records (record rest { content = content }) ≡ state_of_records records rest) where
    held_then : Holds k.calls accepted next rest_then w
    held_then = still_held k accepted m w h next words_kept of_records zeros

    -- The page wasn't fresh.

    module _ (calls : n.calls ≡ k.calls) (stale : stage_of k.rooms.pages page ≡ Fresh → ⊥) where
      objects_same : objects_of n ≡ objects_of k
      objects_same = ap (λ (c : Calls). c.runtime.objects) calls

      content_as_before : (p : ℕ) → is_content (record_at (objects_of n)) p ≡ is_content (record_at (objects_of k)) p
      content_as_before p = ap (λ (o : Objects). is_content (record_at o) p) objects_same

      alike_stale : AreFreshAlike n.rooms (objects_of n)
      alike_stale p below = elim (cases_eq p page) [
        | inl here ↦ (
          λ e. absurd (own_stale (ap (stage_of n.rooms.pages) (sym here) ∙ e)),
          λ none. absurd (stale (ap (stage_of k.rooms.pages) (sym here)
              ∙ (h.fresh p below).1 (sym (content_as_before p) ∙ none))),
        )
        | inr apart ↦ (
          λ e. content_as_before p ∙ (h.fresh p below).0 (sym (is.stages p apart) ∙ e),
          λ none. is.stages p apart ∙ (h.fresh p below).1 (sym (content_as_before p) ∙ none),
        )
      ]

      zeroed_alike : (p : ℕ) → was_fresh n.rooms p ≡ was_fresh k.rooms p
      zeroed_alike p = elim (cases_eq p page) [
        | inl here ↦
            ap (was_fresh n.rooms) here ∙ ap is_zeroed is.stage
            ∙ zeroed_as_before (stage_of k.rooms.pages page) core is.may stale ∙ ap (was_fresh k.rooms) (sym here)
        | inr apart ↦ ap is_zeroed (is.stages p apart)
      ]

      again_stale : AreAsSaved n.rooms (objects_of n) h.saved w
      again_stale i below same =
          ap (λ (o : Objects). record_again n.rooms o i) objects_same
          ∙ record_same k.rooms n.rooms (objects_of k) (objects_of k) i
          (same_again k.rooms n.rooms (slot_at (objects_of k) i) zeroed_alike) refl
          ∙ h.unchanged i below same

      pub stale_run : ObjectsRun n accepted next rest_then w h.saved
      stale_run = record {
        holds = subst (λ (c : Calls). Holds c accepted next rest_then w) (sym calls) held_then;
        slots = subst HasFixedSlots (sym objects_same) h.slots;
        fresh = alike_stale;
        unchanged = again_stale;
        waiting = subst (λ (o : Objects). AreWaitingThere o w) (sym objects_same) h.waiting;
      }

    -- The page was fresh, and is zeroed.

    module _ (was : stage_of k.rooms.pages page ≡ Fresh)
        (slots : (i : ℕ) → i < OBJECTS → slot_at (objects_of n) i ≡ marked page false (slot_at (objects_of k) i))
        (links : (objects_of n).links ≡ (objects_of k).links)
        (held : ((offset : ℕ) → content_at next page offset ≡ 0) → Holds k.calls accepted next rest_then w
        → Holds n.calls accepted next rest_then w) where
      begun_there : has_page w.now page ≡ true
      begun_there = elim why [
        | inl has ↦
            absurd (let hand = (h.prepares core page is.in_range).0 has in
            let no : state.Fresh ≡ state.Preparing core = sym (ap state_at was) ∙ hand in cc)
        | inr begins ↦ begins.there
      ]

      there : has_page (state_of (objects_of k) h.rest) page ≡ true
      there = ap (λ (s : State). has_page s page) (sym h.holds.now) ∙ begun_there

      is_zeroed_now : stage_of n.rooms.pages page ≡ Writable Zeros Nothing
      is_zeroed_now = is.stage ∙ ap (λ (s : PageStage). faulted s core) was

      zero_now : (offset : ℕ) → content_at next page offset ≡ 0
      zero_now offset =
          zeros_read next page offset (λ below j inside.
          zeroed_words (stage_of n.rooms.pages page) (word_at next) w.version page (h.saved.pages page) (h.pages page)
          Open j is_zeroed_now inside (page_now page below))

      places : (i : ℕ) → IsRingInPlace (slot_at (objects_of k) i)
      places =
          in_place (objects_of k) h.rest h.slots (subst AreApart h.holds.now h.holds.sound.apart.0) w
          h.holds.attached.rings

      own_now : is_content (record_at (objects_of n)) page ≡ true
      own_now = own_content page (objects_of k) (objects_of n) slots links places h.rest there

      other_now : (p : ℕ) → p ≢ page
          → is_content (record_at (objects_of n)) p ≡ is_content (record_at (objects_of k)) p
      other_now p apart = other_content page (objects_of k) (objects_of n) slots links places p apart

      alike_zeroed : AreFreshAlike n.rooms (objects_of n)
      alike_zeroed p below = elim (cases_eq p page) [
        | inl here ↦ (
          λ e. absurd (own_stale (ap (stage_of n.rooms.pages) (sym here) ∙ e)),
          λ none. absurd (let own : true ≡ false = sym own_now
              ∙ ap (is_content (record_at (objects_of n))) (sym here) ∙ none in cc),
        )
        | inr apart ↦ (
          λ e. other_now p apart ∙ (h.fresh p below).0 (sym (is.stages p apart) ∙ e),
          λ none. is.stages p apart ∙ (h.fresh p below).1 (sym (other_now p apart) ∙ none),
        )
      ]

      none_before : (i : ℕ) → i < OBJECTS → has_content_in (record_at (objects_of k) i) page ≡ false
      none_before i below = none_at (objects_of k) page i ((h.fresh page is.in_range).0 was) below

      again_zeroed : AreAsSaved n.rooms (objects_of n) h.saved w
      again_zeroed i below same =
          record_same k.rooms n.rooms (objects_of k) (objects_of n) i
          (ap (slot_again n.rooms) (slots i below)
          ∙ marked_again k.rooms n.rooms page (slot_at (objects_of k) i) (list_at (objects_of k).links i)
          (λ p apart. ap is_zeroed (is.stages p apart)) (fresh_not_zeroed (stage_of k.rooms.pages page) was)
          (ap is_zeroed is_zeroed_now) (places i) (none_before i below))
          (ap (λ (l : List (List ℕ)). list_at l i) links)
          ∙ h.unchanged i below same

      waiting_zeroed : AreWaitingThere (objects_of n) w
      waiting_zeroed channel below more = elim (cases_eq (page_of_channel channel) page) [
        | inl here ↦ ap (is_content (record_at (objects_of n))) here ∙ own_now
        | inr apart ↦ other_now (page_of_channel channel) apart ∙ h.waiting channel below more
      ]

      pub zeroed_run : ObjectsRun n accepted next rest_then w h.saved
      zeroed_run = record {
        holds = held zero_now held_then;
        slots = fixed_marked page (objects_of k) (objects_of n) slots h.slots;
        fresh = alike_zeroed;
        unchanged = again_zeroed;
        waiting = waiting_zeroed;
      }
