-- As a checkpoint begins, the objects run as the world, and pages that were zeroed alone are zero.
use Rattle.std.specs.Prelude.{◌≡◌, ℕ, ◌<◌, ◌&&◌, not, Bool, true, false, if◌then◌else◌, List, length, Option, Some, None, is_some}
use Rattle.std.proofs.Common.{refl, ap, sym, subst, ◌∙◌, inl, inr}
use Rattle.std.proofs.lemmas.Bool.{cases_Bool, cases_lt, lt-ltb, le-ltb}
use mathlib.Core.Path.{fun_ext}
use Rattle.sls_base.specs.declared.limits.TheConstants.{FRAME_WORDS, PAGES}
use Rattle.pmem_model.specs.Memory.{Memory, word_at}
use Rattle.plain_state.specs.States.{State}
use Rattle.plain_state.specs.Worlds.{World, has_page}
use Rattle.plain_model.specs.Sweep.{swept}
use Rattle.kobj_table.specs.declared.objects.Objects.{Objects}
use Rattle.kobj_table.specs.Objects.{state_of}
use Rattle.object_records.specs.Pages.{is_content}
use Rattle.object_records.specs.Records.{record_at}
use Rattle.page_store.specs.declared.stage.PageStage.{PageStage}
use Rattle.page_store.specs.declared.stage.PageStage.TheVariants as stages
use Rattle.page_store.specs.declared.stage.Origin.TheVariants.{Zeros, Copy}
use Rattle.page_store.specs.declared.stage.Writes.TheVariants.{Nothing, Stored, Flushed}
use Rattle.page_store.specs.Known.{Open}
use Rattle.page_store.specs.Shows.{Has, Holds, PageShows, PagesShow, words_of}
use Rattle.page_store.specs.Stages.{stage_of}
use Rattle.version_rooms.specs.declared.rooms.Rooms.{Rooms}
use Rattle.saved_state.specs.State.{content_of}
use Rattle.leader_helper.specs.Saving.{IsRunning, words_kept}
use Rattle.leader_helper.specs.Sweep.{ReadAsZeros, is_zeroed_alone, is_zeroed_below}
use Rattle.leader_helper.proofs.Contents.{three}
use Rattle.core_turns.specs.declared.running.Running.{Running}
use Rattle.core_turns.specs.Runs.{Runs, objects_of}
use Rattle.core_turns.proofs.Content.{page_words, reads_same, same_bytes, words_in, zeroed_words, zeros_read}

-- Stages.

zeroed_is : (stage : PageStage) → is_zeroed_alone stage ≡ true → stage ≡ stages.Writable Zeros Nothing
zeroed_is stages.Fresh is = absurd (cc)
zeroed_is stages.Protected is = absurd (cc)
zeroed_is (stages.Preparing core next) is = absurd (cc)
zeroed_is (stages.Writable Zeros Nothing) is = refl
zeroed_is (stages.Writable Zeros Stored) is = absurd (cc)
zeroed_is (stages.Writable Zeros Flushed) is = absurd (cc)
zeroed_is (stages.Writable Copy writes) is = absurd (cc)

has_some : (now : Option (ℕ → ℕ)) (held : ℕ → ℕ) → Has now held → is_some now ≡ true
has_some None held has = absurd has
has_some (Some content) held has = refl

-- a page that is neither fresh nor zeroed alone has words
there_are : (stage : PageStage) (saved now : Option (ℕ → ℕ)) (held kept : ℕ → ℕ) (old v : ℕ)
    → (stage ≡ stages.Fresh → ⊥) → is_zeroed_alone stage ≡ false → Holds stage saved now held kept old v
    → is_some now ≡ true
there_are stages.Fresh saved now held kept old v stale not_zeroed h = absurd (stale refl)
there_are stages.Protected saved now held kept old v stale not_zeroed h = has_some now held h.as_now
there_are (stages.Preparing core next) saved now held kept old v stale not_zeroed h = has_some now held h.0.as_now
there_are (stages.Writable Zeros Nothing) saved now held kept old v stale not_zeroed h = absurd (cc)
there_are (stages.Writable Zeros Stored) saved now held kept old v stale not_zeroed h = has_some now held h.1
there_are (stages.Writable Zeros Flushed) saved now held kept old v stale not_zeroed h = has_some now held h.1
there_are (stages.Writable Copy Nothing) saved now held kept old v stale not_zeroed h = has_some now held h.1.0
there_are (stages.Writable Copy Stored) saved now held kept old v stale not_zeroed h = has_some now held h.1
there_are (stages.Writable Copy Flushed) saved now held kept old v stale not_zeroed h = has_some now held h.1

-- The words of pages, where those that were zeroed alone have zeros.
abbrev pub with_zeros : Rooms → (ℕ → Option (ℕ → ℕ)) → ℕ → Option (ℕ → ℕ)
with_zeros r pages page = if is_zeroed_below r PAGES page then Some (λ j. 0) else pages page

pub below_is : (r : Rooms) (page : ℕ) → page < PAGES
    → is_zeroed_below r PAGES page ≡ is_zeroed_alone (stage_of r.pages page)
below_is r page below =
    ap (λ (b : Bool). is_zeroed_alone (stage_of r.pages page) && b) (lt-ltb page PAGES below)
    ∙ and_true (is_zeroed_alone (stage_of r.pages page))
  where
    and_true : (b : Bool) → (b && true) ≡ b
    and_true true = refl
    and_true false = refl

-- What the cores run.
module _ (k : Running) (accepted : List ℕ) (m : Memory) (w : World) (h : Runs k accepted m w) where
  pages_show : PagesShow k.rooms.pages (word_at m) w.version h.saved.pages h.pages Open
  pages_show = (h.at_rest.shows (λ i. None)).keep.pages

  page_shows : (page : ℕ) → page < PAGES
      → PageShows (stage_of k.rooms.pages page) (word_at m) w.version page (h.saved.pages page) (h.pages page) Open
  page_shows page below = pages_show.each page below

  not_fresh : (page : ℕ) → page < PAGES → is_content (record_at (objects_of k)) page ≡ true
      → stage_of k.rooms.pages page ≡ stages.Fresh → ⊥
  not_fresh page below is fresh = (let none = (h.fresh page below).0 fresh in absurd (cc))

  pub zeros : ReadAsZeros k.rooms h.rest.content
  zeros page offset is =
      reads_same h.rest.content m page offset h.holds.content h.home
      ∙ zeros_read m page offset (λ below j inside.
      zeroed_words (stage_of k.rooms.pages page) (word_at m) w.version page (h.saved.pages page) (h.pages page) Open j
      (zeroed_is (stage_of k.rooms.pages page) is.1) inside (page_shows page below))

  some_words : (page : ℕ) → page < PAGES → is_content (record_at (objects_of k)) page ≡ true
      → is_some (with_zeros k.rooms h.pages page) ≡ true
  some_words page below is = elim (cases_Bool (is_zeroed_alone (stage_of k.rooms.pages page))) [
    | inl zeroed ↦
        ap (λ (b : Bool). is_some (if b then Some (λ j. 0) else h.pages page))
        (below_is k.rooms page below ∙ zeroed)
    | inr not_zeroed ↦
        ap (λ (b : Bool). is_some (if b then Some (λ j. 0) else h.pages page))
        (below_is k.rooms page below ∙ not_zeroed)
        ∙ (let shows = page_shows page below in
        there_are (stage_of k.rooms.pages page) (h.saved.pages page) (h.pages page) shows.held shows.kept shows.old
        w.version (not_fresh page below is) not_zeroed shows.holds)
  ]

  word_same : (page j : ℕ) → page < PAGES → is_content (record_at (objects_of k)) page ≡ true → j < FRAME_WORDS
      → words_of (with_zeros k.rooms h.pages page) j ≡ words_in (word_at m) page j
  word_same page j below is inside = elim (cases_Bool (is_zeroed_alone (stage_of k.rooms.pages page))) [
    | inl zeroed ↦
        ap (λ (b : Bool). words_of (if b then Some (λ j. 0) else h.pages page) j)
        (below_is k.rooms page below ∙ zeroed)
        ∙ sym (zeroed_words (stage_of k.rooms.pages page) (word_at m) w.version page (h.saved.pages page)
        (h.pages page) Open j (zeroed_is (stage_of k.rooms.pages page) zeroed) inside (page_shows page below))
    | inr not_zeroed ↦
        ap (λ (b : Bool). words_of (if b then Some (λ j. 0) else h.pages page) j)
        (below_is k.rooms page below ∙ not_zeroed)
        ∙ sym (page_words (stage_of k.rooms.pages page) (word_at m) w.version page (h.saved.pages page)
        (h.pages page) Open j (not_fresh page below is) inside (page_shows page below))
  ]

  agree : (page offset : ℕ) → page < PAGES → is_content (record_at (objects_of k)) page ≡ true
      → content_of (with_zeros k.rooms h.pages) page offset ≡ h.rest.content page offset
  agree page offset below is =
      same_bytes (words_of (with_zeros k.rooms h.pages page)) (words_in (word_at m) page) page offset
      (λ below j inside. word_same page j below is inside)
      ∙ sym (reads_same h.rest.content m page offset h.holds.content h.home)

  out_is : w.now.out ≡ h.rest.out
  unfolding state_of
  out_is = ap (λ (s : State). s.out) h.holds.now

  pub run : IsRunning (objects_of k) h.rest (with_zeros k.rooms h.pages) w
  run = record {
    sound = h.holds.sound;
    now = h.holds.now;
    slots = h.slots;
    strays = h.holds.strays;
    words = some_words;
    agree = agree;
    rings = h.holds.attached.rings;
    entries = h.holds.entries;
    waiting = λ channel below more.
        h.waiting channel below
        (subst (λ (out : ℕ → List (List ℕ)). length (w.released channel) < length (out channel)) (sym out_is) more);
  }

  -- Behind the sweep no page that was zeroed alone has content, so its words are kept nowhere.
  module _ (n : Objects) (swept_content : (page : ℕ) → page < PAGES → is_content (record_at n) page
      ≡ (is_content (record_at (objects_of k)) page && has_page (swept (state_of (objects_of k) h.rest)) page
      && not (is_zeroed_alone (stage_of k.rooms.pages page)))) where
    not_true : (b : Bool) → not b ≡ true → b ≡ false
    not_true true is = absurd (cc)
    not_true false is = refl

    off : (b : Bool) → (b && false) ≡ false
    off true = refl
    off false = refl

    not_zeroed : (page : ℕ) → is_content (record_at n) page ≡ true → is_zeroed_below k.rooms PAGES page ≡ false
    not_zeroed page is = elim (cases_lt page PAGES) [
      | inl below ↦
          below_is k.rooms page below
          ∙ not_true (is_zeroed_alone (stage_of k.rooms.pages page))
          (three (is_content (record_at (objects_of k)) page) (has_page (swept (state_of (objects_of k) h.rest)) page)
          (not (is_zeroed_alone (stage_of k.rooms.pages page))) (sym (swept_content page below) ∙ is)).2
      | inr past ↦
          ap (λ (b : Bool). is_zeroed_alone (stage_of k.rooms.pages page) && b) (le-ltb page PAGES past)
          ∙ off (is_zeroed_alone (stage_of k.rooms.pages page))
    ]

    kept_at : (page : ℕ) → words_kept n (with_zeros k.rooms h.pages) page ≡ words_kept n h.pages page
    kept_at page = elim (cases_Bool (is_content (record_at n) page)) [
      | inl is ↦
          ap (λ (b : Bool). if is_content (record_at n) page then (if b then Some (λ j. 0) else h.pages page) else None)
          (not_zeroed page is)
      | inr none ↦
          ap (λ (b : Bool). if b then with_zeros k.rooms h.pages page else None) none
          ∙ sym (ap (λ (b : Bool). if b then h.pages page else None) none)
    ]

    pub kept_same : words_kept n (with_zeros k.rooms h.pages) ≡ words_kept n h.pages
    kept_same = fun_ext kept_at
