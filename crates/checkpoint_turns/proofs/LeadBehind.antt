-- A checkpoint behind its commit stays a world's, while its log is applied.
use Rattle.std.specs.Prelude.{◌≡◌, ◌+◌, ◌<◌, ◌≤◌, ℕ, true, false, List, [], length, Option, Some, None, is_some}
use Rattle.std.specs.Prelude.{slice_index_or}
use Rattle.std.proofs.Common.{ap, sym, subst, ◌∙◌, arith, inl, inr}
use Rattle.std.proofs.lemmas.Bool.{cases_lt}
use mathlib.Core.Path.{fun_ext}
use Rattle.sls_base.specs.declared.limits.TheConstants.{FRAME_WORDS, OBJECTS, OUTPUT_CHANNELS, PAGES}
use Rattle.pmem_model.specs.Words.{Word}
use Rattle.pmem_model.specs.Memory.{Memory, SameHomes, word_at}
use Rattle.plain_state.specs.Objects.{page_of_channel}
use Rattle.plain_state.specs.States.{State}
use Rattle.plain_state.specs.Worlds.{World}
use Rattle.kobj_codec.specs.declared.obj.Obj.{Obj}
use Rattle.kobj_table.specs.Objects.{Rest, state_of}
use Rattle.object_records.specs.Pages.{is_content}
use Rattle.object_records.specs.Records.{record_at, SameBytes}
use Rattle.out_gate.specs.Entries.{HasEntry}
use Rattle.page_store.specs.declared.stage.PageStage.{PageStage}
use Rattle.page_store.specs.declared.stage.PageStage.TheVariants.{Fresh}
use Rattle.page_store.specs.Known.{Open, Phase}
use Rattle.page_store.specs.Shows.{PageShows, PagesShow}
use Rattle.page_store.specs.Stages.{stage_of, state_of as page_state}
use Rattle.version_rooms.specs.declared.rooms.Rooms.{Rooms}
use Rattle.saved_state.proofs.Contents.{read_is_content}
use Rattle.kernel_calls.specs.Kernel.{IsJustSaved}
use Rattle.leader_helper.specs.declared.leader.Leader.{Leader}
use Rattle.leader_helper.specs.Leads.{IsApplying}
use Rattle.leader_helper.proofs.Applies.{is_calm}
use Rattle.core_turns.specs.Runs.{objects_of}
use Rattle.core_turns.proofs.Content.{content_at, page_words, reads_now, reads_same, same_bytes, words_in}
use Rattle.checkpoint_turns.specs.declared.checkpoint.Checkpoint.{Checkpoint}
use Rattle.checkpoint_turns.specs.Checkpoints.{IsBehind}
use Rattle.checkpoint_turns.proofs.LeadBefore.{led_on}
use Rattle.checkpoint_turns.proofs.LeadContent.{StandFor, ReadBytes}
use Rattle.checkpoint_turns.proofs.LeadStages.{still_as_committed}

-- A page that is saved isn't fresh.
pub saved_not_fresh : (stage : PageStage) (f : ℕ → Word) (v page : ℕ) (saved now : Option (ℕ → ℕ)) (phase : Phase)
    → is_some saved ≡ true → PageShows stage f v page saved now phase → stage ≡ Fresh → ⊥
saved_not_fresh stage f v page saved now phase some h e =
    let shows = subst (λ (s : PageStage). PageShows s f v page saved now phase) e h in
    let none : saved ≡ None = shows.holds.0.none in
    let no : true ≡ false = sym some ∙ ap is_some none in cc

module _ (k : Checkpoint) (accepted : List ℕ) (m : Memory) (w : World) (h : IsBehind k accepted m w) where
  pub same_records : record_at (objects_of k.running) ≡ h.saved.objects
  same_records = fun_ext h.objects

  pub saved_is : (page : ℕ) → page < PAGES
      → is_some (h.saved.pages page) ≡ is_content (record_at (objects_of k.running)) page
  saved_is page below =
      h.are.pages.each page below
      ∙ ap (λ (records : ℕ → Option Obj). is_content records page) (sym same_records)

  pub record_below : (i : ℕ) (obj : Obj) → record_at (objects_of k.running) i ≡ Some obj → i < OBJECTS
  record_below i obj e = elim (cases_lt i OBJECTS) [
    | inl below ↦ below
    | inr past ↦ absurd (let no : Some obj ≡ None = sym e ∙ h.objects i ∙ h.are.none i past in cc)
  ]

  pub pages_show : PagesShow k.running.rooms.pages (word_at m) w.version h.saved.pages h.pages Open
  pages_show = ((is_calm h.applying).1 (λ j. None)).keep.pages

  module _ (l : Leader) (r : Rooms) (next : Memory)
      (applying : IsApplying l r (word_at next) w.version h.saved h.pages) where
    pages_then : PagesShow r.pages (word_at next) w.version h.saved.pages h.pages Open
    pages_then = ((is_calm applying).1 (λ j. None)).keep.pages

    -- what there is of the state beside the objects, with the bytes that the memory has now
    abbrev pub rest_behind : Rest
    rest_behind = record h.rest { content = content_at next }

    words_same : (page j : ℕ) → page < PAGES → is_content (record_at (objects_of k.running)) page ≡ true
        → j < FRAME_WORDS → words_in (word_at next) page j ≡ words_in (word_at m) page j
    words_same page j below is inside =
        let some = saved_is page below ∙ is in
        page_words (stage_of r.pages page) (word_at next) w.version page (h.saved.pages page) (h.pages page) Open j
        (saved_not_fresh (stage_of r.pages page) (word_at next) w.version page (h.saved.pages page) (h.pages page)
        Open some (pages_then.each page below)) inside (pages_then.each page below)
        ∙ sym (page_words (stage_of k.running.rooms.pages page) (word_at m) w.version page (h.saved.pages page)
        (h.pages page) Open j
        (saved_not_fresh (stage_of k.running.rooms.pages page) (word_at m) w.version page (h.saved.pages page)
        (h.pages page) Open some (pages_show.each page below)) inside (pages_show.each page below))

    content_same : (page offset : ℕ) → is_content (record_at (objects_of k.running)) page ≡ true
        → content_at next page offset ≡ h.rest.content page offset
    content_same page offset is =
        same_bytes (words_in (word_at next) page) (words_in (word_at m) page) page offset
        (λ below j inside. words_same page j below is inside)
        ∙ sym (reads_same h.rest.content m page offset h.just.content h.home)

    read_same : (i : ℕ) (obj : Obj) → record_at (objects_of k.running) i ≡ Some obj
        → SameBytes h.rest.content (content_at next) obj
    read_same i obj is page offset reads =
        content_same page offset
        (read_is_content (record_at (objects_of k.running)) i obj page (record_below i obj is) is reads)

    out_same : w.now.out ≡ h.rest.out
    unfolding state_of
    out_same = ap (λ (s : State). s.out) h.just.now

    entries_stand : (channel i : ℕ) → channel < OUTPUT_CHANNELS → length (w.released channel) ≤ i
        → i < length (h.rest.out channel)
        → HasEntry (content_at next (page_of_channel channel)) (w.base channel + i)
        (slice_index_or (h.rest.out channel) i [])
    entries_stand channel i below from inside =
        let same : length (w.now.out channel) ≡ length (h.rest.out channel) =
        ap (λ (out : ℕ → List (List ℕ)). length (out channel)) out_same in
        let is = h.waiting channel below (omega (arith, from, inside, same)) in
        let bytes : content_at next (page_of_channel channel) ≡ h.rest.content (page_of_channel channel) =
        fun_ext (λ offset. content_same (page_of_channel channel) offset is) in
        subst (λ (byte : ℕ → ℕ). HasEntry byte (w.base channel + i) (slice_index_or (h.rest.out channel) i []))
        (sym bytes) (h.just.entries channel i below from inside)

    module _ (of_records : StandFor) (zeros : ReadBytes) where
      state_same : state_of (objects_of k.running) rest_behind ≡ state_of (objects_of k.running) h.rest
      state_same =
          of_records (objects_of k.running) rest_behind h.just.scheduler
          ∙ zeros (record_at (objects_of k.running)) h.rest (content_at next) read_same
          ∙ sym (of_records (objects_of k.running) h.rest h.just.scheduler)

      just_then : IsJustSaved (objects_of k.running) k.running.calls.inputs accepted next rest_behind w
      just_then = record {
        now = h.just.now ∙ sym state_same;
        saved = h.just.saved;
        sound = h.just.sound;
        attached = h.just.attached;
        inputs = h.just.inputs;
        content = reads_now next;
        entries = entries_stand;
        scheduler = h.just.scheduler;
        strays = h.just.strays;
      }

      pub behind_still : ((page : ℕ) → page < PAGES
          → page_state r.pages page ≡ page_state k.running.rooms.pages page) → SameHomes m next
          → IsBehind (led_on k l r k.running.prepares) accepted next w
      behind_still states homes = record {
        rest = rest_behind;
        just = just_then;
        unchanged = h.unchanged;
        saved = h.saved;
        pages = h.pages;
        are = h.are;
        applying = applying;
        objects = h.objects;
        slots = h.slots;
        stages = λ page below. still_as_committed (stage_of k.running.rooms.pages page) (stage_of r.pages page)
            (h.stages page below) (states page below);
        waiting = h.waiting;
        counts = h.counts;
        none = h.none;
        home = λ bank below. homes bank ∙ h.home bank below;
      }
