-- What page numbers stand for is taken anew from the memory: where objects have content it is the same, as the rooms
-- show the words of their pages.
use Rattle.std.specs.Prelude.{◌≡◌, ℕ, ◌<◌, true, false, List, Option, Some, None, is_some}
use Rattle.std.proofs.Common.{refl, ap, sym, subst, ◌∙◌, inl, inr}
use Rattle.std.proofs.lemmas.Bool.{cases_lt}
use Rattle.sls_base.specs.declared.limits.TheConstants.{FRAME_WORDS, OBJECTS, PAGES}
use Rattle.sls_base.specs.declared.fixed.TheConstants.{SCHEDULER}
use Rattle.pmem_model.specs.Words.{Word}
use Rattle.pmem_model.specs.Memory.{Memory, word_at}
use Rattle.link_lists.specs.Lists.{list_at}
use Rattle.plain_state.specs.States.{State}
use Rattle.plain_state.specs.Worlds.{World}
use Rattle.plain_model.specs.Sweep.{swept}
use Rattle.plain_laws.specs.Bounds.{HasRoom}
use Rattle.kobj_codec.specs.declared.obj.Obj.{Obj}
use Rattle.kobj_table.specs.declared.objects.Objects.{Objects}
use Rattle.kobj_table.specs.declared.slot.Slot.{Slot}
use Rattle.kobj_table.specs.Objects.{Rest, slot_at, state_of}
use Rattle.kobj_table.specs.Slots.{is_scheduler, object_of}
use Rattle.object_records.specs.Pages.{is_content}
use Rattle.object_records.specs.Ranges.{IsSoundState}
use Rattle.object_records.specs.Records.{record_at, record_of, SameBytes, state_of_records}
use Rattle.call_readings.specs.Kernel.{CountsEntries}
use Rattle.page_store.specs.declared.stage.PageStage.{PageStage}
use Rattle.page_store.specs.declared.stage.PageStage.TheVariants.{Fresh}
use Rattle.page_store.specs.declared.store.PageStore.{PageStore}
use Rattle.page_store.specs.Known.{Phase}
use Rattle.page_store.specs.Shows.{PageShows, PagesShow, words_of}
use Rattle.page_store.specs.Stages.{stage_of}
use Rattle.saved_state.specs.Running.{CanBeSaved}
use Rattle.saved_state.proofs.Contents.{read_is_content}
use Rattle.leader_helper.specs.Saving.{words_kept}
use Rattle.core_turns.proofs.Content.{content_at, page_words, same_bytes, words_in}

-- Laws of records, as they are told.

abbrev pub StandFor : Type 0
StandFor = (o : Objects) (rest : Rest) → is_scheduler (slot_at o SCHEDULER) ≡ true
    → state_of o rest ≡ state_of_records (record_at o) rest

abbrev pub ReadBytes : Type 0
ReadBytes = (records : ℕ → Option Obj) (rest : Rest) (content : ℕ → ℕ → ℕ)
    → ((i : ℕ) (obj : Obj) → records i ≡ Some obj → SameBytes rest.content content obj)
    → state_of_records records (record rest { content = content }) ≡ state_of_records records rest

-- A page that has words isn't fresh.

pub some_not_fresh : (stage : PageStage) (f : ℕ → Word) (v page : ℕ) (saved now : Option (ℕ → ℕ)) (phase : Phase)
    → is_some now ≡ true → PageShows stage f v page saved now phase → stage ≡ Fresh → ⊥
some_not_fresh stage f v page saved now phase some h e =
    let shows = subst (λ (s : PageStage). PageShows s f v page saved now phase) e h in
    let none : now ≡ None = shows.holds.1 in
    let no : true ≡ false = sym some ∙ ap is_some none in cc

-- A number past the last has no record, where no object stands there.

no_record : (content : ℕ → ℕ → ℕ) (slot : Slot) (threads : List ℕ) → object_of content slot threads ≡ None
    → record_of slot threads ≡ None
no_record content Slot.Empty threads none = refl
no_record content (Slot.Group group) threads none = absurd (cc)
no_record content (Slot.Thread thread) threads none = absurd (cc)
no_record content (Slot.Space space) threads none = absurd (cc)
no_record content (Slot.Memory memory) threads none = absurd (cc)
no_record content (Slot.Connection c) threads none = absurd (cc)
no_record content (Slot.Notification note) threads none = absurd (cc)
no_record content (Slot.Ring ring) threads none = absurd (cc)
no_record content (Slot.Scheduler cores) threads none = absurd (cc)

pub records_in_range : (o : Objects) (rest : Rest) (i : ℕ) (obj : Obj) → IsSoundState (state_of o rest)
    → record_at o i ≡ Some obj → i < OBJECTS
unfolding state_of
records_in_range o rest i obj sound is = elim (cases_lt i OBJECTS) [
  | inl below ↦ below
  | inr past ↦
      (let none : object_of rest.content (slot_at o i) (list_at o.links i) ≡ None = sound.in_range i past in
      let no : Some obj ≡ None = sym is ∙ no_record rest.content (slot_at o i) (list_at o.links i) none in
      absurd (cc))
]

pub kept_is : (o : Objects) (pages : ℕ → Option (ℕ → ℕ)) (page : ℕ) → is_content (record_at o) page ≡ true
    → words_kept o pages page ≡ pages page
kept_is o pages page is = rw is refl

module _ (o : Objects) (rest : Rest) (pages : ℕ → Option (ℕ → ℕ)) (w : World)
    (can : CanBeSaved o rest (words_kept o pages) w)
    (s : PageStore) (next : Memory) (v : ℕ) (saved : ℕ → Option (ℕ → ℕ)) (phase : Phase)
    (shows : PagesShow s (word_at next) v saved pages phase) where
  -- what there is of the state beside the objects, with the bytes that the memory has now
  abbrev pub rest_then : Rest
  rest_then = record rest { content = content_at next }

  has_words : (page : ℕ) → page < PAGES → is_content (record_at o) page ≡ true → is_some (pages page) ≡ true
  has_words page below is = ap is_some (sym (kept_is o pages page is)) ∙ can.words.told.each page below ∙ is

  words_then : (page j : ℕ) → page < PAGES → is_content (record_at o) page ≡ true → j < FRAME_WORDS
      → words_in (word_at next) page j ≡ words_of (words_kept o pages page) j
  words_then page j below is inside =
      page_words (stage_of s page) (word_at next) v page (saved page) (pages page) phase j
      (some_not_fresh (stage_of s page) (word_at next) v page (saved page) (pages page) phase
      (has_words page below is) (shows.each page below)) inside (shows.each page below)
      ∙ ap (λ (words : Option (ℕ → ℕ)). words_of words j) (sym (kept_is o pages page is))

  pub content_same : (page offset : ℕ) → is_content (record_at o) page ≡ true
      → content_at next page offset ≡ rest.content page offset
  content_same page offset is =
      same_bytes (words_in (word_at next) page) (words_of (words_kept o pages page)) page offset
      (λ below j inside. words_then page j below is inside)
      ∙ can.words.agree page offset is

  read_same : (i : ℕ) (obj : Obj) → record_at o i ≡ Some obj → SameBytes rest.content (content_at next) obj
  read_same i obj is page offset reads =
      content_same page offset
      (read_is_content (record_at o) i obj page (records_in_range o rest i obj can.sound is) is reads)

  module _ (of_records : StandFor) (zeros : ReadBytes) where
    scheduler : is_scheduler (slot_at o SCHEDULER) ≡ true
    scheduler = ap is_scheduler can.slots.scheduler

    pub state_same : state_of o rest_then ≡ state_of o rest
    state_same =
        of_records o rest_then scheduler
        ∙ zeros (record_at o) rest (content_at next) read_same
        ∙ sym (of_records o rest scheduler)

    pub can_then : CanBeSaved o rest_then (words_kept o pages) w
    can_then = record {
      sound = subst IsSoundState (sym state_same) can.sound;
      swept = ap swept state_same ∙ can.swept ∙ sym state_same;
      slots = can.slots;
      strays = can.strays;
      words = record {
        told = can.words.told;
        agree = λ page offset is. can.words.agree page offset is ∙ sym (content_same page offset is);
      };
      rings = λ id. subst (λ (t : State). CountsEntries (slot_at o id) (record w { now = t })) (sym state_same)
          (can.rings id);
      room = subst (λ (t : State). HasRoom w t) (sym state_same) can.room;
      entries = can.entries;
      channels = can.channels;
    }
