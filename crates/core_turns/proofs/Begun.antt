-- What was restored runs.
use Rattle.std.specs.Prelude.{◌≡◌, ℕ, zero, suc, ◌+◌, ◌/◌, ◌%◌, ◌<◌, ◌≤◌, ◌&&◌, nat_lt, Bool, true, false, if◌then◌else◌, List, [], ◌∷◌, length, option_map, slice_get, slice_index, slice_index_or, Option, Some, None, IfSome, is_some}
use Rattle.std.proofs.Common.{refl, ap, sym, subst, ◌∙◌, arith, inl, inr}
use Rattle.std.proofs.lemmas.Bool.{cases_lt, le-ltb}
use mathlib.Core.Path.{fun_ext}
use Rattle.sls_base.specs.declared.limits.TheConstants.{FRAME_WORDS, OBJECTS, OUTPUT_CHANNELS, PAGE_BYTES, PAGES}
use Rattle.sls_base.specs.declared.fixed.TheConstants.{FIRST_OUTPUT_RING, SCHEDULER}
use Rattle.sls_base.specs.declared.thread.Ring.{Ring}
use Rattle.pmem_model.specs.Words.{Word}
use Rattle.pmem_model.specs.Memory.{Memory, word_at}
use Rattle.pmem_layout.specs.Places.{frame_at, runtime_frame}
use Rattle.plain_state.specs.States.{State}
use Rattle.plain_state.specs.Worlds.{World, accepted_count, put_count}
use Rattle.plain_laws.specs.Bounds.{HasRoom}
use Rattle.link_lists.specs.Lists.{list_at}
use Rattle.kobj_codec.specs.declared.obj.Obj.{Obj}
use Rattle.kobj_codec.specs.Objects.{IsObj}
use Rattle.kobj_table.specs.declared.slot.Slot.{Slot}
use Rattle.kobj_table.specs.declared.objects.Objects.{Objects}
use Rattle.kobj_table.specs.Slots.{is_scheduler}
use Rattle.kobj_table.specs.Objects.{Rest, slot_at, state_of}
use Rattle.object_records.specs.Pages.{is_content}
use Rattle.object_records.specs.Records.{record_of, record_at, state_of_records, SameBytes}
use Rattle.object_records.specs.Ranges.{HasFixedSlots}
use Rattle.page_store.specs.declared.store.PageStore.{PageStore}
use Rattle.page_store.specs.Stages.{stage_of}
use Rattle.page_store.specs.Known.{Phase, Open}
use Rattle.page_store.specs.Shows.{PagesShow, words_of}
use Rattle.durable_state.specs.Parts.{Parts}
use Rattle.call_readings.specs.declared.content.TheConstants.{WORD_BYTES}
use Rattle.call_readings.specs.Content.{byte_of}
use Rattle.call_readings.specs.Kernel.{CountsEntries}
use Rattle.call_readings.proofs.Words.{number_of_zeros}
use Rattle.out_gate.specs.Entries.{HasEntry, entry_at}
use Rattle.saved_state.specs.State.{ArePartsOf, content_of, rest_of}
use Rattle.saved_state.specs.Running.{ArePutBack, CanBeSaved}
use Rattle.saved_state.proofs.Contents.{read_is_content}
use Rattle.kernel_calls.specs.declared.calls.Calls.{Calls}
use Rattle.kernel_calls.specs.Kernel.{Holds, IsJustSaved}
use Rattle.tree_restore.specs.declared.recovery.Restored.{Restored}
use Rattle.core_turns.specs.Restored.{IsRestored}
use Rattle.core_turns.specs.Runs.{Runs, AreFreshAlike, AreAsSaved, AreWaitingThere}
use Rattle.core_turns.proofs.Recovered.{held_by, held_reads, held_same, saved_in_range, slot_same, not_stored, not_preparing, fresh_without, without_fresh}

-- Words of pages, and pages without any.

some_of : (words : Option (ℕ → ℕ)) → is_some words ≡ true → (content : ℕ → ℕ) × (words ≡ Some content)
some_of None is = absurd (cc)
some_of (Some content) is = (content, refl)

none_of : (words : Option (ℕ → ℕ)) → is_some words ≡ false → words ≡ None
none_of None none = refl
none_of (Some words) none = absurd (cc)

zero_bytes : (k : ℕ) → byte_of 0 k ≡ 0
zero_bytes zero = refl
zero_bytes (suc zero) = refl
zero_bytes (suc (suc zero)) = refl
zero_bytes (suc (suc (suc zero))) = refl
zero_bytes (suc (suc (suc (suc zero)))) = refl
zero_bytes (suc (suc (suc (suc (suc zero))))) = refl
zero_bytes (suc (suc (suc (suc (suc (suc zero)))))) = refl
zero_bytes (suc (suc (suc (suc (suc (suc (suc zero))))))) = refl
zero_bytes (suc (suc (suc (suc (suc (suc (suc (suc k)))))))) = refl

zero_by : (b : Bool) (k : ℕ) → (if b then byte_of 0 k else 0) ≡ 0
zero_by true k = zero_bytes k
zero_by false k = refl

zeros_of_none : (pages : ℕ → Option (ℕ → ℕ)) (page offset : ℕ) → pages page ≡ None → content_of pages page offset ≡ 0
zeros_of_none pages page offset none =
    ap (λ (words : Option (ℕ → ℕ)).
    if nat_lt page PAGES && nat_lt offset PAGE_BYTES
    then byte_of (words_of words (offset / WORD_BYTES)) (offset % WORD_BYTES)
    else 0) none
    ∙ zero_by (nat_lt page PAGES && nat_lt offset PAGE_BYTES) (offset % WORD_BYTES)

-- an entry stands on no page of zeros
no_zeros : (byte : ℕ → ℕ) (number : ℕ) (entry : List ℕ) → HasEntry byte number entry
    → ((offset : ℕ) → byte offset ≡ 0) → ⊥
no_zeros byte number entry has zeros =
    let none : 0 ≡ length entry = number_of_zeros byte (entry_at number) WORD_BYTES zeros ∙ has.size in
    let some = has.some in
    absurd (omega (arith, none, some))

entry_has_words : (pages : ℕ → Option (ℕ → ℕ)) (page number : ℕ) (entry : List ℕ)
    → HasEntry (content_of pages page) number entry → is_some (pages page) ≡ true
entry_has_words pages page number entry has = by (pages page) refl
  where
    by : (words : Option (ℕ → ℕ)) → pages page ≡ words → is_some words ≡ true
    by (Some words) e = refl
    by None e = absurd (no_zeros (content_of pages page) number entry has (λ offset. zeros_of_none pages page offset e))

-- Rings count alike where as much was put.

counts_alike : (slot : Slot) (a b : World) → ((channel : ℕ) → put_count a channel ≡ put_count b channel)
    → CountsEntries slot a → CountsEntries slot b
counts_alike (Slot.Ring ring) a b same is = (is.0, λ other. is.1 other ∙ same ring.channel)
counts_alike Slot.Empty a b same is = is
counts_alike (Slot.Group group) a b same is = is
counts_alike (Slot.Thread thread) a b same is = is
counts_alike (Slot.Space space) a b same is = is
counts_alike (Slot.Memory memory) a b same is = is
counts_alike (Slot.Connection connection) a b same is = is
counts_alike (Slot.Notification note) a b same is = is
counts_alike (Slot.Scheduler cores) a b same is = is

-- No core has a page in hand.

abbrev nothing_in_hand : List (Option ℕ)
nothing_in_hand = None ∷ None ∷ None ∷ None ∷ None ∷ None ∷ None ∷ None ∷ []

none_prepared : (core : ℕ) → slice_index_or nothing_in_hand core None ≡ None
none_prepared zero = refl
none_prepared (suc zero) = refl
none_prepared (suc (suc zero)) = refl
none_prepared (suc (suc (suc zero))) = refl
none_prepared (suc (suc (suc (suc zero)))) = refl
none_prepared (suc (suc (suc (suc (suc zero))))) = refl
none_prepared (suc (suc (suc (suc (suc (suc zero)))))) = refl
none_prepared (suc (suc (suc (suc (suc (suc (suc zero))))))) = refl
none_prepared (suc (suc (suc (suc (suc (suc (suc (suc core)))))))) = refl

not_in_hand : (core page : ℕ) → slice_index_or nothing_in_hand core None ≡ Some page → ⊥
not_in_hand core page e = (let none = none_prepared core in absurd (cc))

module _ (r : Restored) (accepted : List ℕ) (m : Memory) (w : World) (h : IsRestored r accepted m w)
    (reads : (s : PageStore) (f : ℕ → Word) (v : ℕ) (saved now : ℕ → Option (ℕ → ℕ)) (phase : Phase) (page : ℕ)
    (content : ℕ → ℕ) (j : ℕ) → page < PAGES → j < FRAME_WORDS → now page ≡ Some content
    → PagesShow s f v saved now phase → (f (frame_at (runtime_frame page) + j)).cached ≡ content j)
    (of_records : (o : Objects) (rest : Rest) → is_scheduler (slot_at o SCHEDULER) ≡ true
    → state_of o rest ≡ state_of_records (record_at o) rest)
    (zeros : (records : ℕ → Option Obj) (rest : Rest) (content : ℕ → ℕ → ℕ)
    → ((i : ℕ) (obj : Obj) → records i ≡ Some obj → SameBytes rest.content content obj)
    → state_of_records records (record rest { content = content }) ≡ state_of_records records rest)
    (put_back : (o : Objects) (base accepted : ℕ → ℕ) (p : Parts) (s : State) → ArePartsOf base accepted p s
    → ArePutBack o p → state_of o (rest_of p.pages s) ≡ s)
    (again : (o : Objects) (p : Parts) (s : State) (w : World) → ArePartsOf w.base (accepted_count w) p s
    → ((i : ℕ) → IfSome (p.objects i) IsObj) → HasRoom w s → ArePutBack o p
    → CanBeSaved o (rest_of p.pages s) p.pages w) where
  abbrev p : Parts
  p = h.saved

  abbrev o : Objects
  o = r.objects

  pages_show : PagesShow r.rooms.pages (word_at m) w.version p.pages p.pages Open
  pages_show = (h.at_rest.shows (λ j. None)).keep.pages

  in_range : (i : ℕ) → IfSome (p.objects i) IsObj
  in_range = saved_in_range r.rooms (word_at m) w.version p p.pages h.at_rest h.are.none

  can : CanBeSaved o (rest_of p.pages w.saved) p.pages w
  can = again o p w.saved w h.are in_range h.sound.room.saved h.objects

  back : state_of o (rest_of p.pages w.saved) ≡ w.saved
  back = put_back o w.base (accepted_count w) p w.saved h.are h.objects

  same_records : record_at o ≡ p.objects
  same_records = fun_ext h.objects.records

  -- Content.

  content_is : (page : ℕ) → page < PAGES → is_content (record_at o) page ≡ is_some (p.pages page)
  content_is page below =
      ap (λ (records : ℕ → Option Obj). is_content records page) same_records ∙ sym (h.are.pages.each page below)

  held_agrees : (page : ℕ) → page < PAGES → is_some (p.pages page) ≡ true → (offset : ℕ)
      → held_by m page offset ≡ content_of p.pages page offset
  held_agrees page below is offset =
      let has = some_of (p.pages page) is in
      held_same m p.pages page has.0 has.1 (λ j inside.
      reads r.rooms.pages (word_at m) w.version p.pages p.pages Open page has.0 j below inside has.1 pages_show)
      offset

  record_below : (i : ℕ) (obj : Obj) → record_at o i ≡ Some obj → i < OBJECTS
  record_below i obj e = elim (cases_lt i OBJECTS) [
    | inl below ↦ below
    | inr past ↦ (let none = h.are.none i past in let same = h.objects.records i in absurd (cc))
  ]

  same_bytes : (i : ℕ) (obj : Obj) → record_at o i ≡ Some obj → SameBytes (content_of p.pages) (held_by m) obj
  same_bytes i obj e page offset told = elim (cases_lt page PAGES) [
    | inl below ↦
        let there = read_is_content (record_at o) i obj page (record_below i obj e) e told in
        held_agrees page below (sym (content_is page below) ∙ there) offset
    | inr past ↦ (let apart = le-ltb page PAGES past in rw apart refl)
  ]

  -- The running state.

  abbrev pub rest : Rest
  rest = record { content = held_by m; out = w.saved.out; inputs = [] }

  now_saved : w.now ≡ record w.saved { inputs = [] }
  now_saved = sym (ap (λ (x : World). x.now) h.off)

  scheduler : is_scheduler (slot_at o SCHEDULER) ≡ true
  scheduler = ap is_scheduler can.slots.scheduler

  abbrev first : Rest
  first = record { content = content_of p.pages; out = w.saved.out; inputs = [] }

  first_is : record w.saved { inputs = [] } ≡ state_of o first
  unfolding state_of
  first_is = ap (λ (s : State). record s { inputs = [] }) (sym back)

  now_is : w.now ≡ state_of o rest
  now_is =
      let alike = sym (zeros (record_at o) first (held_by m) same_bytes) ∙ sym (of_records o rest scheduler) in
      now_saved ∙ (first_is ∙ (of_records o first scheduler ∙ alike))

  out_same : (channel : ℕ) → w.now.out channel ≡ w.saved.out channel
  out_same channel = ap (λ (s : State). s.out channel) now_saved

  abbrev back_at : World
  back_at = record w { now = state_of o (rest_of p.pages w.saved) }

  put_same : (channel : ℕ) → put_count back_at channel ≡ put_count w channel
  unfolding state_of
  put_same channel = ap (λ (l : List (List ℕ)). w.base channel + length l) (sym (out_same channel))

  waits_there : (channel i : ℕ) → channel < OUTPUT_CHANNELS → length (w.released channel) ≤ i
      → i < length (w.saved.out channel) → is_some (p.pages channel) ≡ true
  waits_there channel i below from to =
      entry_has_words p.pages channel (w.base channel + i) (slice_index_or (w.saved.out channel) i [])
      (can.entries channel i below from to)

  pub just_saved : IsJustSaved o [] accepted m rest w
  just_saved = record {
    now = now_is;
    saved = λ id. sym (ap (λ (s : State). s.objects id) now_saved);
    sound = h.sound;
    attached = record {
      rings = λ id. counts_alike (slot_at o id) back_at w put_same (can.rings id);
      accepted = h.counted;
      input = ap (λ (s : State). option_map length (slice_get s.inputs 0)) (sym now_saved);
    };
    inputs = refl;
    content = held_reads m;
    entries = λ channel i below from to.
        subst (λ (byte : ℕ → ℕ). HasEntry byte (w.base channel + i) (slice_index_or (w.saved.out channel) i []))
        (sym (fun_ext (held_agrees channel (omega (arith, below)) (waits_there channel i below from to))))
        (can.entries channel i below from to);
    scheduler = scheduler;
    strays = can.strays;
  }

  -- What runs.

  fresh_alike : AreFreshAlike r.rooms o
  fresh_alike page below =
      let shows = pages_show.each page below in
      let stage = stage_of r.rooms.pages page in
      let words = p.pages page in (
        λ fresh. content_is page below
            ∙ ap is_some (fresh_without stage words words shows.held shows.kept shows.old w.version
            (h.stages page below) shows.holds fresh),
        λ none. without_fresh stage words words shows.held shows.kept shows.old w.version (h.stages page below)
            shows.holds (none_of words (sym (content_is page below) ∙ none)),
      )

  as_saved : AreAsSaved r.rooms o p w
  as_saved i below same =
      let here = subst (λ (told : Option Obj). IfSome told IsObj) (sym (h.objects.records i)) (in_range i) in
      let alike = slot_same r.rooms h.stages (slot_at o i) (list_at o.links i) here in
      ap (λ (slot : Slot). record_of slot (list_at o.links i)) alike ∙ h.objects.records i

  waiting_there : AreWaitingThere o w
  waiting_there channel below waits =
      let same = ap length (out_same channel) in
      content_is channel (omega (arith, below))
      ∙ waits_there channel (length (w.released channel)) below (omega arith) (omega (arith, waits, same))

  module _ (n : Calls) (objects : n.runtime.objects ≡ o) (holds : Holds n accepted m rest w) (counts : List ℕ)
      (counted : (channel : ℕ) (ring : Ring) → channel < OUTPUT_CHANNELS
      → slot_at o (FIRST_OUTPUT_RING + channel) ≡ Slot.Ring ring → slice_index counts channel ≡ ring.count) where
    counts_saved : (channel : ℕ) → channel < OUTPUT_CHANNELS
        → slice_index counts channel ≡ w.base channel + length (w.saved.out channel)
    unfolding state_of
    counts_saved channel below =
        let ring = can.slots.outputs channel below in
        let counts_entries =
        subst (λ (slot : Slot). CountsEntries slot back_at) ring.is (can.rings (FIRST_OUTPUT_RING + channel)) in
        counted channel _ below ring.is ∙ counts_entries.1 (λ e. absurd (omega (arith, e, below)))

    pub begun : Runs (record { calls = n; rooms = r.rooms; prepares = nothing_in_hand; saved = counts }) accepted m w
    begun = record {
      rest = rest;
      holds = holds;
      saved = p;
      pages = p.pages;
      at_rest = h.at_rest;
      are = h.are;
      slots = subst HasFixedSlots (sym objects) can.slots;
      fresh = subst (λ (x : Objects). AreFreshAlike r.rooms x) (sym objects) fresh_alike;
      stored = λ page below origin e. absurd (not_stored (stage_of r.rooms.pages page) origin (h.stages page below) e);
      unchanged = subst (λ (x : Objects). AreAsSaved r.rooms x p w) (sym objects) as_saved;
      waiting = subst (λ (x : Objects). AreWaitingThere x w) (sym objects) waiting_there;
      counts = counts_saved;
      prepares = λ core page below. (
        λ hand. absurd (not_in_hand core page hand),
        λ prepares. absurd (not_preparing (stage_of r.rooms.pages page) core (h.stages page below) prepares),
      );
      in_range = λ core page hand. absurd (not_in_hand core page hand);
      home = h.home;
    }
