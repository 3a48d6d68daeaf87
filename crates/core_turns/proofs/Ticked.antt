-- Running cores after a whole tick are those of the world after it.
use Rattle.std.specs.Prelude.{◌≡◌, ◌≢◌, ◌⊎◌, ℕ, ◌+◌, ◌<◌, ◌≤◌, ◌==◌, ◌||◌, Bool, true, false, List, length, Option, Some, None}
use Rattle.std.proofs.Common.{refl, ap, sym, subst, ◌∙◌, arith, inl, inr}
use Rattle.std.proofs.lemmas.Bool.{cases_Bool, cases_lt, false≢true}
use Rattle.sls_base.specs.declared.fixed.TheConstants.{SCHEDULER}
use Rattle.sls_base.specs.declared.limits.TheConstants.{OBJECTS, OUTPUT_CHANNELS, PAGES}
use Rattle.sls_base.proofs.ListTests.{or_left, or_right}
use Rattle.link_lists.specs.Lists.{list_at}
use Rattle.pmem_model.specs.Words.{Word}
use Rattle.pmem_model.specs.Memory.{Memory, word_at, AllHome}
use Rattle.page_store.specs.declared.stage.PageStage.{PageStage}
use Rattle.page_store.specs.declared.stage.PageStage.TheVariants as stages
use Rattle.page_store.specs.declared.stage.PageState.TheVariants.{Preparing, Writable}
use Rattle.page_store.specs.declared.stage.Writes.TheVariants.{Stored}
use Rattle.page_store.specs.Known.{Open}
use Rattle.page_store.specs.Stages.{stage_of, state_at, state_of}
use Rattle.page_store.specs.Stores.{IsInPage, IsStored, StoresInPages, after_stores}
use Rattle.durable_state.specs.Parts.{Parts}
use Rattle.version_rooms.specs.declared.rooms.Rooms.{Rooms}
use Rattle.version_rooms.specs.Rooms.{Contents, IsAtRest, RoomsShow}
use Rattle.version_rooms.specs.Rest.{AreAtRest}
use Rattle.plain_state.specs.declared.effect.Output.{Output}
use Rattle.plain_state.specs.declared.label.Reply.{Reply}
use Rattle.plain_state.specs.declared.label.Reply.TheVariants as replies
use Rattle.plain_state.specs.Objects.{Object, page_numbers, page_of_channel}
use Rattle.plain_state.specs.States.{State}
use Rattle.plain_state.specs.Worlds.{World, accepted_count}
use Rattle.plain_state.specs.Ticks.{Chosen, chosen, effect_for, must_store, puts_on, puts_to_page, stores_for, stores_to}
use Rattle.plain_state.specs.Ticks.{tick, tick_reply, ticked, touches}
use Rattle.plain_laws.specs.Fixed.{HasFixedObjects}
use Rattle.plain_laws.specs.Sound.{AreApart}
use Rattle.plain_laws.proofs.Changes.{tick_changes}
use Rattle.plain_laws.proofs.Pages.{tick_keeps_numbers}
use Rattle.kobj_table.specs.declared.objects.Objects.{Objects}
use Rattle.kobj_table.specs.Objects.{Rest, slot_at, state_of as state_of_objects}
use Rattle.object_records.specs.Pages.{is_content}
use Rattle.object_records.specs.Records.{record_at}
use Rattle.object_records.specs.Ranges.{HasFixedSlots}
use Rattle.object_records.specs.Untold.{KeepsUntold}
use Rattle.saved_state.specs.State.{ArePartsOf}
use Rattle.kernel_calls.specs.declared.calls.Calls.{Calls}
use Rattle.kernel_calls.specs.Kernel.{Holds}
use Rattle.kernel_calls.specs.Instructions.{IsOnPage, StoresPages}
use Rattle.kernel_calls.proofs.JustSaved.{object_held}
use Rattle.core_turns.specs.declared.running.Running.{Running}
use Rattle.core_turns.specs.Marks.{is_zeroed, slot_again, was_fresh}
use Rattle.core_turns.specs.Runs.{Runs, AreAsSaved, AreFreshAlike, ArePrepared, AreStoredIn, AreWaitingThere, objects_of, prepared_by}
use Rattle.core_turns.specs.Turns.{IsAtHand, IsWritable, StaysOrIsStored, Ticks}
use Rattle.core_turns.proofs.Again.{record_same}
use Rattle.core_turns.proofs.Marking.{in_place}
use Rattle.core_turns.proofs.Noted.{fresh_noted, is_stored, noted, noted_fresh, noted_state, noted_stored}
use Rattle.core_turns.proofs.TickKeeps.{KeepNumbers, content_kept, fixed_kept}
use Rattle.core_turns.proofs.TickStores.{has_number, slot_again_same, unstored, was_unchanged}

-- What a tick leaves alone of a world.

saved_by : (w : World) (core : ℕ) (c : Option Chosen) → (ticked w core c).saved ≡ w.saved
saved_by w core None = refl
saved_by w core (Some c) = refl

base_by : (w : World) (core : ℕ) (c : Option Chosen) → (ticked w core c).base ≡ w.base
base_by w core None = refl
base_by w core (Some c) = refl

released_by : (w : World) (core : ℕ) (c : Option Chosen) → (ticked w core c).released ≡ w.released
released_by w core None = refl
released_by w core (Some c) = refl

version_by : (w : World) (core : ℕ) (c : Option Chosen) → (ticked w core c).version ≡ w.version
version_by w core None = refl
version_by w core (Some c) = refl

-- What it stores to, and puts.

stored_before : (w : World) (core page : ℕ) (c : Option Chosen) → w.stored page ≡ true → (ticked w core c).stored page ≡ true
stored_before w core page None is = is
stored_before w core page (Some c) is = or_left (w.stored page) (stores_to w.now (effect_for w c) page) is

stored_now : (w : World) (core page : ℕ) (c : Option Chosen) → stores_for w c page ≡ true → (ticked w core c).stored page ≡ true
stored_now w core page None is = absurd (false≢true is)
stored_now w core page (Some c) is = or_right (w.stored page) (stores_to w.now (effect_for w c) page) is

-- an entry that is put on a channel is stored to its page
put_on_page : (output : Option Output) (channel : ℕ) → puts_on output channel ≡ true
    → puts_to_page output (page_of_channel channel) ≡ true
put_on_page None channel is = absurd (false≢true is)
put_on_page (Some output) channel is = is

puts_or_not : (w : World) (core channel : ℕ) (c : Option Chosen) → chosen w.now core ≡ c
    → (stores_for w c (page_of_channel channel) ≡ true) ⊎ ((tick w core).now.out channel ≡ w.now.out channel)
puts_or_not w core channel None is = inr (ap (λ (o : Option Chosen). (ticked w core o).now.out channel) is)
puts_or_not w core channel (Some c) is =
    let e = effect_for w c in
    elim (cases_Bool (puts_on e.output channel)) [
      | inl puts ↦ inl (or_right _ (puts_to_page e.output (page_of_channel channel)) (put_on_page e.output channel puts))
      | inr none ↦ inr ((tick_changes w core c is).out channel none)
    ]

-- The words of pages that are stored to.

in_pages : (test : ℕ → Bool) (old new : Memory) → StoresPages test old new → StoresInPages test (word_at old) (word_at new)
in_pages test old new h i = elim (h.words i) [
  | inl same ↦ inl same
  | inr on ↦ inr (record {
    page = on.page;
    word = on.word;
    passes = on.passes;
    inside = on.range;
    within = on.within;
    place = on.place;
  })
]

-- where words are stored to pages of which that was noted, these run as their frames read
abbrev pub StoredPagesRun : Type 0
StoredPagesRun = (r : Rooms) (f g : ℕ → Word) (v : ℕ) (c : Contents) (test : ℕ → Bool) → IsAtRest r
    → ((page : ℕ) → page < PAGES → test page ≡ true → IsStored (stage_of r.pages page)) → StoresInPages test f g
    → RoomsShow r f v c Open → RoomsShow r g v (record c { pages = after_stores test g c.pages }) Open

rest_after : (run : StoredPagesRun) (r : Rooms) (f g : ℕ → Word) (v : ℕ) (saved : Parts) (now : ℕ → Option (ℕ → ℕ)) (test : ℕ → Bool)
    → ((page : ℕ) → page < PAGES → test page ≡ true → IsStored (stage_of r.pages page)) → StoresInPages test f g
    → AreAtRest r f v saved now → AreAtRest r g v saved (after_stores test g now)
rest_after run r f g v saved now test noted_all stores h = record {
  shows = λ objects. run r f g v (record { saved = saved; objects = objects; pages = now }) test h.committer noted_all stores (h.shows objects);
  committer = h.committer;
  records = h.records;
  idle = h.idle;
  log = h.log;
}

parts_as : (base accepted base' accepted' : ℕ → ℕ) (saved : Parts) (s s' : State) → base' ≡ base → accepted' ≡ accepted → s' ≡ s
    → ArePartsOf base accepted saved s → ArePartsOf base' accepted' saved s'
parts_as base accepted base' accepted' saved s s' same_base same_accepted same h =
    subst (λ (x : State). ArePartsOf base' accepted' saved x) (sym same)
    (subst (λ (x : ℕ → ℕ). ArePartsOf base' x saved s) (sym same_accepted)
    (subst (λ (x : ℕ → ℕ). ArePartsOf x accepted saved s) (sym same_base) h))

-- A tick.

module _ (k : Running) (accepted : List ℕ) (m : Memory) (w : World) (h : Runs k accepted m w) (core : ℕ)
    (r : Rooms) (n : Calls) (m' : Memory) (after : Rest)
    (marks : (page : ℕ) → stage_of r.pages page ≡ noted (must_store w core page) (stage_of k.rooms.pages page))
    (writable : (page : ℕ) → must_store w core page ≡ true → IsWritable k page)
    (holds : Holds n accepted m' after (tick w core))
    (words : StoresPages (must_store w core) m m')
    (untold : KeepsUntold (objects_of k) n.runtime.objects)
    (unchanged : (i : ℕ) → (tick w core).changed i ≡ false
    → (slot_at n.runtime.objects i ≡ slot_at (objects_of k) i) × (list_at n.runtime.objects.links i ≡ list_at (objects_of k).links i)) where
  abbrev o : Objects
  o = objects_of k

  abbrev next : Running
  next = record k { calls = n; rooms = r }

  numbers_kept : KeepNumbers (state_of_objects o h.rest) (state_of_objects n.runtime.objects after)
  numbers_kept =
      subst (λ (s : State). KeepNumbers s (state_of_objects n.runtime.objects after)) h.holds.now
      (subst (λ (t : State). KeepNumbers w.now t) holds.now (tick_keeps_numbers w core h.holds.sound.placed.0))

  same_content : (page : ℕ) → is_content (record_at n.runtime.objects) page ≡ is_content (record_at o) page
  same_content page = content_kept o n.runtime.objects h.rest after page untold numbers_kept

  state_same : (page : ℕ) → state_of r.pages page ≡ state_of k.rooms.pages page
  state_same page = ap state_at (marks page) ∙ noted_state (must_store w core page) (stage_of k.rooms.pages page)

  slots_now : HasFixedSlots n.runtime.objects
  slots_now =
      fixed_kept o n.runtime.objects after untold (subst (λ (s : State). HasFixedObjects s) holds.now holds.sound.fixed.0)
      holds.scheduler h.slots

  fresh_now : AreFreshAlike r n.runtime.objects
  fresh_now page below =
      let was = h.fresh page below in
      let b = must_store w core page in
      let stage = stage_of k.rooms.pages page in (
        λ fresh. same_content page ∙ was.0 (noted_fresh b stage (sym (marks page) ∙ fresh)),
        λ none. marks page ∙ fresh_noted b stage (was.1 (sym (same_content page) ∙ none)),
      )

  stored_in_now : AreStoredIn r (tick w core)
  stored_in_now page below origin is =
      elim (noted_stored (must_store w core page) (stage_of k.rooms.pages page) origin (sym (marks page) ∙ is)) [
        | inl now ↦ stored_now w core page (chosen w.now core) now
        | inr before ↦ stored_before w core page (chosen w.now core) (h.stored page below origin before)
      ]

  not_noted : (page : ℕ) → must_store w core page ≡ false → was_fresh r page ≡ was_fresh k.rooms page
  not_noted page none =
      ap is_zeroed (marks page) ∙ ap (λ (b : Bool). is_zeroed (noted b (stage_of k.rooms.pages page))) none

  as_saved_now : AreAsSaved r n.runtime.objects h.saved (tick w core)
  as_saved_now i below same =
      let apart = subst (λ (s : State). AreApart s) h.holds.now h.holds.sound.apart.0 in
      let place = in_place o h.rest h.slots apart w h.holds.attached.rings i in
      let object = object_held k.calls accepted m h.rest w h.holds i in
      let again = slot_again_same k.rooms r h.rest.content (slot_at o i) (list_at o.links i) place
      (λ page has. not_noted page (unstored w core i page h.holds.sound
      (ap (λ (x : Option Object). has_number page (page_numbers x)) object ∙ has) same)) in
      record_same k.rooms r o n.runtime.objects i (ap (slot_again r) (unchanged i same).0 ∙ again) (unchanged i same).1
      ∙ h.unchanged i below (was_unchanged w core i same)

  has_content_now : (page : ℕ) → page < PAGES → must_store w core page ≡ true → is_content (record_at n.runtime.objects) page ≡ true
  has_content_now page below stores = same_content page ∙ by (is_content (record_at o) page) refl
    where
      by : (b : Bool) → is_content (record_at o) page ≡ b → b ≡ true
      by true is = refl
      by false is =
          let fresh = ap state_at ((h.fresh page below).1 is) in
          let never : state_at stages.Fresh ≡ Writable = sym fresh ∙ writable page stores in
          absurd (cc)

  waiting_now : AreWaitingThere n.runtime.objects (tick w core)
  waiting_now channel below waits =
      let page = page_of_channel channel in
      elim (puts_or_not w core channel (chosen w.now core) refl) [
        | inl stores ↦ has_content_now page (omega (arith, below)) stores
        | inr same ↦
            let released = ap (λ (x : ℕ → List (List ℕ)). length (x channel)) (released_by w core (chosen w.now core)) in
            let put = ap length same in
            same_content page ∙ h.waiting channel below (omega (arith, waits, released, put))
      ]

  prepared_now : ArePrepared next
  prepared_now c page below =
      let was = h.prepares c page below in
      (λ hand. state_same page ∙ was.0 hand, λ is. was.1 (sym (state_same page) ∙ is))

  stored_noted : (page : ℕ) → page < PAGES → must_store w core page ≡ true → IsStored (stage_of r.pages page)
  stored_noted page below is =
      subst IsStored (sym (marks page ∙ ap (λ (b : Bool). noted b (stage_of k.rooms.pages page)) is))
      (is_stored (stage_of k.rooms.pages page) (writable page is))

  home_now : AllHome m'
  home_now bank below = words.homes bank ∙ h.home bank below

  counted : accepted_count (tick w core) ≡ accepted_count w
  counted =
      let c = chosen w.now core in
      ap (λ (x : ℕ → ℕ). λ (channel : ℕ). x channel + length ((tick w core).released channel)) (base_by w core c)
      ∙ ap (λ (x : ℕ → List (List ℕ)). λ (channel : ℕ). w.base channel + length (x channel)) (released_by w core c)

  module _ (run : StoredPagesRun) (now : ℕ → Option (ℕ → ℕ)) (rest : AreAtRest r (word_at m) w.version h.saved now) where
    rest_now : AreAtRest r (word_at m') (tick w core).version h.saved (after_stores (must_store w core) (word_at m') now)
    rest_now =
        subst (λ (v : ℕ). AreAtRest r (word_at m') v h.saved (after_stores (must_store w core) (word_at m') now))
        (sym (version_by w core (chosen w.now core)))
        (rest_after run r (word_at m) (word_at m') w.version h.saved now (must_store w core) stored_noted (in_pages (must_store w core) m m' words) rest)

    runs_now : Runs next accepted m' (tick w core)
    runs_now =
        let c = chosen w.now core in record {
          rest = after;
          holds = holds;
          saved = h.saved;
          pages = after_stores (must_store w core) (word_at m') now;
          at_rest = rest_now;
          are = parts_as w.base (accepted_count w) (tick w core).base (accepted_count (tick w core)) h.saved w.saved (tick w core).saved
              (base_by w core c) counted (saved_by w core c) h.are;
          slots = slots_now;
          fresh = fresh_now;
          stored = stored_in_now;
          unchanged = as_saved_now;
          waiting = waiting_now;
          counts = λ channel below. h.counts channel below
              ∙ ap (λ (x : ℕ → ℕ). x channel + length (w.saved.out channel)) (sym (base_by w core c))
              ∙ ap (λ (s : State). (tick w core).base channel + length (s.out channel)) (sym (saved_by w core c));
          prepares = prepared_now;
          in_range = h.in_range;
          home = home_now;
        }

    stays : (page : ℕ) → page < PAGES → StaysOrIsStored k next page
    stays page below = elim (cases_Bool (must_store w core page)) [
      | inl is ↦ inr (marks page ∙ ap (λ (b : Bool). noted b (stage_of k.rooms.pages page)) is)
      | inr none ↦ inl (marks page ∙ ap (λ (b : Bool). noted b (stage_of k.rooms.pages page)) none)
    ]

    pub ticks : (reply : Reply) → prepared_by k core ≡ None
        → ((page : ℕ) → touches w core page ≡ true → IsAtHand k page) → tick_reply w core ≡ reply
        → (reply ≡ replies.Idle → m' ≡ m) → Ticks k accepted m w core reply next m'
    ticks reply free at_hand replied idle = record {
      free = free;
      touched = at_hand;
      writable = writable;
      reply_is = replied;
      runs = runs_now;
      prepares = refl;
      stages = stays;
      words = words;
      idle = idle;
    }
