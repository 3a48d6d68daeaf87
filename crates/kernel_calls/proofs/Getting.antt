-- What a get comes to.
use Rattle.std.specs.Prelude.{◌≡◌, ℕ, zero, suc, ◌+◌, ◌-◌, ◌/◌, ◌%◌, ◌<◌, ◌≤◌, ◌==◌, ◌||◌, nat_le, min, All, Bool, true, false, List, [], ◌∷◌, ◌++◌, length, drop, take, Option, None, is_some, slice_index_or}
use Rattle.std.specs.List.{list_all, range_with_len}
use Rattle.std.proofs.Common.{refl, ap, sym, subst, ◌∙◌, arith, inl, inr}
use Rattle.std.proofs.lemmas.Bool.{and_parts, eq-eqb, leb-true}
use Rattle.std.proofs.lemmas.List.{length-append, length-drop, length-take, take_all, take-append-drop}
use Rattle.std.proofs.lemmas.List.Elements.{All-head}
use Rattle.std.proofs.lemmas.List.Folds.{list_all-append}
use Rattle.sls_base.specs.declared.limits.TheConstants.{ENTRY_BYTES, FRAME_WORDS, PAGE_BYTES, PAGES}
use Rattle.sls_base.specs.declared.rights.TheConstants.{WRITE}
use Rattle.sls_base.specs.declared.thread.Thread.{Thread as ThreadRecord}
use Rattle.link_lists.specs.Lists.{list_at}
use Rattle.ipc_note.specs.declared.lists.TheConstants.{RUN_QUEUE}
use Rattle.mem_space.specs.declared.memory.MemPage.{MemPage}
use Rattle.pmem_model.specs.Memory.{Memory, word_at, SameHomes, count_up}
use Rattle.pmem_operations.specs.Operations.{IsBurst}
use Rattle.pmem_layout.specs.Places.{runtime_frame}
use Rattle.plain_state.specs.declared.objects.Region.{Region}
use Rattle.plain_state.specs.declared.calls.Call.TheVariants.{Get}
use Rattle.plain_state.specs.declared.calls.Refusal.TheVariants.{BadAddress, BadSize, Empty}
use Rattle.plain_state.specs.Objects.{Object, regions_of}
use Rattle.plain_state.specs.States.{State}
use Rattle.plain_state.specs.Memory.{is_covered, page_at, place_of, places_of, stores_at, with_stores}
use Rattle.plain_state.specs.Worlds.{World}
use Rattle.plain_state.specs.Effects.{Effect, answers}
use Rattle.plain_state.specs.Calls.{arg}
use Rattle.plain_state.specs.CallRefusals.{is_entry_length, refusal_of}
use Rattle.plain_state.specs.CallEffects.{effect_of_call}
use Rattle.plain_state.specs.Ticks.{stores_to}
use Rattle.plain_laws.specs.Bounds.{IsEntry}
use Rattle.kobj_table.specs.declared.objects.Objects.{Objects}
use Rattle.kobj_table.specs.Objects.{Rest, slot_at, object_at, state_of}
use Rattle.call_readings.specs.declared.devices.Devices.{Devices}
use Rattle.call_readings.specs.Kernel.{world_of}
use Rattle.page_bytes.specs.Bytes.{words_of, SeesPage}
use Rattle.kernel_calls.specs.declared.runtime.Runtime.{Runtime}
use Rattle.kernel_calls.specs.declared.done.Done.{Done}
use Rattle.kernel_calls.specs.Does.{Obeys, Tells}
use Rattle.kernel_calls.specs.Instructions.{Finds, KeepsRingPages, ShowsStored, StoresPages}
use Rattle.kernel_calls.specs.Moves.{is_stored_on, stores_from, HasStored, StoresOn}
use Rattle.kernel_calls.proofs.Unrefused.{MeetsBesides, not_false}
use Rattle.kernel_calls.proofs.Frames.{no_more}
use Rattle.kernel_calls.proofs.Entries.{entries_kept}
use Rattle.kernel_calls.proofs.Contents.{counted_again, regions_same, told_same}
use Rattle.kernel_calls.proofs.Shown.{few_places, placed_any, stored_any}
use Rattle.kernel_calls.proofs.Storing.{StandStill}
use Rattle.kernel_calls.proofs.StoredPages.{burst_stored, is_first, page_burst}

-- Bytes that are covered.

range_split : (at m n : ℕ) → range_with_len at (m + n) ≡ range_with_len at m ++ range_with_len (at + m) n
range_split at zero n =
    let count : 0 + n ≡ n = omega arith in
    let start : at ≡ at + 0 = omega arith in
    ap (range_with_len at) count ∙ ap (λ (a : ℕ). range_with_len a n) start
range_split at (suc m) n =
    let count : suc m + n ≡ suc (m + n) = omega arith in
    let beyond : at + 1 + m ≡ at + suc m = omega arith in
    ap (range_with_len at) count
    ∙ ap (λ (l : List ℕ). at ∷ l) (range_split (at + 1) m n ∙ ap (λ (a : ℕ). range_with_len (at + 1) m ++ range_with_len a n) beyond)

-- so is each part of them
pub covered_parts : (regions : List Region) (right at m n : ℕ) → is_covered regions right at (m + n) ≡ true
    → (is_covered regions right at m ≡ true) × (is_covered regions right (at + m) n ≡ true)
covered_parts regions right at m n all =
    let test : ℕ → Bool = λ address. is_some (place_of regions right address) in
    and_parts (list_all test (range_with_len at m)) (list_all test (range_with_len (at + m) n))
    (sym (ap (list_all test) (range_split at m n) ∙ list_all-append test (range_with_len at m) (range_with_len (at + m) n)) ∙ all)

pub covered_fewer : (regions : List Region) (right at fewer count : ℕ) → fewer ≤ count → is_covered regions right at count ≡ true → is_covered regions right at fewer ≡ true
covered_fewer regions right at fewer count less all =
    let whole : count ≡ fewer + (count - fewer) = omega (arith, less) in
    (covered_parts regions right at fewer (count - fewer) (sym (ap (is_covered regions right at) whole) ∙ all)).0

-- Bytes that are stored in two parts.

abbrev pub StoredInParts : Type 0
StoredInParts = (objects : ℕ → Option Object) (regions : List Region) (right at : ℕ) (first behind : List ℕ) → is_covered regions right at (length first) ≡ true
    → with_stores objects (stores_at (places_of regions right at (length first + length behind)) (first ++ behind))
    ≡ with_stores (with_stores objects (stores_at (places_of regions right at (length first)) first)) (stores_at (places_of regions right (at + length first) (length behind)) behind)

pub joined : StoredInParts → (o : Objects) (rest : Rest) (space at : ℕ) (first behind : List ℕ) (m : Memory)
    → is_covered (regions_of (object_at rest.content o space)) WRITE at (length first) ≡ true → (content : ℕ → ℕ → ℕ)
    → state_of o (record rest { content = content }) ≡ record (state_of o rest) { objects = with_stores (state_of o rest).objects (stores_from (object_at rest.content o) space at first) }
    → KeepsRingPages rest.content content → HasStored o (record rest { content = content }) space (at + length first) behind m → HasStored o rest space at (first ++ behind) m
joined law o rest space at first behind m covered content one kept two =
    let s : State = state_of o rest in
    let middle : State = state_of o (record rest { content = content }) in
    let regions = regions_of (object_at rest.content o space) in
    let after : List Region → State → State =
    λ r t. record t { objects = with_stores t.objects (stores_at (places_of r WRITE (at + length first) (length behind)) behind) } in
    let whole : (ℕ → Option Object) → State = λ objects. record s { objects = objects } in
    record {
      content = two.content;
      reads = two.reads;
      state = two.state ∙ ap (λ (r : List Region). after r middle) (regions_same content rest.content o space) ∙ ap (after regions) one
          ∙ ap whole (sym (law s.objects regions WRITE at first behind covered)
          ∙ ap (λ (n : ℕ). with_stores s.objects (stores_at (places_of regions WRITE at n) (first ++ behind))) (sym (length-append first behind)));
      rings = λ channel offset below. two.rings channel offset below ∙ kept channel offset below;
    }

-- What is known of a get that isn't refused.

-- an input that waits first has a form
first_formed : (inputs : List (List ℕ)) → (length inputs == 0) ≡ false → All IsEntry inputs → IsEntry (slice_index_or inputs 0 [])
first_formed [] some forms = absurd (cc)
first_formed (first ∷ inputs) some forms = All-head IsEntry first inputs forms

module _ (besides : MeetsBesides) (o : Objects) (rest : Rest) (w : World) (me : ℕ) (thread : ThreadRecord) (unrefused : refusal_of (world_of o rest w) me thread Get ≡ None) where
  pub room_known : (1 ≤ arg thread 2) × (arg thread 2 ≤ ENTRY_BYTES)
  room_known =
      let whole = not_false (is_entry_length (arg thread 2)) (besides (world_of o rest w) me thread Get BadSize (λ x. cc) unrefused) in
      let parts = and_parts (nat_le 1 (arg thread 2)) (nat_le (arg thread 2) ENTRY_BYTES) whole in
      (leb-true 1 (arg thread 2) parts.0, leb-true (arg thread 2) ENTRY_BYTES parts.1)

  buffer_known : is_covered (regions_of (object_at rest.content o thread.space)) WRITE (arg thread 1) (min (arg thread 2) ENTRY_BYTES) ≡ true
  unfolding world_of state_of
  buffer_known =
      not_false (is_covered (regions_of (object_at rest.content o thread.space)) WRITE (arg thread 1) (min (arg thread 2) ENTRY_BYTES))
      (besides (world_of o rest w) me thread Get BadAddress (λ x. cc) unrefused)

  -- some input waits, and it has a form
  pub input_known : (input : List ℕ) → slice_index_or rest.inputs 0 [] ≡ input → All IsEntry rest.inputs → IsEntry input
  unfolding world_of state_of
  input_known input is forms = subst IsEntry is (first_formed rest.inputs (besides (world_of o rest w) me thread Get Empty (λ x. cc) unrefused) forms)

  -- each byte of an input for which there is room may be written, whatever the content of pages is
  pub input_covered : (count : ℕ) (content : ℕ → ℕ → ℕ) → count ≤ arg thread 2 → is_covered (regions_of (object_at content o thread.space)) WRITE (arg thread 1) count ≡ true
  input_covered count content fits =
      let known = room_known.1 in
      ap (λ (regions : List Region). is_covered regions WRITE (arg thread 1) count) (regions_same content rest.content o thread.space)
      ∙ covered_fewer (regions_of (object_at rest.content o thread.space)) WRITE (arg thread 1) count (min (arg thread 2) ENTRY_BYTES) (omega (arith, fits, known)) buffer_known

-- What it does.

-- the effect of a get that stores these bytes of an input
abbrev pub got : State → ThreadRecord → List ℕ → List ℕ → Effect
got s thread input bytes = record (answers thread (length input)) {
  stores = stores_from s.objects thread.space (arg thread 1) bytes;
  takes = true;
}

-- where they are those for which there is room
pub got_is : (o : Objects) (rest : Rest) (w : World) (me : ℕ) (thread : ThreadRecord) (input bytes : List ℕ) → slice_index_or rest.inputs 0 [] ≡ input →
    bytes ≡ take (min (length input) (arg thread 2)) input → effect_of_call (world_of o rest w) me thread Get ≡ got (state_of o rest) thread input bytes
unfolding world_of state_of effect_of_call
got_is o rest w me thread input bytes first is =
    let count = min (length input) (arg thread 2) in
    let size : length bytes ≡ count = ap length is ∙ length-take count input ∙ (omega arith) in
    let objects = object_at rest.content o in
    let by : ℕ → List ℕ → Effect = λ n stored.
    record (answers thread (length input)) { stores = stores_at (places_of (regions_of (objects thread.space)) WRITE (arg thread 1) n) stored; takes = true } in
    let of_first : List ℕ → Effect = λ l.
    record (answers thread (length l)) {
      stores = stores_at (places_of (regions_of (objects thread.space)) WRITE (arg thread 1) (min (length l) (arg thread 2))) (take (min (length l) (arg thread 2)) l);
      takes = true;
    } in
    ap of_first first ∙ ap (by count) (sym is) ∙ ap (λ (n : ℕ). by n bytes) (sym size)

-- what of the state doesn't stand in the objects afterwards
abbrev pub left : Rest → (ℕ → ℕ → ℕ) → Rest
left rest content = record { content = content; out = rest.out; inputs = drop 1 rest.inputs }

pub got_obeys : StandStill → (k : Runtime) (devices : Devices) (old : Memory) (rest : Rest) (w : World) (m : Memory) (thread : ThreadRecord) (input bytes : List ℕ) (done : Done) →
    Finds k devices input old rest w → (h : HasStored k.objects rest thread.space (arg thread 1) bytes m) → Tells done (record (answers thread (length input)) { takes = true }) →
    Obeys k k rest (left rest h.content) m w (got (state_of k.objects rest) thread input bytes) done
unfolding world_of state_of
got_obeys law k devices old rest w m thread input bytes done finds h tells = record {
  objects = λ i. ap (λ (s : State). s.objects i) h.state;
  queue = sym (no_more (list_at k.objects.links RUN_QUEUE));
  scheduler = refl;
  out = refl;
  inputs = refl;
  counted = counted_again k.numbers k.objects k.objects rest (left rest h.content) w (λ i. told_same h.content rest.content k.objects i) finds.found.counted;
  rings = λ i. entries_kept (slot_at k.objects i) (world_of k.objects (left rest h.content) w) (world_of k.objects rest w) (λ channel. refl) (finds.found.attached.rings i);
  content = h.reads;
  entries = law rest.content h.content w rest.out h.rings finds.entries;
  caller = record { regs = tells.regs; goes = tells.goes; takes = tells.takes; wishes = tells.wishes };
}

-- To which pages it stores.

or_none : (b : Bool) → b ≡ true → (b || false) ≡ true
or_none true is = refl
or_none false is = absurd (cc)

-- what is stored to pages that pass a test is stored to pages that pass another, where all pass it that pass the first
pub more_pass : (test other : ℕ → Bool) (old new : Memory) → ((page : ℕ) → test page ≡ true → other page ≡ true) → StoresPages test old new → StoresPages other old new
more_pass test other old new more s = record {
  words = λ at. elim (s.words at) [
    | inl same ↦ inl same
    | inr on ↦ inr (record { page = on.page; word = on.word; passes = more on.page on.passes; range = on.range; within = on.within; place = on.place })
  ];
  durable = s.durable;
  homes = s.homes;
  counts = s.counts;
  ops = s.ops;
  operations = s.operations;
}

pub got_stores : (s : State) (thread : ThreadRecord) (input bytes : List ℕ) (old new : Memory) →
    StoresPages (is_stored_on s.objects (stores_from s.objects thread.space (arg thread 1) bytes)) old new → StoresPages (stores_to s (got s thread input bytes)) old new
got_stores s thread input bytes old new stores =
    more_pass (is_stored_on s.objects (stores_from s.objects thread.space (arg thread 1) bytes)) (stores_to s (got s thread input bytes)) old new (λ page on. or_none _ on) stores

-- the page at one of the addresses is stored to
pub run_stores : (o : Objects) (rest : Rest) (space at : ℕ) (bytes : List ℕ) (k : ℕ) (page : MemPage) → k < length bytes → SeesPage o space WRITE (at + k) page →
    is_stored_on (object_at rest.content o) (stores_from (object_at rest.content o) space at bytes) page.page ≡ true
run_stores o rest space at bytes k page below sees =
    let objects = object_at rest.content o in
    let regions = regions_of (objects space) in
    let is = is_first objects (place_of regions WRITE (at + k)) rest.content page (sees rest.content) in
    let few = few_places regions WRITE at (length bytes) in
    stored_any (λ place. (page_at objects place).number == page.page) (places_of regions WRITE at (length bytes)) bytes few
    (placed_any (λ place. (page_at objects place).number == page.page) regions WRITE at (length bytes) k is.0 below is.1 (eq-eqb (page_at objects is.0).number page.page is.2))

-- how many words are stored of a page
words_within : (at count : ℕ) → 1 ≤ count → at + count ≤ PAGE_BYTES → at / 8 + words_of at count ≤ FRAME_WORDS
words_within at count some fits = omega (arith, some, fits)

some_words : (at count : ℕ) → 1 ≤ count → 1 ≤ words_of at count
some_words at count some = omega (arith, some)

-- a store on a page is one burst
pub is_burst : (o : Objects) (space at count : ℕ) (old new : Memory) → 1 ≤ count → at % PAGE_BYTES + count ≤ PAGE_BYTES → (s : StoresOn o space at count old new) → s.page.page < PAGES → IsBurst (word_at old) (word_at new)
is_burst o space at count old new some fits s range =
    page_burst s.page.page (at % PAGE_BYTES / 8) (words_of (at % PAGE_BYTES) count) old new range (some_words (at % PAGE_BYTES) count some) (words_within (at % PAGE_BYTES) count some fits) s.words

module _ (test : ℕ → Bool) (o : Objects) (rest : Rest) (space : ℕ) where
  -- so by one burst on a page that passes the test
  pub one_burst : (at count : ℕ) (old new : Memory) → 1 ≤ count → at % PAGE_BYTES + count ≤ PAGE_BYTES → (s : StoresOn o space at count old new) → test s.page.page ≡ true → s.page.page < PAGES → StoresPages test old new
  one_burst at count old new some fits s passes range =
      burst_stored test s.page.page (at % PAGE_BYTES / 8) (words_of (at % PAGE_BYTES) count) passes range (some_words (at % PAGE_BYTES) count some) (words_within (at % PAGE_BYTES) count some fits) old new s.words

-- and by two, one after the other
pub two_bursts : (test : ℕ → Bool) (old between new : Memory) → StoresPages test old between → StoresPages test between new → between.ops ≡ count_up old.ops → new.ops ≡ count_up between.ops →
    IsBurst (word_at old) (word_at between) → IsBurst (word_at between) (word_at new) → StoresPages test old new
two_bursts test old between new one two first second burst again = record {
  words = λ at. elim (two.words at) [
    | inl same ↦ elim (one.words at) [
      | inl before ↦ inl (same ∙ before)
      | inr on ↦ inr on
    ]
    | inr on ↦ inr on
  ];
  durable = λ at. two.durable at ∙ one.durable at;
  homes = λ k. two.homes k ∙ one.homes k;
  counts = two.counts ∙ ap (λ (m : Memory). record m { banks = new.banks; ops = new.ops }) one.counts;
  ops = inr (inr (second ∙ ap count_up first));
  operations = λ core. inr (word_at between, inl burst, inr (word_at new, inl again, λ at. refl));
}

-- where the same frames are at home, a space shows the same pages
pub still_shown : (o : Objects) (space at : ℕ) (old new : Memory) → SameHomes old new → ShowsStored o old space at → ShowsStored o new space at
still_shown o space at old new same shows = record {
  home = λ content page seen below. same (1 + runtime_frame page) ∙ shows.home content page seen below;
  stored = shows.stored;
}

-- Bytes that are all stored on one page.

pub covered_found : (covered found : Bool) → covered ≡ found → covered ≡ true → found ≡ false → ⊥
covered_found true true same is none = absurd (cc)
covered_found true false same is none = absurd (cc)
covered_found false found same is none = absurd (cc)

-- the parts of bytes from some of them on
pub behind_is : (bytes : List ℕ) (room : ℕ) → take (length bytes - room) (drop room bytes) ≡ drop room bytes
behind_is bytes room = take_all (length bytes - room) (drop room bytes) (omega (arith, length-drop room bytes))

pub parts_are : (bytes : List ℕ) (room : ℕ) → take room bytes ++ take (length bytes - room) (drop room bytes) ≡ bytes
parts_are bytes room = ap (λ (l : List ℕ). take room bytes ++ l) (behind_is bytes room) ∙ take-append-drop room bytes

pub first_length : (bytes : List ℕ) (room : ℕ) → room ≤ length bytes → length (take room bytes) ≡ room
first_length bytes room fits = length-take room bytes ∙ (omega (arith, fits))

pub behind_length : (bytes : List ℕ) (room : ℕ) → length (take (length bytes - room) (drop room bytes)) ≡ length bytes - room
behind_length bytes room = ap length (behind_is bytes room) ∙ length-drop room bytes
