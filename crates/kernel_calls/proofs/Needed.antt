-- Where a tick is prepared, so is what its thread does.
use Rattle.std.specs.Prelude.{◌≡◌, ℕ, ◌+◌, ◌%◌, ◌<◌, ◌≤◌, ◌==◌, ◌||◌, ◌&&◌, ◌↔◌, ◌⊎◌, Bool, true, false, if◌then◌else◌, List, [], ◌∷◌, All, find, length, map, Option, Some, None, option_map, is_some, slice_get, slice_index_or}
use Rattle.std.specs.List.{list_any, range_with_len}
use Rattle.std.proofs.Common.{refl, sym, ap, ◌∙◌, subst, arith, inl, inr, add-zero, eq-eqb}
use Rattle.std.proofs.lemmas.Bool.{cases_Bool, cases_lt, eqb-true}
use Rattle.std.proofs.lemmas.List.{length-map}
use Rattle.std.proofs.lemmas.List.Elements.{All-cons, All-head, All-tail, All-nil}
use Rattle.std.proofs.lemmas.List.Folds.{list_any_at}
use Rattle.sls_base.specs.declared.limits.TheConstants.{CORE_SLICE, INSTRUCTION_BYTES, PAGE_BYTES, PAGES}
use Rattle.sls_base.specs.declared.rights.TheConstants.{READ, WRITE, EXECUTE}
use Rattle.sls_base.specs.declared.thread.Thread.{Thread as ThreadRecord}
use Rattle.sls_base.specs.declared.thread.ThreadState.{ThreadState}
use Rattle.sls_base.specs.declared.thread.ThreadState.TheVariants.{Ready, Running}
use Rattle.link_lists.specs.Lists.{list_at}
use Rattle.rv_table.specs.declared.Instr.{Instr}
use Rattle.rv_table.specs.Decoded.{decoded}
use Rattle.rv_table.specs.Table.{IsInstr, IsRow}
use Rattle.rv_core.specs.Effect.{effect, size_of}
use Rattle.rv_core.specs.Ranges.{AreRegs, IsPlan}
use Rattle.rv_core.specs.declared.registers.Plan.{Plan}
use Rattle.rv_core.specs.declared.registers.Plan.TheVariants.{Load, Store, Call}
use Rattle.rv_core.specs.declared.registers.Regs.{Regs}
use Rattle.mem_space.specs.declared.memory.MemPage.{MemPage}
use Rattle.pmem_model.specs.Memory.{Memory}
use Rattle.plain_state.specs.declared.effect.Place.{Place}
use Rattle.plain_state.specs.declared.objects.Occupant.{Occupant}
use Rattle.plain_state.specs.declared.calls.Call.TheVariants.{Put, Get}
use Rattle.plain_state.specs.declared.objects.Region.{Region}
use Rattle.plain_state.specs.Objects.{Object, Page}
use Rattle.plain_state.specs.States.{State, thread_at, thread_of}
use Rattle.plain_state.specs.Worlds.{World}
use Rattle.plain_state.specs.Memory.{covers, is_covered, page_at, byte_at, place_in, place_of, places_of, number_of_bytes}
use Rattle.plain_state.specs.Effects.{regs_of}
use Rattle.plain_state.specs.Calls.{arg, call_named}
use Rattle.plain_state.specs.CallRefusals.{refusal_of}
use Rattle.plain_state.specs.Instructions.{seen_by, fetched, value_at}
use Rattle.plain_state.specs.Ticks.{Chosen, chosen, front, own_or_front, effect_for, loads_from, stores_to, touches, touches_for, must_store, stores_for}
use Rattle.plain_laws.specs.OnePage.{place_beside}
use Rattle.plain_laws.specs.Bounds.{HasThreads, IsThread}
use Rattle.plain_laws.specs.Places.{IsPlaced, state_of as does}
use Rattle.plain_laws.specs.Sound.{NameWhatIs}
use Rattle.kobj_table.specs.declared.objects.Objects.{Objects}
use Rattle.kobj_table.specs.declared.slot.Slot.{Slot}
use Rattle.kobj_table.specs.Slots.{memory_in, object_of, page_of, bytes_of}
use Rattle.kobj_table.specs.Objects.{Rest, slot_at, object_at, state_of}
use Rattle.call_readings.specs.Content.{is_page_home, Reads}
use Rattle.call_readings.specs.Kernel.{world_of, IsCounted, IsAttached, IsOfWorld}
use Rattle.call_readings.specs.Need.{has_page, IsAtHome}
use Rattle.page_bytes.specs.Bytes.{SeesPage}
use Rattle.kernel_calls.specs.declared.calls.Calls.{Calls}
use Rattle.kernel_calls.specs.Kernel.{Holds, devices_of}
use Rattle.kernel_calls.specs.Instructions.{plan_of, ShowsHome}
use Rattle.kernel_calls.specs.Instructions.{ShowsStored}
use Rattle.kernel_calls.specs.Needed.{has_fresh, IsPrepared, HasItsPages, HasPutPages, HasGetPages, count_got}
use Rattle.kernel_calls.proofs.Threads.{is_thread_slot}
use Rattle.kernel_calls.proofs.Ticks.{front_ready, own_running}
use Rattle.kernel_calls.proofs.Touched.{place_within as stands_within}
use Rattle.kernel_calls.proofs.Shown.{IsCoveredByOne, no_mem, mem_at, regions_in, page_is, pages_are, shown_is, seen_is, shows_home, placed_any, covered_there, on_page, plan_instr, fetch_loads, load_loads, store_stores, put_loads, put_stores, get_stores}

-- The word at a pc is the same by any content that the memory has.

bytes_alike : (m : Memory) (first second : ℕ → ℕ → ℕ) → Reads first m → Reads second m → (number : ℕ) (fresh : Bool) (offset : ℕ) → (number < PAGES → is_page_home m number ≡ true) →
    bytes_of first number fresh offset ≡ bytes_of second number fresh offset
bytes_alike m first second a b number true offset home = refl
bytes_alike m first second a b number false offset home =
    elim (cases_lt number PAGES) [
      | inl below ↦ elim (cases_lt offset PAGE_BYTES) [
        | inl within ↦ a.home number offset below within (home below) ∙ sym (b.home number offset below within (home below))
        | inr past ↦ a.end number offset past ∙ sym (b.end number offset past)
      ]
      | inr none ↦ a.none number offset none ∙ sym (b.none number offset none)
    ]

abbrev pub StandBeside : Type 0
StandBeside = (regions : List Region) (region : Region) (right at count : ℕ) → at % PAGE_BYTES + count ≤ PAGE_BYTES → find (covers right at) regions ≡ Some region →
    places_of regions right at count ≡ map (place_beside at region) (range_with_len 0 count)

module _ (o : Objects) (m : Memory) (thread : ThreadRecord) where
  -- what comes of it, where the space has these regions
  abbrev plan_by : (ℕ → ℕ → ℕ) → List Region → Option Plan
  plan_by content regions =
      if is_covered regions EXECUTE thread.pc INSTRUCTION_BYTES
      then option_map (λ instr. effect instr (regs_of thread)) (decoded (number_of_bytes (map (byte_at (object_at content o)) (places_of regions EXECUTE thread.pc INSTRUCTION_BYTES))))
      else None

  byte_same : (first second : ℕ → ℕ → ℕ) → Reads first m → Reads second m → (place : Place) → ((mem_at o place).page < PAGES → is_page_home m (mem_at o place).page ≡ true) →
      byte_at (object_at first o) place ≡ byte_at (object_at second o) place
  byte_same first second a b place home =
      ap (λ (p : Page). p.byte place.offset) (page_is o first place)
      ∙ bytes_alike m first second a b (mem_at o place).page (mem_at o place).fresh place.offset home
      ∙ sym (ap (λ (p : Page). p.byte place.offset) (page_is o second place))

  bytes_same : (first second : ℕ → ℕ → ℕ) → Reads first m → Reads second m → (region : Region) → ((mem_at o (place_in thread.pc region)).page < PAGES → is_page_home m (mem_at o (place_in thread.pc region)).page ≡ true) → (ks : List ℕ) →
      map (byte_at (object_at first o)) (map (place_beside thread.pc region) ks) ≡ map (byte_at (object_at second o)) (map (place_beside thread.pc region) ks)
  bytes_same first second a b region home [] = refl
  bytes_same first second a b region home (k ∷ ks) =
      ap (λ (byte : ℕ). byte ∷ map (byte_at (object_at first o)) (map (place_beside thread.pc region) ks)) (byte_same first second a b (place_beside thread.pc region k) home)
      ∙ ap (λ (bytes : List ℕ). byte_at (object_at second o) (place_beside thread.pc region k) ∷ bytes) (bytes_same first second a b region home ks)

  module _ (covered : IsCoveredByOne) (beside : StandBeside) (aligned : thread.pc % INSTRUCTION_BYTES ≡ 0) (home : ShowsHome o m thread.space EXECUTE thread.pc) where
    same_by : (first second : ℕ → ℕ → ℕ) → Reads first m → Reads second m → (found : Option Region) → find (covers EXECUTE thread.pc) (regions_in o thread.space) ≡ found →
        plan_by first (regions_in o thread.space) ≡ plan_by second (regions_in o thread.space)
    same_by first second a b None is =
        let none : is_covered (regions_in o thread.space) EXECUTE thread.pc INSTRUCTION_BYTES ≡ false =
        covered (regions_in o thread.space) EXECUTE thread.pc INSTRUCTION_BYTES (omega arith) (omega (arith, aligned)) ∙ ap (λ (r : Option Region). is_some r) is in
        rw none refl
    same_by first second a b (Some region) is =
        let places = beside (regions_in o thread.space) region EXECUTE thread.pc INSTRUCTION_BYTES (omega (arith, aligned)) is in
        let shown = seen_is o first thread.space EXECUTE thread.pc ∙ ap (λ (r : Option Region). option_map (λ place. (mem_at o place).page) (option_map (place_in thread.pc) r)) is in
        ap (λ (places : List Place). if is_covered (regions_in o thread.space) EXECUTE thread.pc INSTRUCTION_BYTES
        then option_map (λ instr. effect instr (regs_of thread)) (decoded (number_of_bytes (map (byte_at (object_at first o)) places))) else None) places
        ∙ ap (λ (bytes : List ℕ). if is_covered (regions_in o thread.space) EXECUTE thread.pc INSTRUCTION_BYTES
        then option_map (λ instr. effect instr (regs_of thread)) (decoded (number_of_bytes bytes)) else None)
        (bytes_same first second a b region (home first (mem_at o (place_in thread.pc region)).page shown) (range_with_len 0 INSTRUCTION_BYTES))
        ∙ sym (ap (λ (places : List Place). if is_covered (regions_in o thread.space) EXECUTE thread.pc INSTRUCTION_BYTES
        then option_map (λ instr. effect instr (regs_of thread)) (decoded (number_of_bytes (map (byte_at (object_at second o)) places))) else None) places)

    -- so the plan is the same by any content that the memory has
    pub plan_alike : (first second : Rest) → Reads first.content m → Reads second.content m → plan_of (state_of o first) thread ≡ plan_of (state_of o second) thread
    unfolding state_of
    plan_alike first second a b =
        ap (λ (regions : List Region). plan_by first.content regions) (shown_is o first.content thread.space)
        ∙ same_by first.content second.content a b (find (covers EXECUTE thread.pc) (regions_in o thread.space)) refl
        ∙ sym (ap (λ (regions : List Region). plan_by second.content regions) (shown_is o second.content thread.space))

-- The page of a place is one of its memory object.
place_within : (o : Objects) (rest : Rest) → NameWhatIs (state_of o rest) → (space right at : ℕ) (place : Place) → place_of (regions_in o space) right at ≡ Some place →
    place.page < length (memory_in (slot_at o place.memory)).pages.items
unfolding state_of
place_within o rest names space right at place is =
    subst (λ (n : ℕ). place.page < n)
    (ap length (pages_are rest.content (slot_at o place.memory) (list_at o.links place.memory)) ∙ length-map (memory_in (slot_at o place.memory)).pages.items (page_of rest.content))
    (stands_within (state_of o rest) names space right at place (ap (λ (regions : List Region). place_of regions right at) (shown_is o rest.content space) ∙ is))

-- A fresh page that a space shows is one that an object has.

has_fresh_at : (slot : Slot) (k : ℕ) → k < length (memory_in slot).pages.items → (slice_index_or (memory_in slot).pages.items k no_mem).fresh ≡ true →
    has_fresh slot (slice_index_or (memory_in slot).pages.items k no_mem).page ≡ true
has_fresh_at (Slot.Memory memory) k below fresh =
    let number = (slice_index_or memory.pages.items k no_mem).page in
    list_any_at (λ p. (p.page == number) && p.fresh) memory.pages.items k no_mem below (rw (eq-eqb number number refl, fresh) refl)
has_fresh_at Slot.Empty k below fresh = absurd (omega (arith, below))
has_fresh_at (Slot.Group group) k below fresh = absurd (omega (arith, below))
has_fresh_at (Slot.Thread thread) k below fresh = absurd (omega (arith, below))
has_fresh_at (Slot.Space space) k below fresh = absurd (omega (arith, below))
has_fresh_at (Slot.Connection connection) k below fresh = absurd (omega (arith, below))
has_fresh_at (Slot.Notification note) k below fresh = absurd (omega (arith, below))
has_fresh_at (Slot.Ring ring) k below fresh = absurd (omega (arith, below))
has_fresh_at (Slot.Scheduler cores) k below fresh = absurd (omega (arith, below))

-- a content in which each page has ones
abbrev ones : ℕ → ℕ → ℕ
ones page offset = 1

same_fresh : (a b : Bool) (x y : ℕ) → a ≡ true → bytes_of ones x a 0 ≡ bytes_of ones y b 0 → b ≡ true
same_fresh a true x y is e = refl
same_fresh true false x y is e = absurd (omega (arith, e))
same_fresh false false x y is e = absurd (cc)

fresh_shown : (o : Objects) (space right at : ℕ) (page : MemPage) → SeesPage o space right at page → page.fresh ≡ true → (place : Place) × (place_of (regions_in o space) right at ≡ Some place) × ((mem_at o place).fresh ≡ true)
fresh_shown o space right at page sees fresh =
    by_place (place_of (regions_in o space) right at) refl
    (sees ones ∙ ap (λ (regions : List Region). option_map (page_at (object_at ones o)) (place_of regions right at)) (shown_is o ones space))
  where
    by_place : (found : Option Place) → place_of (regions_in o space) right at ≡ found → Some (page_of ones page) ≡ option_map (page_at (object_at ones o)) found →
        (place : Place) × (place_of (regions_in o space) right at ≡ Some place) × ((mem_at o place).fresh ≡ true)
    by_place None is e = absurd (cc)
    by_place (Some place) is e =
        let same : page_of ones page ≡ page_at (object_at ones o) place = cc in
        (place, is, same_fresh page.fresh (mem_at o place).fresh page.page (mem_at o place).page fresh (ap (λ (p : Page). p.byte 0) (same ∙ page_is o ones place)))

or_true : (b : Bool) → (b || true) ≡ true
or_true true = refl
or_true false = refl

-- A tick that is prepared.

module _ (covered : IsCoveredByOne) (o : Objects) (rest : Rest) (m : Memory) (w : World) (core : ℕ) (c : Chosen) (chosen_is : chosen (state_of o rest) core ≡ Some c)
    (prepared : IsPrepared o m (world_of o rest w) core) where
  abbrev thread : ThreadRecord
  thread = thread_at (state_of o rest) c.occupant.thread

  loads_home : (page : ℕ) → loads_from (state_of o rest) (effect_for (world_of o rest w) c) page ≡ true → is_page_home m page ≡ true
  unfolding world_of
  loads_home page loads = prepared.home page (ap (λ (x : Option Chosen). touches_for (world_of o rest w) x page) chosen_is ∙ rw loads refl)

  stores_home : (page : ℕ) → stores_to (state_of o rest) (effect_for (world_of o rest w) c) page ≡ true → is_page_home m page ≡ true
  unfolding world_of
  stores_home page stores = prepared.home page (ap (λ (x : Option Chosen). touches_for (world_of o rest w) x page) chosen_is ∙ rw stores (or_true (loads_from (state_of o rest) (effect_for (world_of o rest w) c) page)))

  not_fresh : (page : ℕ) → stores_to (state_of o rest) (effect_for (world_of o rest w) c) page ≡ true → (i : ℕ) → has_fresh (slot_at o i) page ≡ true → ⊥
  unfolding world_of
  not_fresh page stores i fresh = prepared.stored page (ap (λ (x : Option Chosen). stores_for (world_of o rest w) x page) chosen_is ∙ stores) (i, fresh)

  -- what the space of the thread shows
  seen_regions : seen_by (state_of o rest) thread ≡ regions_in o thread.space
  unfolding state_of
  seen_regions = shown_is o rest.content thread.space

  -- a place is on its page
  abbrev on : ℕ → Place → Bool
  on number place = (page_at (state_of o rest).objects place).number == number

  on_its_page : (place : Place) → on (mem_at o place).page place ≡ true
  unfolding state_of
  on_its_page place = ap (λ (p : Page). p.number == (mem_at o place).page) (page_is o rest.content place) ∙ eq-eqb (mem_at o place).page (mem_at o place).page refl

  some_on : (right at count k : ℕ) (place : Place) → k < count → place_of (regions_in o thread.space) right (at + k) ≡ Some place →
      list_any (on (mem_at o place).page) (places_of (seen_by (state_of o rest) thread) right at count) ≡ true
  some_on right at count k place below is =
      placed_any (on (mem_at o place).page) (seen_by (state_of o rest) thread) right at count k place below (ap (λ (regions : List Region). place_of regions right (at + k)) seen_regions ∙ is) (on_its_page place)

  first_on : (right at count : ℕ) (place : Place) → 1 ≤ count → place_of (regions_in o thread.space) right at ≡ Some place →
      list_any (on (mem_at o place).page) (places_of (seen_by (state_of o rest) thread) right at count) ≡ true
  first_on right at count place some is = some_on right at count 0 place (omega (arith, some)) (rw add-zero is)

  all_covered : (right at count : ℕ) (place : Place) → 1 ≤ count → at % PAGE_BYTES + count ≤ PAGE_BYTES → place_of (regions_in o thread.space) right at ≡ Some place →
      is_covered (seen_by (state_of o rest) thread) right at count ≡ true
  all_covered right at count place some fits is =
      covered_there covered (seen_by (state_of o rest) thread) right at count place some fits (ap (λ (regions : List Region). place_of regions right at) seen_regions ∙ is)

  pub fetch_home : thread.pc % INSTRUCTION_BYTES ≡ 0 → ShowsHome o m thread.space EXECUTE thread.pc
  unfolding world_of
  fetch_home aligned = shows_home o m thread.space EXECUTE thread.pc (λ place is. loads_home (mem_at o place).page
      (fetch_loads (world_of o rest w) c.occupant.thread thread (on (mem_at o place).page)
      (all_covered EXECUTE thread.pc INSTRUCTION_BYTES place (omega arith) (omega (arith, aligned)) is)
      (first_on EXECUTE thread.pc INSTRUCTION_BYTES place (omega arith) is)))

  pub load_home : (op rd at : ℕ) → plan_of (state_of o rest) thread ≡ Some (Load op rd at) → at % size_of op ≡ 0 → ShowsHome o m thread.space READ at
  unfolding world_of
  load_home op rd at plan aligned =
      let size = on_page op at aligned in
      shows_home o m thread.space READ at (λ place is. loads_home (mem_at o place).page
      (load_loads (world_of o rest w) c.occupant.thread thread (on (mem_at o place).page) op rd at plan
      (all_covered READ at (size_of op) place size.0 size.1 is) (first_on READ at (size_of op) place size.0 is)))

  store_reaches : (op at value : ℕ) → plan_of (state_of o rest) thread ≡ Some (Store op at value) → at % size_of op ≡ 0 → (place : Place) → place_of (regions_in o thread.space) WRITE at ≡ Some place →
      stores_to (state_of o rest) (effect_for (world_of o rest w) c) (mem_at o place).page ≡ true
  unfolding world_of
  store_reaches op at value plan aligned place is =
      let size = on_page op at aligned in
      rw (store_stores (world_of o rest w) c.occupant.thread thread (on (mem_at o place).page) op at value plan
      (all_covered WRITE at (size_of op) place size.0 size.1 is) (first_on WRITE at (size_of op) place size.0 is)) refl

  -- an address to whose page it stores
  stored_shown : NameWhatIs (state_of o rest) → (at : ℕ) → ((place : Place) → place_of (regions_in o thread.space) WRITE at ≡ Some place →
      stores_to (state_of o rest) (effect_for (world_of o rest w) c) (mem_at o place).page ≡ true) → ShowsStored o m thread.space at
  stored_shown names at reaches = record {
    home = shows_home o m thread.space WRITE at (λ place is. stores_home (mem_at o place).page (reaches place is));
    stored = λ page sees. by_fresh page sees page.fresh refl;
  }
    where
      by_fresh : (page : MemPage) → SeesPage o thread.space WRITE at page → (fresh : Bool) → page.fresh ≡ fresh → page.fresh ≡ false
      by_fresh page sees false is = is
      by_fresh page sees true is =
          let shown = fresh_shown o thread.space WRITE at page sees is in
          let place = shown.0 in
          absurd (not_fresh (mem_at o place).page (reaches place shown.1) place.memory
          (has_fresh_at (slot_at o place.memory) place.page (place_within o rest names thread.space WRITE at place shown.1) shown.2))

  pub store_home : NameWhatIs (state_of o rest) → (op at value : ℕ) → plan_of (state_of o rest) thread ≡ Some (Store op at value) → at % size_of op ≡ 0 → ShowsStored o m thread.space at
  store_home names op at value plan aligned = stored_shown names at (store_reaches op at value plan aligned)

  pub put_there : plan_of (state_of o rest) thread ≡ Some Call → call_named thread ≡ Some Put → refusal_of (world_of o rest w) c.occupant.thread thread Put ≡ None →
      HasPutPages o m (state_of o rest) thread
  unfolding world_of
  put_there plan named unrefused =
      let stores = put_stores (world_of o rest w) c.occupant.thread thread plan named unrefused in
      record {
        entry = λ k below. shows_home o m thread.space READ (arg thread 1 + k) (λ place is. loads_home (mem_at o place).page
            (put_loads (world_of o rest w) c.occupant.thread thread (on (mem_at o place).page) plan named unrefused (some_on READ (arg thread 1) (arg thread 2) k place below is)));
        ring = stores_home _ stores;
        stored = λ fresh. not_fresh _ stores fresh.0 fresh.1;
      }

  get_reaches : plan_of (state_of o rest) thread ≡ Some Call → call_named thread ≡ Some Get → refusal_of (world_of o rest w) c.occupant.thread thread Get ≡ None →
      (k : ℕ) → k < count_got (state_of o rest) thread → (place : Place) → place_of (regions_in o thread.space) WRITE (arg thread 1 + k) ≡ Some place →
      stores_to (state_of o rest) (effect_for (world_of o rest w) c) (mem_at o place).page ≡ true
  unfolding world_of
  get_reaches plan named unrefused k below place is =
      rw (get_stores (world_of o rest w) c.occupant.thread thread (on (mem_at o place).page) plan named unrefused
      (some_on WRITE (arg thread 1) (count_got (state_of o rest) thread) k place below is)) refl

  pub get_there : NameWhatIs (state_of o rest) → plan_of (state_of o rest) thread ≡ Some Call → call_named thread ≡ Some Get → refusal_of (world_of o rest w) c.occupant.thread thread Get ≡ None →
      HasGetPages o m (state_of o rest) thread
  get_there names plan named unrefused = record {
    bytes = λ k below. stored_shown names (arg thread 1 + k) (λ place is. get_reaches plan named unrefused k below place is);
  }

-- Its thread is one, and what its instruction comes to is in range.

chosen_there : (s : State) (core : ℕ) (c : Chosen) → IsPlaced s → chosen s core ≡ Some c → (state : ThreadState) × (does (s.objects c.occupant.thread) ≡ Some state)
chosen_there s core c placed is = by_own (slice_index_or s.cores core None) refl is
  where
    by_front : (queue : List ℕ) → s.queue ≡ queue → front queue ≡ Some c → (state : ThreadState) × (does (s.objects c.occupant.thread) ≡ Some state)
    by_front [] same e = absurd (cc)
    by_front (id ∷ queue) same e =
        let taken : record { occupant = record { thread = id; slice = CORE_SLICE }; queue = queue } ≡ c = cc in
        (Ready, subst (λ (n : ℕ). does (s.objects n) ≡ Some Ready) (ap (λ (x : Chosen). x.occupant.thread) taken) (front_ready s id placed (ap (λ (q : List ℕ). slice_get q 0) same)))

    by_own : (own : Option Occupant) → slice_index_or s.cores core None ≡ own → own_or_front own s.queue ≡ Some c → (state : ThreadState) × (does (s.objects c.occupant.thread) ≡ Some state)
    by_own None same e = by_front s.queue refl e
    by_own (Some occupant) same e =
        let taken : record { occupant = occupant; queue = s.queue } ≡ c = cc in
        (Running core, subst (λ (n : ℕ). does (s.objects n) ≡ Some (Running core)) (ap (λ (x : Chosen). x.occupant.thread) taken) (own_running s core occupant placed same))

known_thread : (o : Objects) (rest : Rest) (core : ℕ) (c : Chosen) → IsPlaced (state_of o rest) → HasThreads (state_of o rest) → chosen (state_of o rest) core ≡ Some c →
    IsThread (state_of o rest) (thread_at (state_of o rest) c.occupant.thread)
unfolding state_of
known_thread o rest core c placed threads is =
    let id = c.occupant.thread in
    let there = chosen_there (state_of o rest) core c placed is in
    let slot = is_thread_slot rest.content (slot_at o id) (list_at o.links id) there.0 there.1 in
    let object_is = ap (λ (s : Slot). object_of rest.content s (list_at o.links id)) slot.1 in
    subst (λ (t : ThreadRecord). IsThread (state_of o rest) t) (sym (ap (λ (object : Option Object). thread_of object) object_is)) (threads id slot.0 object_is)

-- the laws of the instruction table
pub record IsTable : Type 0 where
  pub row : (word : ℕ) (i : Instr) → (decoded word ≡ Some i) ↔ IsRow word i
  pub in_range : (word : ℕ) (i : Instr) → IsRow word i → IsInstr i
  pub plan : (i : Instr) (regs : Regs) → IsInstr i → AreRegs regs → IsPlan (effect i regs)

plan_in_range : IsTable → (s : State) (w : World) (thread : ThreadRecord) (plan : Plan) → IsThread s thread → plan_of w.now thread ≡ Some plan → IsPlan plan
plan_in_range table s w thread plan range is =
    let known = plan_instr w thread plan is in
    let instr = known.1.0 in
    let word = value_at w.now (fetched w.now thread) in
    subst IsPlan known.1.2 (table.plan instr (regs_of thread) (table.in_range word instr ((table.row word instr).0 known.1.1)) (record { counter = range.pc; count = range.count; each = range.each }))

-- So all its pages are there.

there_by_state : IsTable → IsCoveredByOne → StandBeside → (o : Objects) (rest : Rest) (m : Memory) (w : World) (core : ℕ) (c : Chosen) → chosen (state_of o rest) core ≡ Some c →
    IsPrepared o m (world_of o rest w) core → Reads rest.content m → IsPlaced (state_of o rest) → HasThreads (state_of o rest) → NameWhatIs (state_of o rest) →
    HasItsPages o m (thread_at (state_of o rest) c.occupant.thread)
unfolding world_of
there_by_state table covered beside o rest m w core c is prepared reads placed threads names =
    let thread = thread_at (state_of o rest) c.occupant.thread in
    let range = known_thread o rest core c placed threads is in
    let home = fetch_home covered o rest m w core c is prepared range.aligned in
    record {
      fetch = home;
      load = λ other op rd at reads' plan.
          let plan' = plan_alike o m thread covered beside range.aligned home rest other reads reads' ∙ plan in
          load_home covered o rest m w core c is prepared op rd at plan' (plan_in_range table (state_of o rest) (world_of o rest w) thread (Load op rd at) range plan').3;
      store = λ other op at value reads' plan.
          let plan' = plan_alike o m thread covered beside range.aligned home rest other reads reads' ∙ plan in
          store_home covered o rest m w core c is prepared names op at value plan' (plan_in_range table (state_of o rest) (world_of o rest w) thread (Store op at value) range plan').2;
    }

-- What holds of the kernel's values and a world holds of the world that they are.

pub same_world : (k : Calls) (accepted : List ℕ) (m : Memory) (rest : Rest) (w : World) → Holds k accepted m rest w → w ≡ world_of k.runtime.objects rest w
unfolding world_of
same_world k accepted m rest w holds = ap (λ (s : State). record w { now = s }) holds.now

module _ (covered : IsCoveredByOne) (k : Calls) (accepted : List ℕ) (m : Memory) (rest : Rest) (w : World) (core : ℕ) (c : Chosen) (holds : Holds k accepted m rest w) where
  abbrev its_thread : World → ThreadRecord
  its_thread v = thread_at v.now c.occupant.thread

  pub pages_there : IsTable → StandBeside → IsPrepared k.runtime.objects m w core → chosen w.now core ≡ Some c → HasItsPages k.runtime.objects m (its_thread w)
  unfolding world_of
  pages_there table beside =
      subst (λ (v : World). IsPrepared k.runtime.objects m v core → chosen v.now core ≡ Some c → HasItsPages k.runtime.objects m (its_thread v)) (sym (same_world k accepted m rest w holds))
      (λ prepared is. there_by_state table covered beside k.runtime.objects rest m w core c is prepared holds.content
      (subst IsPlaced holds.now holds.sound.placed.0) (subst HasThreads holds.now holds.sound.threads.0) (subst NameWhatIs holds.now holds.sound.names.0))

  pub puts_there : IsPrepared k.runtime.objects m w core → chosen w.now core ≡ Some c → plan_of w.now (its_thread w) ≡ Some Call → call_named (its_thread w) ≡ Some Put →
      refusal_of w c.occupant.thread (its_thread w) Put ≡ None → HasPutPages k.runtime.objects m w.now (its_thread w)
  unfolding world_of
  puts_there =
      subst (λ (v : World). IsPrepared k.runtime.objects m v core → chosen v.now core ≡ Some c → plan_of v.now (its_thread v) ≡ Some Call → call_named (its_thread v) ≡ Some Put →
      refusal_of v c.occupant.thread (its_thread v) Put ≡ None → HasPutPages k.runtime.objects m v.now (its_thread v)) (sym (same_world k accepted m rest w holds))
      (λ prepared is. put_there covered k.runtime.objects rest m w core c is prepared)

  pub gets_there : IsPrepared k.runtime.objects m w core → chosen w.now core ≡ Some c → plan_of w.now (its_thread w) ≡ Some Call → call_named (its_thread w) ≡ Some Get →
      refusal_of w c.occupant.thread (its_thread w) Get ≡ None → HasGetPages k.runtime.objects m w.now (its_thread w)
  unfolding world_of
  gets_there =
      subst (λ (v : World). IsPrepared k.runtime.objects m v core → chosen v.now core ≡ Some c → plan_of v.now (its_thread v) ≡ Some Call → call_named (its_thread v) ≡ Some Get →
      refusal_of v c.occupant.thread (its_thread v) Get ≡ None → HasGetPages k.runtime.objects m v.now (its_thread v)) (sym (same_world k accepted m rest w holds))
      (λ prepared is. get_there covered k.runtime.objects rest m w core c is prepared (subst NameWhatIs holds.now holds.sound.names.0))

pub of_world : (k : Calls) (accepted : List ℕ) (m : Memory) (rest : Rest) (w : World) → Holds k accepted m rest w → IsOfWorld k.runtime.objects k.runtime.numbers (devices_of accepted k.inputs) m rest w
of_world k accepted m rest w holds =
    let same = same_world k accepted m rest w holds in
    record {
      counted = subst (λ (v : World). IsCounted k.runtime.numbers v) same holds.counted;
      attached = subst (λ (v : World). IsAttached k.runtime.objects (devices_of accepted k.inputs) v) same holds.attached;
      content = holds.content;
      threads = subst HasThreads holds.now holds.sound.threads.0;
    }

-- What is told.

-- what holds of each page that is told holds of one of them
pub all_told : (P : ℕ → Type 0) (page : ℕ) (pages : List ℕ) → All P pages → has_page pages page ≡ true → P page
all_told P page [] all told = absurd (cc)
all_told P page (p ∷ pages) all told =
    elim (cases_Bool (p == page)) [
      | inl same ↦ subst P (eqb-true p page same) (All-head P p pages all)
      | inr other ↦ all_told P page pages (All-tail P p pages all) (rw other at told)
    ]

-- a page that is told alone where it is away, is at home where those told are
pub told_home : (m : Memory) (from : ℕ) (pages : List ℕ) → All (λ page. is_page_home m page ≡ true) pages → (is_page_home m from ≡ false → pages ≡ from ∷ []) → is_page_home m from ≡ true
told_home m from pages home alone =
    elim (cases_Bool (is_page_home m from)) [
      | inl there ↦ there
      | inr away ↦ All-head (λ (page : ℕ). is_page_home m page ≡ true) from [] (subst (λ (ps : List ℕ). All (λ page. is_page_home m page ≡ true) ps) (alone away) home)
    ]

-- what holds of each page that a list has holds of each of it
pub each_told : (P : ℕ → Type 0) (pages : List ℕ) → ((page : ℕ) → has_page pages page ≡ true → P page) → All P pages
each_told P [] each = All-nil P
each_told P (p ∷ pages) each = All-cons P p pages (each p (rw (eq-eqb p p refl) refl)) (each_told P pages (λ page told. each page (rw told (or_true (p == page)))))

-- a page, if there is one, is at home or it is away
pub home_or_away : (m : Memory) (from : Option ℕ) → IsAtHome m from ⊎ ((page : ℕ) × (from ≡ Some page) × (is_page_home m page ≡ false))
home_or_away m None = inl (λ page is below. absurd (cc))
home_or_away m (Some page) =
    elim (cases_Bool (is_page_home m page)) [
      | inl home ↦ inl (λ other is below. let same : page ≡ other = cc in subst (λ (n : ℕ). is_page_home m n ≡ true) same home)
      | inr away ↦ inr (page, refl, away)
    ]

-- what a tick must store to it touches
pub stores_touch : (w : World) (core page : ℕ) → must_store w core page ≡ true → touches w core page ≡ true
stores_touch w core page must = by_chosen (chosen w.now core) must
  where
    by_chosen : (c : Option Chosen) → stores_for w c page ≡ true → touches_for w c page ≡ true
    by_chosen None e = e
    by_chosen (Some c) e = rw e (or_true (loads_from w.now (effect_for w c) page))
