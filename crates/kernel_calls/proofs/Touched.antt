-- Each page that a tick touches is one that there is.
use Rattle.std.specs.Prelude.{◌⊎◌, ◌≡◌, ℕ, zero, suc, ◌+◌, ◌-◌, ◌/◌, ◌<◌, ◌≤◌, ◌==◌, ◌||◌, Bool, true, false, if◌then◌else◌, List, [], ◌∷◌, All, Contains, find, length, Option, Some, None, option_map, slice_index_or}
use Rattle.std.specs.List.{cons_option, list_any}
use Rattle.std.proofs.Common.{refl, sym, ap, ◌∙◌, subst, arith, inl, inr}
use Rattle.std.proofs.lemmas.Bool.{cases_Bool, eqb-true, and_parts, leb-true, ltb-true}
use Rattle.std.proofs.lemmas.List.{get_or-map, length-map}
use Rattle.std.proofs.lemmas.List.Elements.{All-head, All-tail, All-nil, All-cons, All-append}
use Rattle.sls_base.specs.declared.limits.TheConstants.{INSTRUCTION_BYTES, PAGE_BYTES, PAGES}
use Rattle.sls_base.specs.declared.rights.TheConstants.{READ, WRITE, EXECUTE}
use Rattle.sls_base.specs.declared.thread.Thread.{Thread as ThreadRecord}
use Rattle.rv_table.specs.declared.Instr.{Instr}
use Rattle.rv_table.specs.Decoded.{decoded}
use Rattle.rv_core.specs.Effect.{effect, size_of}
use Rattle.rv_core.specs.declared.registers.Plan.{Plan}
use Rattle.rv_core.specs.declared.registers.Plan.TheVariants.{Set, Load, Store, Call, Stop}
use Rattle.plain_state.specs.declared.effect.Place.{Place}
use Rattle.plain_state.specs.declared.effect.ByteStore.{ByteStore}
use Rattle.plain_state.specs.declared.effect.Output.{Output}
use Rattle.plain_state.specs.declared.objects.Region.{Region}
use Rattle.plain_state.specs.declared.objects.Kind.TheVariants.{OutputKind}
use Rattle.plain_state.specs.declared.calls.Call.{Call as PlainCall}
use Rattle.plain_state.specs.declared.calls.Call.TheVariants as calls
use Rattle.plain_state.specs.declared.calls.Refusal.{Refusal}
use Rattle.plain_state.specs.Objects as plain
use Rattle.plain_state.specs.Objects.{Object, Page, is_kind, page_numbers, page_of_channel, pages_of, regions_of}
use Rattle.plain_state.specs.States.{State, thread_at}
use Rattle.plain_state.specs.Worlds.{World}
use Rattle.plain_state.specs.Memory.{covers, is_covered, no_page, page_at, place_in, place_of, places_of, stores_at, bytes_of_number}
use Rattle.plain_state.specs.Effects.{Effect, regs_of}
use Rattle.plain_state.specs.Calls.{arg, call_named, id_named, named}
use Rattle.plain_state.specs.CallRefusals.{refusal_of}
use Rattle.plain_state.specs.CallEffects.{channel_of, is_serving, signal_effect, wait_effect, call_effect, serve_next, serve_effect, effect_of_call, unless_refused, called}
use Rattle.plain_state.specs.Instructions.{seen_by, fetched, value_at, with_fetch, carried_out, obeyed, instruction}
use Rattle.plain_state.specs.Ticks.{Chosen, chosen, effect_for, loads_from, puts_to_page, stores_to, touches, touches_for}
use Rattle.plain_laws.specs.Sound.{AreApart, NamesWhatIs, NameWhatIs, NamesPages}
use Rattle.call_readings.specs.Need.{fetched_of, page_fetched}
use Rattle.kernel_calls.specs.Needed.{count_got}
use Rattle.kernel_calls.proofs.Unrefused.{MeetsNeeds, met_by}

-- The pages of a region are there.

found_all : (P : Region → Type 0) (p : Region → Bool) (regions : List Region) (region : Region) → All P regions → find p regions ≡ Some region → P region × (p region ≡ true)
found_all P p [] region all e = absurd (cc)
found_all P p (r ∷ regions) region all e =
    elim (cases_Bool (p r)) [
      | inl pass ↦
          (let here : ◌≡◌ {A = Option Region} (Some r) (Some region) = rw pass at e in
          let same : r ≡ region = cc in
          (subst P same (All-head P r regions all), subst (λ (x : Region). p x ≡ true) same pass))
      | inr fail ↦ found_all P p regions region (All-tail P r regions all) (rw fail at e)
    ]

named_regions : (s : State) (o : Option Object) → NamesWhatIs s o → All (NamesPages s) (regions_of o)
named_regions s (Some (plain.Space regions)) names = names
named_regions s None names = All-nil (NamesPages s)
named_regions s (Some (plain.Group slots)) names = All-nil (NamesPages s)
named_regions s (Some (plain.Thread thread)) names = All-nil (NamesPages s)
named_regions s (Some (plain.Memory pages)) names = All-nil (NamesPages s)
named_regions s (Some (plain.Connection server client clients)) names = All-nil (NamesPages s)
named_regions s (Some (plain.Notification count waiters)) names = All-nil (NamesPages s)
named_regions s (Some (plain.OutputRing channel)) names = All-nil (NamesPages s)
named_regions s (Some plain.InputRing) names = All-nil (NamesPages s)
named_regions s (Some plain.Scheduler) names = All-nil (NamesPages s)

within : (base count first address pages : ℕ) → base ≤ address → address < base + count → first + count ≤ pages → first + (address - base) < pages
within base count first address pages from below fits = omega arith

-- the page of a place is one of its memory object
pub place_within : (s : State) → NameWhatIs s → (space right at : ℕ) (place : Place) → place_of (regions_of (s.objects space)) right at ≡ Some place → place.page < length (pages_of (s.objects place.memory))
place_within s names space right at place is = by_region (find (covers right at) (regions_of (s.objects space))) refl is
  where
    by_region : (found : Option Region) → find (covers right at) (regions_of (s.objects space)) ≡ found → option_map (place_in at) found ≡ Some place → place.page < length (pages_of (s.objects place.memory))
    by_region None found e = absurd (cc)
    by_region (Some region) found e =
        let same : place_in at region ≡ place = cc in
        let known = found_all (NamesPages s) (covers right at) (regions_of (s.objects space)) region (named_regions s (s.objects space) (names space)) found in
        let tests = and_parts _ _ (and_parts _ _ known.1).1 in
        subst (λ (p : Place). p.page < length (pages_of (s.objects p.memory))) same
        (within region.base region.count region.first (at / PAGE_BYTES) _ (leb-true _ _ tests.0) (ltb-true _ _ tests.1) known.0.1)

number_at : (o : Option Object) (k : ℕ) → k < length (pages_of o) → Contains (page_numbers o) (slice_index_or (pages_of o) k no_page).number
number_at (Some (plain.Memory pages)) k below =
    let count = length-map pages (λ (page : Page). page.number) in
    (k, omega (arith, below, count), get_or-map (λ (page : Page). page.number) pages k no_page (slice_index_or pages k no_page).number below)
number_at None k below = absurd (omega (arith, below))
number_at (Some (plain.Group slots)) k below = absurd (omega (arith, below))
number_at (Some (plain.Thread thread)) k below = absurd (omega (arith, below))
number_at (Some (plain.Space regions)) k below = absurd (omega (arith, below))
number_at (Some (plain.Connection server client clients)) k below = absurd (omega (arith, below))
number_at (Some (plain.Notification count waiters)) k below = absurd (omega (arith, below))
number_at (Some (plain.OutputRing channel)) k below = absurd (omega (arith, below))
number_at (Some plain.InputRing) k below = absurd (omega (arith, below))
number_at (Some plain.Scheduler) k below = absurd (omega (arith, below))

pub page_below : (s : State) → NameWhatIs s → AreApart s → (space right at : ℕ) (place : Place) → place_of (regions_of (s.objects space)) right at ≡ Some place → (page_at s.objects place).number < PAGES
page_below s names apart space right at place is =
    apart.in_range place.memory (page_at s.objects place).number (number_at (s.objects place.memory) place.page (place_within s names space right at place is))

-- An effect loads from what the space of its thread shows, and stores to that. It puts entries on rings that there are.

record IsShown (s : State) (thread : ThreadRecord) (place : Place) : Type 0 where
  right : ℕ
  at : ℕ
  is : place_of (seen_by s thread) right at ≡ Some place

record ReachesShown (s : State) (thread : ThreadRecord) (e : Effect) : Type 0 where
  loads : All (IsShown s thread) e.loads
  stores : All (λ store. IsShown s thread store.place) e.stores
  output : (entry : Output) → e.output ≡ Some entry → (i : ℕ) × (s.objects i ≡ Some (plain.OutputRing entry.channel))

quiet : (s : State) (thread : ThreadRecord) (e : Effect) → e.loads ≡ [] → e.stores ≡ [] → e.output ≡ None → ReachesShown s thread e
quiet s thread e loads stores output = record {
  loads = rw loads (All-nil (IsShown s thread));
  stores = rw stores (All-nil (λ (store : ByteStore). IsShown s thread store.place));
  output = λ entry is. absurd (let none : None ≡ Some entry = sym output ∙ is in cc);
}

quiet_if : (s : State) (thread : ThreadRecord) (b : Bool) (e f : Effect) → ReachesShown s thread e → ReachesShown s thread f → ReachesShown s thread (if b then e else f)
quiet_if s thread true e f first second = first
quiet_if s thread false e f first second = second

cons_shown : (s : State) (thread : ThreadRecord) (right at : ℕ) (found : Option Place) (places : List Place) → place_of (seen_by s thread) right at ≡ found → All (IsShown s thread) places →
    All (IsShown s thread) (cons_option found places)
cons_shown s thread right at None places is all = all
cons_shown s thread right at (Some place) places is all = All-cons (IsShown s thread) place places (record { right = right; at = at; is = is }) all

places_shown : (s : State) (thread : ThreadRecord) (right at n : ℕ) → All (IsShown s thread) (places_of (seen_by s thread) right at n)
places_shown s thread right at zero = All-nil (IsShown s thread)
places_shown s thread right at (suc n) = cons_shown s thread right at (place_of (seen_by s thread) right at) (places_of (seen_by s thread) right (at + 1) n) refl (places_shown s thread right (at + 1) n)

stores_shown : (P : Place → Type 0) (places : List Place) (values : List ℕ) → All P places → All (λ store. P store.place) (stores_at places values)
stores_shown P [] values all = All-nil (λ (store : ByteStore). P store.place)
stores_shown P (place ∷ places) [] all = All-nil (λ (store : ByteStore). P store.place)
stores_shown P (place ∷ places) (value ∷ values) all =
    All-cons (λ (store : ByteStore). P store.place) _ (stores_at places values) (All-head P place places all) (stores_shown P places values (All-tail P place places all))

-- Calls.

ring_named : (o : Option Object) → is_kind OutputKind o ≡ true → o ≡ Some (plain.OutputRing (channel_of o))
ring_named (Some (plain.OutputRing channel)) e = refl
ring_named None e = absurd (cc)
ring_named (Some (plain.Group slots)) e = absurd (cc)
ring_named (Some (plain.Thread thread)) e = absurd (cc)
ring_named (Some (plain.Space regions)) e = absurd (cc)
ring_named (Some (plain.Memory pages)) e = absurd (cc)
ring_named (Some (plain.Connection server client clients)) e = absurd (cc)
ring_named (Some (plain.Notification count waiters)) e = absurd (cc)
ring_named (Some plain.InputRing) e = absurd (cc)
ring_named (Some plain.Scheduler) e = absurd (cc)

signal_quiet : (s : State) (thread : ThreadRecord) (note : ℕ) (o : Option Object) → ReachesShown s thread (signal_effect s thread note o)
signal_quiet s thread note (Some (plain.Notification count [])) = quiet s thread _ refl refl refl
signal_quiet s thread note (Some (plain.Notification count (waiter ∷ waiters))) = quiet s thread _ refl refl refl
signal_quiet s thread note o = quiet s thread _ refl refl refl

wait_quiet : (s : State) (thread : ThreadRecord) (id note : ℕ) (o : Option Object) → ReachesShown s thread (wait_effect id thread note o)
wait_quiet s thread id note (Some (plain.Notification count waiters)) = quiet_if s thread (count == 0) _ _ (quiet s thread _ refl refl refl) (quiet s thread _ refl refl refl)
wait_quiet s thread id note o = quiet s thread _ refl refl refl

call_quiet : (s : State) (thread : ThreadRecord) (id connection : ℕ) (o : Option Object) → ReachesShown s thread (call_effect s id thread connection o)
call_quiet s thread id connection (Some (plain.Connection server client clients)) =
    quiet_if s thread (is_serving (thread_at s server).state connection) _ _ (quiet s thread _ refl refl refl) (quiet s thread _ refl refl refl)
call_quiet s thread id connection o = quiet s thread _ refl refl refl

next_quiet : (s : State) (thread : ThreadRecord) (connection server : ℕ) (client : Option ℕ) (clients : List ℕ) → ReachesShown s thread (serve_next s thread connection server client clients)
next_quiet s thread connection server client (next ∷ clients) = quiet s thread _ refl refl refl
next_quiet s thread connection server (Some client) [] = quiet s thread _ refl refl refl
next_quiet s thread connection server None [] = quiet s thread _ refl refl refl

serve_quiet : (s : State) (thread : ThreadRecord) (connection : ℕ) (o : Option Object) → ReachesShown s thread (serve_effect s thread connection o)
serve_quiet s thread connection (Some (plain.Connection server client clients)) = next_quiet s thread connection server client clients
serve_quiet s thread connection o = quiet s thread _ refl refl refl

module _ (law : MeetsNeeds) (w : World) (id : ℕ) (thread : ThreadRecord) where
  effect_shown : (call : PlainCall) → refusal_of w id thread call ≡ None → ReachesShown w.now thread (effect_of_call w id thread call)
  unfolding effect_of_call
  effect_shown calls.Put unrefused = record {
    loads = places_shown w.now thread READ (arg thread 1) (arg thread 2);
    stores = All-nil (λ (store : ByteStore). IsShown w.now thread store.place);
    output = λ entry is.
        let there = ring_named (named w.now thread 0) (met_by law w id thread calls.Put unrefused).0.kind in
        let channel : channel_of (named w.now thread 0) ≡ entry.channel = cc in
        (id_named w.now thread 0, there ∙ ap (λ (n : ℕ). Some (plain.OutputRing n)) channel);
  }
  effect_shown calls.Get unrefused = record {
    loads = All-nil (IsShown w.now thread);
    stores = stores_shown (IsShown w.now thread) (places_of (seen_by w.now thread) WRITE (arg thread 1) (count_got w.now thread)) _ (places_shown w.now thread WRITE (arg thread 1) (count_got w.now thread));
    output = λ entry is. absurd (cc);
  }
  effect_shown calls.Signal unrefused = signal_quiet w.now thread (id_named w.now thread 0) (named w.now thread 0)
  effect_shown calls.Wait unrefused = wait_quiet w.now thread id (id_named w.now thread 0) (named w.now thread 0)
  effect_shown calls.ConnCall unrefused = call_quiet w.now thread id (id_named w.now thread 0) (named w.now thread 0)
  effect_shown calls.Serve unrefused = serve_quiet w.now thread (id_named w.now thread 0) (named w.now thread 0)
  effect_shown call unrefused = quiet w.now thread _ refl refl refl

  unless_shown : (call : PlainCall) (refusal : Option Refusal) → refusal_of w id thread call ≡ refusal → ReachesShown w.now thread (unless_refused w id thread call refusal)
  unless_shown call None unrefused = effect_shown call unrefused
  unless_shown call (Some refusal) refused = quiet w.now thread _ refl refl refl

  called_shown : (call : Option PlainCall) → ReachesShown w.now thread (called w id thread call)
  called_shown None = quiet w.now thread _ refl refl refl
  called_shown (Some call) = unless_shown call (refusal_of w id thread call) refl

  -- Instructions.

  plan_shown : (plan : Plan) → ReachesShown w.now thread (carried_out w id thread plan)
  plan_shown (Set rd value pc) = quiet w.now thread _ refl refl refl
  plan_shown (Load op rd at) = quiet_if w.now thread (is_covered (seen_by w.now thread) READ at (size_of op)) _ _
      (record { loads = places_shown w.now thread READ at (size_of op); stores = All-nil (λ (store : ByteStore). IsShown w.now thread store.place); output = λ entry is. absurd (cc) })
      (quiet w.now thread _ refl refl refl)
  plan_shown (Store op at value) = quiet_if w.now thread (is_covered (seen_by w.now thread) WRITE at (size_of op)) _ _
      (record {
        loads = All-nil (IsShown w.now thread);
        stores = stores_shown (IsShown w.now thread) (places_of (seen_by w.now thread) WRITE at (size_of op)) (bytes_of_number (size_of op) value) (places_shown w.now thread WRITE at (size_of op));
        output = λ entry is. absurd (cc);
      })
      (quiet w.now thread _ refl refl refl)
  plan_shown Call = called_shown (call_named thread)
  plan_shown (Stop cause) = quiet w.now thread _ refl refl refl

  obeyed_shown : (instr : Option Instr) → ReachesShown w.now thread (obeyed w id thread instr)
  obeyed_shown None = quiet w.now thread _ refl refl refl
  obeyed_shown (Some instr) = plan_shown (effect instr (regs_of thread))

  fetch_shown : (places : List Place) (e : Effect) → All (IsShown w.now thread) places → ReachesShown w.now thread e → ReachesShown w.now thread (with_fetch places e)
  fetch_shown places e all shown = record { loads = All-append (IsShown w.now thread) places e.loads all shown.loads; stores = shown.stores; output = shown.output }

  instruction_shown : ReachesShown w.now thread (instruction w id thread)
  unfolding instruction
  instruction_shown = quiet_if w.now thread (is_covered (seen_by w.now thread) EXECUTE thread.pc INSTRUCTION_BYTES) _ _
      (fetch_shown (fetched w.now thread) (obeyed w id thread (decoded (value_at w.now (fetched w.now thread)))) (places_shown w.now thread EXECUTE thread.pc INSTRUCTION_BYTES)
      (obeyed_shown (decoded (value_at w.now (fetched w.now thread)))))
      (quiet w.now thread _ refl refl refl)

-- So the pages that it reaches are there.

either : (a b : Bool) → (a || b) ≡ true → (a ≡ true) ⊎ (b ≡ true)
either true b e = inl refl
either false b e = inr e

passing : {A : Type 0} → (P : A → Type 0) (test : A → Bool) (xs : List A) → All P xs → list_any test xs ≡ true → (x : A) × P x × (test x ≡ true)
passing P test [] all any = absurd (cc)
passing P test (x ∷ xs) all any =
    elim (cases_Bool (test x)) [
      | inl pass ↦ (x, All-head P x xs all, pass)
      | inr fail ↦ passing P test xs (All-tail P x xs all) (rw fail at any)
    ]

module _ (s : State) (names : NameWhatIs s) (apart : AreApart s) (thread : ThreadRecord) (page : ℕ) where
  place_below : (place : Place) → IsShown s thread place → ((page_at s.objects place).number == page) ≡ true → page < PAGES
  place_below place shown is = subst (λ (n : ℕ). n < PAGES) (eqb-true _ page is) (page_below s names apart thread.space shown.right shown.at place shown.is)

  loaded_below : (e : Effect) → ReachesShown s thread e → loads_from s e page ≡ true → page < PAGES
  loaded_below e shown any =
      let found = passing (IsShown s thread) (λ place. (page_at s.objects place).number == page) e.loads shown.loads any in
      place_below found.0 found.1 found.2

  put_below : (output : Option Output) → ((entry : Output) → output ≡ Some entry → (i : ℕ) × (s.objects i ≡ Some (plain.OutputRing entry.channel))) → puts_to_page output page ≡ true → page < PAGES
  put_below None there puts = absurd (cc)
  put_below (Some entry) there puts =
      let ring = there entry refl in
      apart.in_range ring.0 page (rw ring.1 (0, omega arith, eqb-true (page_of_channel entry.channel) page puts))

  stored_below : (e : Effect) → ReachesShown s thread e → stores_to s e page ≡ true → page < PAGES
  stored_below e shown any =
      elim (either _ (puts_to_page e.output page) any) [
        | inl stored ↦
            (let found = passing (λ (store : ByteStore). IsShown s thread store.place) (λ store. (page_at s.objects store.place).number == page) e.stores shown.stores stored in
            place_below found.0.place found.1 found.2)
        | inr puts ↦ put_below e.output shown.output puts
      ]

pub touched_below : MeetsNeeds → (w : World) → NameWhatIs w.now → AreApart w.now → (core page : ℕ) → touches w core page ≡ true → page < PAGES
touched_below law w names apart core page touched = by_chosen (chosen w.now core) touched
  where
    by_chosen : (c : Option Chosen) → touches_for w c page ≡ true → page < PAGES
    by_chosen None e = absurd (cc)
    by_chosen (Some c) e =
        let thread = thread_at w.now c.occupant.thread in
        let shown = instruction_shown law w c.occupant.thread thread in
        elim (either (loads_from w.now (effect_for w c) page) (stores_to w.now (effect_for w c) page) e) [
          | inl loads ↦ loaded_below w.now names apart thread page (effect_for w c) shown loads
          | inr stores ↦ stored_below w.now names apart thread page (effect_for w c) shown stores
        ]

-- So is the page from which a core's instruction is fetched.
pub fetched_below : (s : State) → NameWhatIs s → AreApart s → (core from : ℕ) → page_fetched s core ≡ Some from → from < PAGES
fetched_below s names apart core from is = by_chosen (chosen s core) is
  where
    by_place : (thread : ThreadRecord) (found : Option Place) → place_of (seen_by s thread) EXECUTE thread.pc ≡ found → option_map (λ place. (page_at s.objects place).number) found ≡ Some from → from < PAGES
    by_place thread None there e = absurd (cc)
    by_place thread (Some place) there e =
        let same : (page_at s.objects place).number ≡ from = cc in
        subst (λ (n : ℕ). n < PAGES) same (page_below s names apart thread.space EXECUTE thread.pc place there)

    by_chosen : (c : Option Chosen) → fetched_of s c ≡ Some from → from < PAGES
    by_chosen None e = absurd (cc)
    by_chosen (Some c) e = let thread = thread_at s c.occupant.thread in by_place thread (place_of (seen_by s thread) EXECUTE thread.pc) refl e
