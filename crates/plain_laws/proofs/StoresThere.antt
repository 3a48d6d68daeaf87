-- What an effect stores to and puts on is there: pages of memory objects, and a ring.
use Rattle.std.specs.Prelude.{◌≡◌, ℕ, ◌+◌, ◌/◌, ◌<◌, ◌==◌, ◌||◌, nat_le, nat_lt, ◌&&◌, Bool, true, false, List, [], ◌∷◌, length, map, All, Option, Some, None, find, filter_map, option_map, slice_index_or}
use Rattle.std.specs.List.{list_any, cons_option, range_with_len}
use Rattle.std.proofs.Common.{refl, ap, ◌∙◌, arith, inl, inr, subst}
use Rattle.std.proofs.lemmas.Bool.{eq-eqb, eqb-true, leb-true, ltb-true, and_parts}
use Rattle.std.proofs.lemmas.List.{get_or-map, length-map}
use Rattle.std.proofs.lemmas.List.Elements.{All-head, All-tail}
use Rattle.std.proofs.lemmas.List.Folds.{list_any_at}
use Rattle.rv_core.specs.Effect.{size_of}
use Rattle.sls_base.specs.declared.limits.TheConstants.{PAGE_BYTES, OBJECTS, OUTPUT_CHANNELS}
use Rattle.sls_base.specs.declared.fixed.TheConstants.{FIRST_OUTPUT_RING}
use Rattle.sls_base.specs.declared.rights.TheConstants.{WRITE}
use Rattle.sls_base.specs.declared.thread.Thread.{Thread as ThreadRecord}
use Rattle.plain_state.specs.declared.objects.Region.{Region}
use Rattle.plain_state.specs.declared.objects.Kind.TheVariants.{OutputKind}
use Rattle.plain_state.specs.declared.calls.Call.TheVariants.{Put}
use Rattle.plain_state.specs.declared.effect.ByteStore.{ByteStore}
use Rattle.plain_state.specs.declared.effect.Output.{Output}
use Rattle.plain_state.specs.declared.effect.Place.{Place}
use Rattle.plain_model.specs.Objects.{Object, Memory, OutputRing, Page, pages_of, page_numbers, includes, is_kind, every_object}
use Rattle.plain_model.specs.States.{State}
use Rattle.plain_model.specs.Memory.{covers, place_in, place_of, page_at, no_page, stores_at}
use Rattle.plain_model.specs.Worlds.{World, has_page}
use Rattle.plain_model.specs.Effects.{Effect}
use Rattle.plain_model.specs.Calls.{id_named, named, arg}
use Rattle.plain_model.specs.CallEffects.{channel_of}
use Rattle.plain_model.specs.Instructions.{instruction, seen_by}
use Rattle.plain_model.specs.Ticks.{puts_to_page, puts_to_ring}
use Rattle.plain_laws.specs.Laws.{AreInRange}
use Rattle.plain_laws.specs.Sound.{HaveForms, NamesPages, NameWhatIs}
use Rattle.sls_base.proofs.ListTests.{any_in, or_cases}
use Rattle.plain_laws.proofs.Reaches.{is_object}
use Rattle.plain_laws.proofs.InRange.{below, object_below}
use Rattle.plain_laws.proofs.PlacedCalls.{allowed}
use Rattle.plain_laws.proofs.PlacedInstructions.{wants}
use Rattle.plain_laws.proofs.NamesCalls.{is_wanted, regions_names}
use Rattle.plain_laws.proofs.Quiet.{IsQuiet, holds_of_reach}

-- Places: a region that covers an address is of a memory object that has the page.

pub found_first : (s : State) (right address : ℕ) (r : Region) (regions : List Region) (region : Region) (b : Bool) → covers right address r ≡ b → NamesPages s r
    → (find (covers right address) regions ≡ Some region → NamesPages s region × (covers right address region ≡ true))
    → find (covers right address) (r ∷ regions) ≡ Some region → NamesPages s region × (covers right address region ≡ true)
found_first s right address r regions region true e here rest h =
    let same : r ≡ region = (let t : Some r ≡ Some region = rw e at h in cc) in
    subst (λ (x : Region). NamesPages s x × (covers right address x ≡ true)) same (here, e)
found_first s right address r regions region false e here rest h = rest (rw e at h)

pub found_region : (s : State) (right address : ℕ) (regions : List Region) (region : Region) → All (NamesPages s) regions → find (covers right address) regions ≡ Some region
    → NamesPages s region × (covers right address region ≡ true)
found_region s right address [] region names h = absurd (cc)
found_region s right address (r ∷ regions) region names h =
    found_first s right address r regions region (covers right address r) refl (All-head (NamesPages s) r regions names)
    (found_region s right address regions region (All-tail (NamesPages s) r regions names)) h

-- a place is on a page that is there
abbrev pub IsThere : State → Place → Type 0
IsThere s place = place.page < length (pages_of (s.objects place.memory))

pub region_place : (s : State) (right address : ℕ) (region : Region) → NamesPages s region → covers right address region ≡ true → IsThere s (place_in address region)
region_place s right address region names e =
    let page = address / PAGE_BYTES in
    let parts = and_parts (includes region.rights right) (nat_le region.base page && nat_lt page (region.base + region.count)) e in
    let bounds = and_parts (nat_le region.base page) (nat_lt page (region.base + region.count)) parts.1 in
    let from = leb-true region.base page bounds.0 in
    let below = ltb-true page (region.base + region.count) bounds.1 in
    let last = names.1 in
    omega arith

pub place_there : (s : State) (right address : ℕ) (found : Option Region) (place : Place) → ((region : Region) → found ≡ Some region → NamesPages s region × (covers right address region ≡ true))
    → option_map (place_in address) found ≡ Some place → IsThere s place
place_there s right address None place h e = absurd (cc)
place_there s right address (Some region) place h e =
    let r = h region refl in
    let same : place_in address region ≡ place = cc in
    subst (IsThere s) same (region_place s right address region r.0 r.1)

-- Stores.

abbrev pub AllThere : State → List ByteStore → Type 0
AllThere s [] = Unit {0}
AllThere s (store ∷ stores) = IsThere s store.place × AllThere s stores

pub stores_there_from : (s : State) (o : Option Place) (places : List Place) (values : List ℕ) → ((place : Place) → o ≡ Some place → IsThere s place)
    → ((more : List ℕ) → AllThere s (stores_at places more)) → AllThere s (stores_at (cons_option o places) values)
stores_there_from s None places values h rest = rest values
stores_there_from s (Some place) places [] h rest = tt
stores_there_from s (Some place) places (value ∷ values) h rest = (h place refl, rest values)

pub stores_there : (s : State) (regions : List Region) (right : ℕ) (addresses values : List ℕ) → All (NamesPages s) regions
    → AllThere s (stores_at (filter_map (place_of regions right) addresses) values)
stores_there s regions right [] values names = tt
stores_there s regions right (address ∷ addresses) values names =
    stores_there_from s (place_of regions right address) (filter_map (place_of regions right) addresses) values
    (λ place. place_there s right address (find (covers right address) regions) place (λ region. found_region s right address regions region names))
    (λ more. stores_there s regions right addresses more names)

-- Rings.

-- an entry is put on a channel that there is, by its ring
abbrev pub HasRing : State → Option Output → Type 0
HasRing s None = Unit {0}
HasRing s (Some output) = (output.channel < OUTPUT_CHANNELS) × (ring : ℕ) × (s.objects ring ≡ Some (OutputRing output.channel))

pub ring_named : (s : State) (id : ℕ) (o : Option Object) → s.objects id ≡ o → is_kind OutputKind o ≡ true → HaveForms s
    → (channel_of o < OUTPUT_CHANNELS) × (ring : ℕ) × (s.objects ring ≡ Some (OutputRing (channel_of o)))
ring_named s id (Some (OutputRing channel)) e is forms = (rw e at (forms id), id, e)
ring_named s id o e is forms = absurd (cc)

-- Instructions.

pub record ReachesThere (s : State) (e : Effect) : Type 0 where
  pub stores : AllThere s e.stores
  pub output : HasRing s e.output

pub quiet_there : (s : State) (e : Effect) → IsQuiet e → ReachesThere s e
quiet_there s e quiet = record { stores = rw quiet.stores tt; output = rw quiet.output tt }

pub instruction_there : (w : World) (id : ℕ) (thread : ThreadRecord) → HaveForms w.now → NameWhatIs w.now → ReachesThere w.now (instruction w id thread)
instruction_there w id thread forms names =
    let s = w.now in
    let regions = regions_names s (s.objects thread.space) (names thread.space) in
    holds_of_reach (ReachesThere s) w id thread (record {
      quiet = quiet_there s;
      fetches = λ e covered h. record { stores = h.stores; output = h.output };
      loads = λ op rd at does covered. record { stores = tt; output = tt };
      stores = λ op at value does covered. record { stores = stores_there s (seen_by s thread) WRITE (range_with_len at (size_of op)) _ regions; output = tt };
      puts = λ unrefused. record {
        stores = tt;
        output = ring_named s (id_named s thread 0) (named s thread 0) refl
            (is_wanted (is_kind OutputKind (named s thread 0)) false (wants w id thread Put (allowed w id thread Put unrefused))).0 forms;
      };
      gets = λ unrefused. record { stores = stores_there s (seen_by s thread) WRITE (range_with_len (arg thread 1) _) _ regions; output = tt };
    })

-- What is there.

pub page_of_object : (s : State) (i page : ℕ) → i < OBJECTS → list_any (λ number. number == page) (page_numbers (s.objects i)) ≡ true → has_page s page ≡ true
unfolding has_page
page_of_object s i page l e = any_in (λ j. list_any (λ number. number == page) (page_numbers (s.objects j))) every_object i (is_object i l) e

pub memory_there : (s : State) (place : Place) → AreInRange s → IsThere s place → place.memory < OBJECTS
memory_there s place range l = below s place.memory range (λ none. (let e = ap (λ (o : Option Object). length (pages_of o)) none in absurd (omega arith)))

-- an object's page has its number
pub number_there : (o : Option Object) (k page : ℕ) → k < length (pages_of o) → (slice_index_or (pages_of o) k no_page).number ≡ page → list_any (λ number. number == page) (page_numbers o) ≡ true
number_there (Some (Memory pages)) k page l e =
    let count = length-map pages (λ (p : Page). p.number) in
    let at = get_or-map (λ (p : Page). p.number) pages k no_page 0 l in
    list_any_at (λ number. number == page) (map (λ (p : Page). p.number) pages) k 0 (omega arith) (eq-eqb (slice_index_or (map (λ (p : Page). p.number) pages) k 0) page (at ∙ e))
number_there o k page l e = absurd (omega arith)

pub place_has_page : (s : State) (place : Place) (page : ℕ) → AreInRange s → IsThere s place → (page_at s.objects place).number ≡ page → has_page s page ≡ true
place_has_page s place page range l e = page_of_object s place.memory page (memory_there s place range l) (number_there (s.objects place.memory) place.page page l e)

pub stored_page : (s : State) (stores : List ByteStore) (page : ℕ) → AreInRange s → AllThere s stores → list_any (λ store. (page_at s.objects store.place).number == page) stores ≡ true → has_page s page ≡ true
stored_page s [] page range there e = absurd (cc)
stored_page s (store ∷ stores) page range there e =
    elim (or_cases ((page_at s.objects store.place).number == page) (list_any (λ other. (page_at s.objects other.place).number == page) stores) e) [
      | inl h ↦ place_has_page s store.place page range there.0 (eqb-true (page_at s.objects store.place).number page h)
      | inr h ↦ stored_page s stores page range there.1 h
    ]

pub stored_object : (s : State) (stores : List ByteStore) (i : ℕ) → AreInRange s → AllThere s stores → list_any (λ store. store.place.memory == i) stores ≡ true → i < OBJECTS
stored_object s [] i range there e = absurd (cc)
stored_object s (store ∷ stores) i range there e = elim (or_cases (store.place.memory == i) (list_any (λ other. other.place.memory == i) stores) e) [
  | inl h ↦ (let same = eqb-true store.place.memory i h in let l = memory_there s store.place range there.0 in omega arith)
  | inr h ↦ stored_object s stores i range there.1 h
]

pub ring_page : (s : State) (output : Option Output) (page : ℕ) → AreInRange s → HasRing s output → puts_to_page output page ≡ true → has_page s page ≡ true
ring_page s None page range ring e = absurd (cc)
ring_page s (Some output) page range ring e =
    let here : list_any (λ number. number == page) (page_numbers (s.objects ring.1)) ≡ true =
    ap (λ (o : Option Object). list_any (λ number. number == page) (page_numbers o)) ring.2 ∙ ap (λ (b : Bool). b || false) e in
    page_of_object s ring.1 page (object_below s ring.1 (OutputRing output.channel) range ring.2) here

pub ring_object : (s : State) (output : Option Output) (i : ℕ) → HasRing s output → puts_to_ring output i ≡ true → i < OBJECTS
ring_object s None i ring e = absurd (cc)
ring_object s (Some output) i ring e = (let same = eqb-true (FIRST_OUTPUT_RING + output.channel) i e in let l = ring.0 in omega arith)
