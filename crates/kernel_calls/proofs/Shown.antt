-- What the space of a thread shows, and what its instruction loads and stores of that.
use Rattle.std.specs.Prelude.{◌≡◌, ℕ, zero, suc, ◌+◌, ◌/◌, ◌%◌, ◌^◌, ◌<◌, ◌≤◌, ◌==◌, ◌||◌, Bool, true, false, if◌then◌else◌, List, [], ◌∷◌, ◌++◌, find, length, map, take, Option, Some, None, option_map, is_some, slice_index_or}
use Rattle.std.specs.List.{cons_option, list_any}
use Rattle.std.proofs.Common.{refl, sym, ap, ◌∙◌, subst, arith, inl, inr, add-zero, eq-eqb}
use Rattle.std.proofs.lemmas.Bool.{cases_Bool}
use Rattle.std.proofs.lemmas.List.{length-take}
use Rattle.std.proofs.lemmas.List.Folds.{list_any-append}
use mathlib.Core.Path.{fun_ext}
use Rattle.sls_base.specs.declared.limits.TheConstants.{INSTRUCTION_BYTES, OUTPUT_CHANNELS, PAGE_BYTES, PAGES}
use Rattle.sls_base.specs.declared.rights.TheConstants.{READ, WRITE, EXECUTE}
use Rattle.sls_base.specs.declared.thread.Thread.{Thread as ThreadRecord}
use Rattle.link_lists.specs.Lists.{list_at}
use Rattle.rv_table.specs.declared.Instr.{Instr}
use Rattle.rv_table.specs.Decoded.{decoded}
use Rattle.rv_core.specs.Effect.{effect, size_of}
use Rattle.rv_core.specs.declared.registers.Plan.{Plan}
use Rattle.rv_core.specs.declared.registers.Plan.TheVariants.{Load, Store, Call}
use Rattle.rv_core.specs.declared.registers.Regs.{Regs}
use Rattle.mem_space.specs.declared.memory.MemPage.{MemPage}
use Rattle.pmem_model.specs.Memory.{Memory}
use Rattle.plain_state.specs.declared.effect.Place.{Place}
use Rattle.plain_state.specs.declared.objects.Region.{Region}
use Rattle.plain_state.specs.declared.calls.Call.{Call as PlainCall}
use Rattle.plain_state.specs.declared.calls.Call.TheVariants.{Put, Get}
use Rattle.plain_state.specs.declared.calls.Refusal.{Refusal}
use Rattle.plain_state.specs.Objects as plain
use Rattle.plain_state.specs.Objects.{Object, Page, pages_of, page_of_channel, regions_of}
use Rattle.plain_state.specs.Worlds.{World}
use Rattle.plain_state.specs.Memory.{covers, is_covered, no_page, page_at, place_in, place_of, places_of, stores_at, bytes_of_number}
use Rattle.plain_state.specs.Effects.{Effect, regs_of}
use Rattle.plain_state.specs.Calls.{arg, call_named, named}
use Rattle.plain_state.specs.CallRefusals.{refusal_of}
use Rattle.plain_state.specs.CallEffects.{channel_of, effect_of_call, unless_refused, called}
use Rattle.plain_state.specs.Ticks.{stores_to}
use Rattle.plain_state.specs.Instructions.{seen_by, fetched, value_at, with_fetch, obeyed, carried_out, instruction}
use Rattle.kobj_table.specs.declared.objects.Objects.{Objects}
use Rattle.kobj_table.specs.declared.slot.Slot.{Slot}
use Rattle.kobj_table.specs.Slots.{memory_in, space_in, object_of, page_of, region_of}
use Rattle.kobj_table.specs.Objects.{slot_at, object_at}
use Rattle.call_readings.specs.Content.{is_page_home}
use Rattle.call_readings.specs.Need.{page_seen}
use Rattle.kernel_calls.specs.Instructions.{plan_of, ShowsHome}
use Rattle.kernel_calls.specs.Needed.{count_got}

-- What a space shows doesn't depend on the content of pages.

ring_pages : (input : Bool) (channel : ℕ) → pages_of (Some (if input then plain.InputRing else plain.OutputRing channel)) ≡ []
ring_pages true channel = refl
ring_pages false channel = refl

pub pages_are : (content : ℕ → ℕ → ℕ) (slot : Slot) (listed : List ℕ) → pages_of (object_of content slot listed) ≡ map (page_of content) (memory_in slot).pages.items
pages_are content Slot.Empty listed = refl
pages_are content (Slot.Group group) listed = refl
pages_are content (Slot.Thread thread) listed = refl
pages_are content (Slot.Space space) listed = refl
pages_are content (Slot.Memory memory) listed = refl
pages_are content (Slot.Connection connection) listed = refl
pages_are content (Slot.Notification note) listed = refl
pages_are content (Slot.Ring ring) listed = ring_pages (ring.channel == OUTPUT_CHANNELS) ring.channel
pages_are content (Slot.Scheduler cores) listed = refl

ring_regions : (input : Bool) (channel : ℕ) → regions_of (Some (if input then plain.InputRing else plain.OutputRing channel)) ≡ []
ring_regions true channel = refl
ring_regions false channel = refl

regions_are : (content : ℕ → ℕ → ℕ) (slot : Slot) (listed : List ℕ) → regions_of (object_of content slot listed) ≡ map region_of (space_in slot).regions.items
regions_are content Slot.Empty listed = refl
regions_are content (Slot.Group group) listed = refl
regions_are content (Slot.Thread thread) listed = refl
regions_are content (Slot.Space space) listed = refl
regions_are content (Slot.Memory memory) listed = refl
regions_are content (Slot.Connection connection) listed = refl
regions_are content (Slot.Notification note) listed = refl
regions_are content (Slot.Ring ring) listed = ring_regions (ring.channel == OUTPUT_CHANNELS) ring.channel
regions_are content (Slot.Scheduler cores) listed = refl

-- the page of a place
abbrev pub no_mem : MemPage
no_mem = record { page = PAGES; fresh = true }

abbrev pub mem_at : Objects → Place → MemPage
mem_at o place = slice_index_or (memory_in (slot_at o place.memory)).pages.items place.page no_mem

pub at_index : (content : ℕ → ℕ → ℕ) (pages : List MemPage) (k : ℕ) → slice_index_or (map (page_of content) pages) k no_page ≡ page_of content (slice_index_or pages k no_mem)
at_index content [] k = refl
at_index content (page ∷ pages) zero = refl
at_index content (page ∷ pages) (suc k) = at_index content pages k

pub page_is : (o : Objects) (content : ℕ → ℕ → ℕ) (place : Place) → page_at (object_at content o) place ≡ page_of content (mem_at o place)
page_is o content place =
    ap (λ (pages : List Page). slice_index_or pages place.page no_page) (pages_are content (slot_at o place.memory) (list_at o.links place.memory))
    ∙ at_index content (memory_in (slot_at o place.memory)).pages.items place.page

-- the regions of a space
abbrev pub regions_in : Objects → ℕ → List Region
regions_in o space = map region_of (space_in (slot_at o space)).regions.items

pub shown_is : (o : Objects) (content : ℕ → ℕ → ℕ) (space : ℕ) → regions_of (object_at content o space) ≡ regions_in o space
shown_is o content space = regions_are content (slot_at o space) (list_at o.links space)

pub seen_is : (o : Objects) (content : ℕ → ℕ → ℕ) (space right at : ℕ) →
    page_seen (object_at content o) (regions_of (object_at content o space)) right at ≡ option_map (λ place. (mem_at o place).page) (place_of (regions_in o space) right at)
seen_is o content space right at =
    ap (λ (regions : List Region). page_seen (object_at content o) regions right at) (shown_is o content space)
    ∙ ap (λ (number : Place → ℕ). option_map number (place_of (regions_in o space) right at)) (fun_ext (λ place. ap (λ (page : Page). page.number) (page_is o content place)))

-- so a page is at home that it shows, where that of the place is
pub shows_home : (o : Objects) (m : Memory) (space right at : ℕ) → ((place : Place) → place_of (regions_in o space) right at ≡ Some place → is_page_home m (mem_at o place).page ≡ true) →
    ShowsHome o m space right at
shows_home o m space right at home content page seen below = by_place (place_of (regions_in o space) right at) refl (sym (seen_is o content space right at) ∙ seen)
  where
    by_place : (found : Option Place) → place_of (regions_in o space) right at ≡ found → option_map (λ place. (mem_at o place).page) found ≡ Some page → is_page_home m page ≡ true
    by_place None is e = absurd (cc)
    by_place (Some place) is e = let same : (mem_at o place).page ≡ page = cc in subst (λ (n : ℕ). is_page_home m n ≡ true) same (home place is)

-- Some place among others.

any_cons : (test : Place → Bool) (place : Option Place) (places : List Place) → list_any test places ≡ true → list_any test (cons_option place places) ≡ true
any_cons test None places any = any
any_cons test (Some place) places any = either (test place) (list_any test places) any
  where
    either : (a b : Bool) → b ≡ true → (a || b) ≡ true
    either true b e = refl
    either false b e = e

-- a place of an address passes, among those of as many bytes
pub placed_any : (test : Place → Bool) (regions : List Region) (right at n k : ℕ) (place : Place) → k < n → place_of regions right (at + k) ≡ Some place → test place ≡ true →
    list_any test (places_of regions right at n) ≡ true
placed_any test regions right at zero k place below is passes = absurd (omega arith)
placed_any test regions right at (suc n) zero place below is passes = let here : place_of regions right at ≡ Some place = rw add-zero at is in rw here (rw passes refl)
placed_any test regions right at (suc n) (suc k) place below is passes =
    let there : place_of regions right (at + 1 + k) ≡ Some place = let same : at + suc k ≡ at + 1 + k = omega arith in ap (λ (a : ℕ). place_of regions right a) (sym same) ∙ is in
    any_cons test (place_of regions right at) (places_of regions right (at + 1) n) (placed_any test regions right (at + 1) n k place (omega arith) there passes)

any_first : (test : Place → Bool) (first behind : List Place) → list_any test first ≡ true → list_any test (first ++ behind) ≡ true
any_first test first behind any = list_any-append test first behind ∙ rw any refl

any_last : (test : Place → Bool) (first behind : List Place) → list_any test behind ≡ true → list_any test (first ++ behind) ≡ true
any_last test first behind any = list_any-append test first behind ∙ rw any (or_true (list_any test first))
  where
    or_true : (b : Bool) → (b || true) ≡ true
    or_true true = refl
    or_true false = refl

-- so it does among those to which as many values are stored
pub stored_any : (test : Place → Bool) (places : List Place) (values : List ℕ) → length places ≤ length values → list_any test places ≡ true → list_any (λ store. test store.place) (stores_at places values) ≡ true
stored_any test [] values few any = absurd (cc)
stored_any test (place ∷ places) [] few any = absurd (omega (arith, few))
stored_any test (place ∷ places) (value ∷ values) few any =
    elim (cases_Bool (test place)) [
      | inl pass ↦ rw pass refl
      | inr fail ↦ rw fail (stored_any test places values (omega (arith, few)) (rw fail at any))
    ]

pub few_places : (regions : List Region) (right at n : ℕ) → length (places_of regions right at n) ≤ n
few_places regions right at zero = omega arith
few_places regions right at (suc n) = one_more (place_of regions right at) (places_of regions right (at + 1) n) (few_places regions right (at + 1) n)
  where
    one_more : (place : Option Place) (places : List Place) → length places ≤ n → length (cons_option place places) ≤ suc n
    one_more None places few = omega (arith, few)
    one_more (Some place) places few = omega (arith, few)

number_bytes : (n value : ℕ) → length (bytes_of_number n value) ≡ n
number_bytes zero value = refl
number_bytes (suc n) value = ap (λ (k : ℕ). suc k) (number_bytes n (value / 2 ^ 8))

-- Bytes on one page.

abbrev pub IsCoveredByOne : Type 0
IsCoveredByOne = (regions : List Region) (right at count : ℕ) → 1 ≤ count → at % PAGE_BYTES + count ≤ PAGE_BYTES → is_covered regions right at count ≡ is_some (find (covers right at) regions)

-- an access at a multiple of its size is on one page
by_power : (n at : ℕ) → n < 4 → at % 2 ^ n ≡ 0 → (1 ≤ 2 ^ n) × (at % PAGE_BYTES + 2 ^ n ≤ PAGE_BYTES)
by_power zero at small aligned = (omega arith, omega arith)
by_power (suc zero) at small aligned = (omega arith, omega (arith, aligned))
by_power (suc (suc zero)) at small aligned = (omega arith, omega (arith, aligned))
by_power (suc (suc (suc zero))) at small aligned = (omega arith, omega (arith, aligned))
by_power (suc (suc (suc (suc n)))) at small aligned = absurd (omega (arith, small))

pub on_page : (op at : ℕ) → at % size_of op ≡ 0 → (1 ≤ size_of op) × (at % PAGE_BYTES + size_of op ≤ PAGE_BYTES)
on_page op at aligned = by_power (op % 4) at (omega arith) aligned

found_there : (regions : List Region) (right at : ℕ) (place : Place) → place_of regions right at ≡ Some place → is_some (find (covers right at) regions) ≡ true
found_there regions right at place is = by_region (find (covers right at) regions) is
  where
    by_region : (found : Option Region) → option_map (place_in at) found ≡ Some place → is_some found ≡ true
    by_region None e = absurd (cc)
    by_region (Some region) e = refl

pub covered_there : IsCoveredByOne → (regions : List Region) (right at count : ℕ) (place : Place) → 1 ≤ count → at % PAGE_BYTES + count ≤ PAGE_BYTES → place_of regions right at ≡ Some place →
    is_covered regions right at count ≡ true
covered_there law regions right at count place some fits is = law regions right at count some fits ∙ found_there regions right at place is

-- What an instruction does by its plan.

plan_known : (covered : Bool) (found : Option Instr) (regs : Regs) (plan : Plan) → (if covered then option_map (λ instr. effect instr regs) found else None) ≡ Some plan →
    (covered ≡ true) × ((instr : Instr) × (found ≡ Some instr) × (effect instr regs ≡ plan))
plan_known true (Some instr) regs plan e = (refl, (instr, refl, cc))
plan_known true None regs plan e = absurd (cc)
plan_known false found regs plan e = absurd (cc)

pub plan_instr : (w : World) (thread : ThreadRecord) (plan : Plan) → plan_of w.now thread ≡ Some plan →
    (is_covered (seen_by w.now thread) EXECUTE thread.pc INSTRUCTION_BYTES ≡ true)
    × ((instr : Instr) × (decoded (value_at w.now (fetched w.now thread)) ≡ Some instr) × (effect instr (regs_of thread) ≡ plan))
plan_instr w thread plan is =
    plan_known (is_covered (seen_by w.now thread) EXECUTE thread.pc INSTRUCTION_BYTES) (decoded (value_at w.now (fetched w.now thread))) (regs_of thread) plan is

pub plan_does : (w : World) (id : ℕ) (thread : ThreadRecord) (plan : Plan) → plan_of w.now thread ≡ Some plan →
    instruction w id thread ≡ with_fetch (fetched w.now thread) (carried_out w id thread plan)
unfolding instruction
plan_does w id thread plan is =
    let known = plan_instr w thread plan is in
    rw known.0 (ap (λ (i : Option Instr). with_fetch (fetched w.now thread) (obeyed w id thread i)) known.1.1
    ∙ ap (λ (p : Plan). with_fetch (fetched w.now thread) (carried_out w id thread p)) known.1.2)

-- so by the call that it names, where that isn't refused
pub call_does : (w : World) (id : ℕ) (thread : ThreadRecord) (call : PlainCall) → plan_of w.now thread ≡ Some Call → call_named thread ≡ Some call → refusal_of w id thread call ≡ None →
    instruction w id thread ≡ with_fetch (fetched w.now thread) (effect_of_call w id thread call)
call_does w id thread call is named unrefused =
    plan_does w id thread Call is ∙ ap (λ (e : Effect). with_fetch (fetched w.now thread) e)
    (ap (λ (n : Option PlainCall). called w id thread n) named ∙ ap (λ (r : Option Refusal). unless_refused w id thread call r) unrefused)

module _ (w : World) (id : ℕ) (thread : ThreadRecord) (test : Place → Bool) where
  -- the bytes that are fetched are loaded
  pub fetch_loads : is_covered (seen_by w.now thread) EXECUTE thread.pc INSTRUCTION_BYTES ≡ true → list_any test (fetched w.now thread) ≡ true → list_any test (instruction w id thread).loads ≡ true
  unfolding instruction
  fetch_loads covered any = rw covered (any_first test (fetched w.now thread) (obeyed w id thread (decoded (value_at w.now (fetched w.now thread)))).loads any)

  pub load_loads : (op rd at : ℕ) → plan_of w.now thread ≡ Some (Load op rd at) → is_covered (seen_by w.now thread) READ at (size_of op) ≡ true →
      list_any test (places_of (seen_by w.now thread) READ at (size_of op)) ≡ true → list_any test (instruction w id thread).loads ≡ true
  load_loads op rd at is covered any =
      ap (λ (e : Effect). list_any test e.loads) (plan_does w id thread (Load op rd at) is)
      ∙ rw covered (any_last test (fetched w.now thread) (places_of (seen_by w.now thread) READ at (size_of op)) any)

  pub store_stores : (op at value : ℕ) → plan_of w.now thread ≡ Some (Store op at value) → is_covered (seen_by w.now thread) WRITE at (size_of op) ≡ true →
      list_any test (places_of (seen_by w.now thread) WRITE at (size_of op)) ≡ true → list_any (λ store. test store.place) (instruction w id thread).stores ≡ true
  store_stores op at value is covered any =
      let few = few_places (seen_by w.now thread) WRITE at (size_of op) in
      let bytes = number_bytes (size_of op) value in
      ap (λ (e : Effect). list_any (λ store. test store.place) e.stores) (plan_does w id thread (Store op at value) is)
      ∙ rw covered (stored_any test (places_of (seen_by w.now thread) WRITE at (size_of op)) (bytes_of_number (size_of op) value) (omega (arith, few, bytes)) any)

  -- what a put loads, and the page on which its entry comes to stand
  pub put_loads : plan_of w.now thread ≡ Some Call → call_named thread ≡ Some Put → refusal_of w id thread Put ≡ None →
      list_any test (places_of (seen_by w.now thread) READ (arg thread 1) (arg thread 2)) ≡ true → list_any test (instruction w id thread).loads ≡ true
  unfolding effect_of_call
  put_loads is named unrefused any =
      ap (λ (e : Effect). list_any test e.loads) (call_does w id thread Put is named unrefused)
      ∙ any_last test (fetched w.now thread) (places_of (seen_by w.now thread) READ (arg thread 1) (arg thread 2)) any

  pub get_stores : plan_of w.now thread ≡ Some Call → call_named thread ≡ Some Get → refusal_of w id thread Get ≡ None →
      list_any test (places_of (seen_by w.now thread) WRITE (arg thread 1) (count_got w.now thread)) ≡ true → list_any (λ store. test store.place) (instruction w id thread).stores ≡ true
  unfolding effect_of_call
  get_stores is named unrefused any =
      let input = slice_index_or w.now.inputs 0 [] in
      let few = few_places (seen_by w.now thread) WRITE (arg thread 1) (count_got w.now thread) in
      let bytes = length-take (count_got w.now thread) input in
      ap (λ (e : Effect). list_any (λ store. test store.place) e.stores) (call_does w id thread Get is named unrefused)
      ∙ stored_any test (places_of (seen_by w.now thread) WRITE (arg thread 1) (count_got w.now thread)) (take (count_got w.now thread) input) (omega (arith, few, bytes)) any

pub put_stores : (w : World) (id : ℕ) (thread : ThreadRecord) → plan_of w.now thread ≡ Some Call → call_named thread ≡ Some Put → refusal_of w id thread Put ≡ None →
    stores_to w.now (instruction w id thread) (page_of_channel (channel_of (named w.now thread 0))) ≡ true
unfolding effect_of_call
put_stores w id thread is named_is unrefused =
    ap (λ (e : Effect). stores_to w.now e (page_of_channel (channel_of (named w.now thread 0)))) (call_does w id thread Put is named_is unrefused)
    ∙ eq-eqb (page_of_channel (channel_of (named w.now thread 0))) (page_of_channel (channel_of (named w.now thread 0))) refl
