-- A page to which a tick stores is of an object that it changes, so what it doesn't change was saved with its marks.
use Rattle.std.specs.Prelude.{◌≡◌, ℕ, ◌+◌, ◌<◌, ◌≤◌, ◌==◌, ◌&&◌, ◌||◌, nat_lt, Bool, true, false, List, [], ◌∷◌, map}
use Rattle.std.specs.Prelude.{AllPairs, Contains, Option, Some, None}
use Rattle.std.specs.List.{list_any}
use Rattle.std.proofs.Common.{refl, ap, sym, subst, ◌∙◌, arith, inl, inr}
use Rattle.std.proofs.Math.Bool.{and-false}
use Rattle.std.proofs.lemmas.Bool.{cases_Bool, cases_lt, eq-eqb, eqb-true, le-ltb, lt-ltb, false≢true}
use Rattle.std.proofs.lemmas.List.Elements.{Contains-append_right}
use Rattle.sls_base.specs.declared.limits.TheConstants.{OUTPUT_CHANNELS}
use Rattle.sls_base.specs.declared.fixed.TheConstants.{FIRST_OUTPUT_RING, SCHEDULER}
use Rattle.sls_base.specs.declared.thread.Ring.{Ring}
use Rattle.sls_base.proofs.ListTests.{or_cases, or_false, or_left, or_right}
use Rattle.mem_space.specs.declared.memory.MemPage.{MemPage}
use Rattle.plain_state.specs.declared.effect.ByteStore.{ByteStore}
use Rattle.plain_state.specs.declared.effect.Output.{Output}
use Rattle.plain_state.specs.Objects.{Page, page_numbers}
use Rattle.plain_state.specs.States.{State, thread_at}
use Rattle.plain_state.specs.Memory.{page_at}
use Rattle.plain_state.specs.Worlds.{World}
use Rattle.plain_state.specs.Ticks.{Chosen, chosen, effect_for, must_store, puts_to_page, puts_to_ring, stores_for}
use Rattle.plain_state.specs.Ticks.{stores_to, tick, ticked, writes}
use Rattle.plain_laws.specs.Fixed.{HasFixedObjects}
use Rattle.plain_laws.specs.Sound.{AreApart}
use Rattle.plain_laws.specs.Whole.{IsSound}
use Rattle.plain_laws.proofs.StoresThere.{AllThere, HasRing, instruction_there, number_there}
use Rattle.plain_laws.proofs.Tracked.{unchanged_by}
use Rattle.kobj_table.specs.declared.slot.Slot.{Slot}
use Rattle.kobj_table.specs.Slots.{object_of, page_of}
use Rattle.version_rooms.specs.declared.rooms.Rooms.{Rooms}
use Rattle.core_turns.specs.Marks.{page_again, ring_again, slot_again, was_fresh}
use Rattle.core_turns.proofs.Marking.{IsRingInPlace, output_has}

abbrev pub has_number : ℕ → List ℕ → Bool
has_number page numbers = list_any (λ number. number == page) numbers

pub contains_number : (numbers : List ℕ) (page : ℕ) → has_number page numbers ≡ true → Contains numbers page
contains_number [] page is = absurd (cc)
contains_number (x ∷ xs) page is = elim (or_cases (x == page) (has_number page xs) is) [
  | inl here ↦ (0, omega arith, eqb-true x page here)
  | inr there ↦ Contains-append_right (x ∷ []) xs page (contains_number xs page there)
]

-- What is stored to.

stored_in : (s : State) (stores : List ByteStore) (i page : ℕ) → AreApart s → AllThere s stores
    → Contains (page_numbers (s.objects i)) page
    → list_any (λ store. (page_at s.objects store.place).number == page) stores ≡ true
    → list_any (λ store. store.place.memory == i) stores ≡ true
stored_in s [] i page apart there has is = absurd (cc)
stored_in s (store ∷ stores) i page apart there has is =
    let memory = store.place.memory in
    elim (or_cases ((page_at s.objects store.place).number == page)
    (list_any (λ other. (page_at s.objects other.place).number == page) stores) is) [
      | inl here ↦
          let at = eqb-true (page_at s.objects store.place).number page here in
          let own = contains_number (page_numbers (s.objects memory)) page
          (number_there (s.objects memory) store.place.page page there.0 at) in
          or_left (memory == i) (list_any (λ other. other.place.memory == i) stores)
          (eq-eqb memory i (apart.apart memory i page own has))
      | inr behind ↦
          or_right (memory == i) (list_any (λ other. other.place.memory == i) stores)
          (stored_in s stores i page apart there.1 has behind)
    ]

put_in : (s : State) (output : Option Output) (i page : ℕ) → AreApart s → HasFixedObjects s → HasRing s output
    → Contains (page_numbers (s.objects i)) page → puts_to_page output page ≡ true → puts_to_ring output i ≡ true
put_in s None i page apart fixed ring has is = absurd (cc)
put_in s (Some output) i page apart fixed ring has is =
    let place = FIRST_OUTPUT_RING + output.channel in
    let at : output.channel ≡ page = eqb-true output.channel page is in
    let own = subst (λ (numbers : List ℕ). Contains numbers page) (sym (fixed.pages output.channel ring.0)) (0, omega arith, at) in
    eq-eqb place i (apart.apart place i page own has)

stored_writes : (w : World) (c : Chosen) (i page : ℕ) → IsSound w → has_number page (page_numbers (w.now.objects i)) ≡ true
    → stores_to w.now (effect_for w c) page ≡ true → writes (effect_for w c) i ≡ true
stored_writes w c i page sound has is =
    let e = effect_for w c in
    let me = c.occupant.thread in
    let there = instruction_there w me (thread_at w.now me) sound.forms.0 sound.names.0 in
    let own = contains_number (page_numbers (w.now.objects i)) page has in
    let changes = list_any (λ change. change.id == i) e.changes in
    let stores = list_any (λ store. store.place.memory == i) e.stores in
    elim (or_cases (list_any (λ store. (page_at w.now.objects store.place).number == page) e.stores)
    (puts_to_page e.output page) is) [
      | inl stored ↦
          or_right changes (stores || puts_to_ring e.output i)
          (or_left stores (puts_to_ring e.output i) (stored_in w.now e.stores i page sound.apart.0 there.stores own stored))
      | inr put ↦
          or_right changes (stores || puts_to_ring e.output i)
          (or_right stores (puts_to_ring e.output i)
          (put_in w.now e.output i page sound.apart.0 sound.fixed.0 there.output own put))
    ]

-- no page of an object that a tick doesn't change is stored to

unstored_by : (w : World) (core i page : ℕ) (o : Option Chosen) → IsSound w
    → has_number page (page_numbers (w.now.objects i)) ≡ true → (ticked w core o).changed i ≡ false
    → stores_for w o page ≡ false
unstored_by w core i page None sound has unchanged = refl
unstored_by w core i page (Some c) sound has unchanged =
    elim (cases_Bool (stores_to w.now (effect_for w c) page)) [
      | inr none ↦ none
      | inl stored ↦
          absurd (false≢true (sym (unchanged_by w c (effect_for w c) i unchanged).written ∙ stored_writes w c i page sound has stored))
    ]

pub unstored : (w : World) (core i page : ℕ) → IsSound w → has_number page (page_numbers (w.now.objects i)) ≡ true
    → (tick w core).changed i ≡ false → must_store w core page ≡ false
unstored w core i page sound has unchanged = unstored_by w core i page (chosen w.now core) sound has unchanged

unchanged_before : (w : World) (core i : ℕ) (o : Option Chosen) → (ticked w core o).changed i ≡ false → w.changed i ≡ false
unchanged_before w core i None unchanged = unchanged
unchanged_before w core i (Some c) unchanged = (unchanged_by w c (effect_for w c) i unchanged).before

pub was_unchanged : (w : World) (core i : ℕ) → (tick w core).changed i ≡ false → w.changed i ≡ false
was_unchanged w core i unchanged = unchanged_before w core i (chosen w.now core) unchanged

-- Marks are again the same where the same pages of an object were fresh.

module _ (r t : Rooms) where
  pages_again : (content : ℕ → ℕ → ℕ) (items : List MemPage)
      → ((page : ℕ) → has_number page (map (λ (p : Page). p.number) (map (page_of content) items)) ≡ true
      → was_fresh t page ≡ was_fresh r page)
      → map (page_again t) items ≡ map (page_again r) items
  pages_again content [] same = refl
  pages_again content (p ∷ items) same =
      let behind = has_number p.page (map (λ (q : Page). q.number) (map (page_of content) items)) in
      let here = same p.page (or_left (p.page == p.page) behind (eq-eqb p.page p.page refl)) in
      ap (λ (b : Bool). record p { fresh = p.fresh || b } ∷ map (page_again t) items) here
      ∙ ap (λ (l : List MemPage). page_again r p ∷ l)
      (pages_again content items (λ page has. same page (or_right (p.page == page) _ has)))

  ring_same : (ring : Ring) → IsRingInPlace (Slot.Ring ring)
      → ((page : ℕ) → has_number page (page_numbers (object_of (λ n offset. 0) (Slot.Ring ring) [])) ≡ true
      → was_fresh t page ≡ was_fresh r page)
      → ring_again t ring ≡ ring_again r ring
  ring_same ring place same = elim (cases_lt ring.channel OUTPUT_CHANNELS) [
    | inl output ↦
        let own = output_has ring.page ring.channel output ∙ eq-eqb ring.channel ring.page (sym (place.1 output)) in
        ap (λ (b : Bool). record ring { fresh = ring.fresh || b && nat_lt ring.channel OUTPUT_CHANNELS }) (same ring.page own)
    | inr input ↦
        let off = le-ltb ring.channel OUTPUT_CHANNELS input in
        ap (λ (b : Bool). record ring { fresh = ring.fresh || was_fresh t ring.page && b }) off
        ∙ ap (λ (b : Bool). record ring { fresh = ring.fresh || b })
        (and-false (was_fresh t ring.page) ∙ sym (and-false (was_fresh r ring.page)))
        ∙ sym (ap (λ (b : Bool). record ring { fresh = ring.fresh || was_fresh r ring.page && b }) off)
  ]

  pub slot_again_same : (content : ℕ → ℕ → ℕ) (slot : Slot) (threads : List ℕ) → IsRingInPlace slot
      → ((page : ℕ) → has_number page (page_numbers (object_of content slot threads)) ≡ true
      → was_fresh t page ≡ was_fresh r page)
      → slot_again t slot ≡ slot_again r slot
  slot_again_same content Slot.Empty threads place same = refl
  slot_again_same content (Slot.Group group) threads place same = refl
  slot_again_same content (Slot.Thread thread) threads place same = refl
  slot_again_same content (Slot.Space space) threads place same = refl
  slot_again_same content (Slot.Memory memory) threads place same =
      ap (λ (items : List MemPage). Slot.Memory (record { pages = record { items = items } }))
      (pages_again content memory.pages.items same)
  slot_again_same content (Slot.Connection c) threads place same = refl
  slot_again_same content (Slot.Notification note) threads place same = refl
  slot_again_same content (Slot.Ring ring) threads place same = ap (λ (x : Ring). Slot.Ring x) (ring_same ring place same)
  slot_again_same content (Slot.Scheduler cores) threads place same = refl
