-- Pages after a tick: those that it doesn't store to stay.
use Rattle.std.specs.Prelude.{◌≡◌, ◌≢◌, ℕ, zero, suc, ◌-◌, ◌==◌, true, false, if◌then◌else◌, List, [], ◌∷◌, Option, Some, None, slice_get, slice_index_or, slice_set}
use Rattle.std.specs.List.{list_any}
use Rattle.std.proofs.Common.{refl, ap, sym, ◌∙◌, inl, inr}
use Rattle.std.proofs.lemmas.Bool.{cases_eq, eq-eqb, ne_eqb}
use Rattle.std.proofs.lemmas.Option.{get_or_from_slice_get}
use Rattle.plain_state.specs.declared.effect.ByteStore.{ByteStore}
use Rattle.plain_state.specs.declared.effect.Place.{Place}
use Rattle.plain_model.specs.Objects.{Object, Thread, Memory, Page, page_numbers, pages_of, every_object}
use Rattle.plain_model.specs.States.{thread_at}
use Rattle.plain_model.specs.Memory.{memory_with, page_with, no_page, page_at, with_store, with_stores}
use Rattle.plain_model.specs.Worlds.{World, has_page}
use Rattle.plain_model.specs.Effects.{Change}
use Rattle.plain_model.specs.Ticks.{Chosen, chosen, tick, ticked, effect_for, world_of_effect, state_of_effect, with_changes, thread_after, at_slice_end, stores_to, puts_to_page}
use Rattle.plain_laws.specs.Places.{IsPlaced}
use Rattle.plain_laws.specs.Kept.{page_of}
use Rattle.plain_laws.specs.Ticks.{KeepsPages, KeepsPageNumbers}
use Rattle.sls_base.proofs.ListTests.{any_in, in_any, or_false}
use Rattle.plain_laws.proofs.Changes.{other_object, tick_is}
use Rattle.plain_laws.proofs.Apart.{store_at_same}
use Rattle.plain_laws.proofs.PlacedTicks.{taken}
use Rattle.plain_laws.proofs.Overwrites.{HadNone, stands_has_none, instruction_over_none}

-- Objects with pages.

pub has_no_pages : (o : Option Object) → page_numbers o ≡ [] → pages_of o ≡ []
has_no_pages (Some (Memory [])) e = refl
has_no_pages (Some (Memory (page ∷ pages))) e = absurd (cc)
has_no_pages o e = refl

-- an object with a page has page numbers
pub has_numbers : (o : Option Object) (k : ℕ) (page : Page) → slice_get (pages_of o) k ≡ Some page → page_numbers o ≢ []
has_numbers o k page e none =
    let f : slice_get (pages_of o) k ≡ None = ap (λ (pages : List Page). slice_get pages k) (has_no_pages o none) in
    absurd (cc)

-- Changes.

pub changed_elsewhere : (changes : List Change) (objects now : ℕ → Option Object) (i : ℕ) → HadNone objects changes → page_numbers (objects i) ≢ [] → with_changes now changes i ≡ now i
changed_elsewhere [] objects now i h some = refl
changed_elsewhere (change ∷ changes) objects now i h some =
    let ne : i ≢ change.id = λ same. some (ap (λ (j : ℕ). page_numbers (objects j)) same ∙ h.0) in
    changed_elsewhere changes objects (λ j. if j == change.id then Some change.object else now j) i h.1 some ∙ other_object now change.id change.object i ne

-- the tick leaves an object with pages to its stores alone
pub tick_stores : (w : World) (core : ℕ) (c : Chosen) → IsPlaced w.now → chosen w.now core ≡ Some c → (i : ℕ) → page_numbers (w.now.objects i) ≢ []
    → (world_of_effect w core c (effect_for w c)).now.objects i ≡ with_stores w.now.objects (effect_for w c).stores i
unfolding state_of_effect
tick_stores w core c placed chose i some =
    let e = effect_for w c in
    let me = c.occupant.thread in
    let t = taken w.now core c chose placed in
    let none = stands_has_none w.now me t.place placed t.stood in
    let ne : i ≢ me = λ same. some (ap (λ (j : ℕ). page_numbers (w.now.objects j)) same ∙ none) in
    other_object (with_changes (with_stores w.now.objects e.stores) e.changes) me (Thread (thread_after core (thread_at w.now me) (at_slice_end (c.occupant.slice - 1) e.goes) e)) i ne
    ∙ changed_elsewhere e.changes w.now.objects (with_stores w.now.objects e.stores) i (instruction_over_none w me (thread_at w.now me) placed) some

-- Stores.

pub stores_same : (stores : List ByteStore) (objects : ℕ → Option Object) (i : ℕ) → page_numbers (with_stores objects stores i) ≡ page_numbers (objects i)
stores_same [] objects i = refl
stores_same (store ∷ stores) objects i =
    stores_same stores (with_store objects store) i ∙ store_at_same (objects i) store (i == store.place.memory)

pub other_slot : (pages : List Page) (k at : ℕ) (page : Page) → k ≢ at → slice_get (slice_set pages at page) k ≡ slice_get pages k
other_slot [] k at page ne = refl
other_slot (p ∷ pages) zero zero page ne = absurd (ne refl)
other_slot (p ∷ pages) zero (suc at) page ne = refl
other_slot (p ∷ pages) (suc k) zero page ne = refl
other_slot (p ∷ pages) (suc k) (suc at) page ne = other_slot pages k at page (λ same. ne (ap suc same))

pub other_page : (o : Option Object) (place : Place) (value k : ℕ) → k ≢ place.page → slice_get (pages_of (memory_with o place value)) k ≡ slice_get (pages_of o) k
other_page (Some (Memory pages)) place value k ne = other_slot pages k place.page (page_with (slice_index_or pages place.page no_page) place.offset value) ne
other_page o place value k ne = refl

-- a page that a store isn't to stays, in objects that have the pages of others where those were
pub store_keeps : (store : ByteStore) (objects now : ℕ → Option Object) (i k : ℕ) (page : Page) → slice_get (pages_of (objects i)) k ≡ Some page
    → ((page_at objects store.place).number == page.number) ≡ false → slice_get (pages_of (with_store now store i)) k ≡ slice_get (pages_of (now i)) k
store_keeps store objects now i k page is other = elim (cases_eq i store.place.memory) [
  | inl same ↦ rw (eq-eqb i store.place.memory same) (other_page (now i) store.place store.value k (λ at.
      let here : page_at objects store.place ≡ page =
      ap (λ (j : ℕ). slice_index_or (pages_of (objects j)) store.place.page no_page) (sym same)
      ∙ ap (λ (j : ℕ). slice_index_or (pages_of (objects i)) j no_page) (sym at)
      ∙ get_or_from_slice_get (pages_of (objects i)) k page no_page is in
      let number : ((page_at objects store.place).number == page.number) ≡ true = eq-eqb (page_at objects store.place).number page.number (ap (λ (p : Page). p.number) here) in
      absurd (cc)))
  | inr ne ↦ rw (ne_eqb i store.place.memory ne) refl
]

pub stores_keep : (stores : List ByteStore) (objects now : ℕ → Option Object) (i k : ℕ) (page : Page) → slice_get (pages_of (objects i)) k ≡ Some page
    → list_any (λ store. (page_at objects store.place).number == page.number) stores ≡ false → slice_get (pages_of (with_stores now stores i)) k ≡ slice_get (pages_of (now i)) k
stores_keep [] objects now i k page is other = refl
stores_keep (store ∷ stores) objects now i k page is other =
    let parts = or_false ((page_at objects store.place).number == page.number) (list_any (λ s. (page_at objects s.place).number == page.number) stores) other in
    stores_keep stores objects (with_store now store) i k page is parts.1 ∙ store_keeps store objects now i k page is parts.0

-- Ticks.

pub effect_keeps : (w : World) (core : ℕ) (c : Chosen) → IsPlaced w.now → chosen w.now core ≡ Some c → (i k : ℕ) (page : Page) → page_of w.now i k ≡ Some page
    → stores_to w.now (effect_for w c) page.number ≡ false → page_of (world_of_effect w core c (effect_for w c)).now i k ≡ Some page
effect_keeps w core c placed chose i k page is other =
    let e = effect_for w c in
    let parts = or_false (list_any (λ store. (page_at w.now.objects store.place).number == page.number) e.stores) (puts_to_page e.output page.number) other in
    ap (λ (o : Option Object). slice_get (pages_of o) k) (tick_stores w core c placed chose i (has_numbers (w.now.objects i) k page is))
    ∙ stores_keep e.stores w.now.objects w.now.objects i k page is parts.0
    ∙ is

pub tick_keeps_pages : (w : World) (core : ℕ) (c : Chosen) → IsPlaced w.now → chosen w.now core ≡ Some c → KeepsPages w core c
tick_keeps_pages w core c placed chose i k page is other =
    ap (λ (v : World). page_of v.now i k) (tick_is w core c chose) ∙ effect_keeps w core c placed chose i k page is other

-- a page that an object has is of one after the tick
pub effect_has_page : (w : World) (core : ℕ) (c : Chosen) → IsPlaced w.now → chosen w.now core ≡ Some c → (page : ℕ) → has_page w.now page ≡ true
    → has_page (world_of_effect w core c (effect_for w c)).now page ≡ true
unfolding has_page
effect_has_page w core c placed chose page h =
    let after = (world_of_effect w core c (effect_for w c)).now in
    let r = in_any (λ i. list_any (λ number. number == page) (page_numbers (w.now.objects i))) every_object h in
    let some : page_numbers (w.now.objects r.0) ≢ [] = λ none. (
    let f : list_any (λ number. number == page) (page_numbers (w.now.objects r.0)) ≡ false = ap (list_any (λ number. number == page)) none in
    let t = r.2 in
    absurd (cc)) in
    let same : page_numbers (after.objects r.0) ≡ page_numbers (w.now.objects r.0) =
    ap page_numbers (tick_stores w core c placed chose r.0 some) ∙ stores_same (effect_for w c).stores w.now.objects r.0 in
    any_in (λ i. list_any (λ number. number == page) (page_numbers (after.objects i))) every_object r.0 r.1 (ap (list_any (λ number. number == page)) same ∙ r.2)

-- the numbers of an object's pages

numbers_after : (w : World) (core : ℕ) (c : Option Chosen) → IsPlaced w.now → chosen w.now core ≡ c → (i : ℕ) → page_numbers (w.now.objects i) ≢ []
    → page_numbers ((tick w core).now.objects i) ≡ page_numbers (w.now.objects i)
numbers_after w core None placed e i some = ap (λ (v : World). page_numbers (v.now.objects i)) (ap (ticked w core) e)
numbers_after w core (Some c) placed e i some =
    ap (λ (v : World). page_numbers (v.now.objects i)) (tick_is w core c e)
    ∙ ap page_numbers (tick_stores w core c placed e i some)
    ∙ stores_same (effect_for w c).stores w.now.objects i

pub tick_keeps_numbers : (w : World) (core : ℕ) → IsPlaced w.now → KeepsPageNumbers w core
tick_keeps_numbers w core placed = numbers_after w core (chosen w.now core) placed refl
