-- A byte of a page: the one memory object that has the page changes, and no other object.
use Rattle.std.specs.Prelude.{◌≡◌, ◌≢◌, ℕ, zero, suc, ◌+◌, ◌-◌, ◌<◌, ◌==◌, Bool, true, false, if◌then◌else◌, List, [], ◌∷◌, length, map, Option, Some, slice_index_or, slice_set}
use Rattle.std.proofs.Common.{refl, ap, sym, ◌∙◌, arith, inl, inr}
use Rattle.std.proofs.lemmas.Bool.{eqb-true, eqb-false, cases_Bool, cases_eq, eq-eqb, ne_eqb}
use Rattle.std.proofs.lemmas.Bool.Decides.{nat_tests}
use mathlib.Core.Path.{fun_ext}
use Rattle.mem_space.specs.declared.memory.MemPage.{MemPage}
use Rattle.mem_space.specs.declared.memory.Memory.{Memory as Pages}
use Rattle.kobj_table.specs.declared.objects.Objects.{Objects}
use Rattle.kobj_table.specs.declared.slot.Slot.{Slot}
use Rattle.kobj_table.specs.Slots.{object_of, page_of, bytes_of}
use Rattle.kobj_table.specs.Objects.{slot_at, object_at}
use Rattle.plain_state.specs.declared.effect.ByteStore.{ByteStore}
use Rattle.plain_state.specs.Objects.{Object, Memory, Page}
use Rattle.plain_state.specs.Memory.{page_with, memory_with, with_store, with_stores, no_page}
use Rattle.pmem_model.specs.Words.{is_within}
use Rattle.page_bytes.specs.Bytes.{overwritten, with_bytes}

-- pages with one byte of one page another
abbrev pub with_byte : (ℕ → ℕ → ℕ) → ℕ → ℕ → ℕ → ℕ → ℕ → ℕ
with_byte content page at value number offset =
    if number == page then (if offset == at then value else content number offset) else content number offset

-- bytes behind one another: the first, and then the others
first_then : (byte : ℕ → ℕ) (at value : ℕ) (values : List ℕ) (offset : ℕ)
    → overwritten byte at (value ∷ values) offset ≡ overwritten (λ o. if o == at then value else byte o) (at + 1) values offset
first_then byte at value values offset = elim (cases_eq offset at) [
  | inl here ↦
      let this : is_within at (length (value ∷ values)) offset ≡ true = grind (arith, nat_tests) in
      let others : is_within (at + 1) (length values) offset ≡ false = grind (arith, nat_tests) in
      let place : offset - at ≡ 0 = omega arith in
      rw (this, others, place, eq-eqb offset at here) refl
  | inr ne ↦ elim (cases_Bool (is_within (at + 1) (length values) offset)) [
    | inl hit ↦
        let this : is_within at (length (value ∷ values)) offset ≡ true = grind (arith, nat_tests, hit) in
        let place : offset - at ≡ suc (offset - (at + 1)) = grind (arith, nat_tests, hit) in
        rw (this, hit, place) refl
    | inr miss ↦
        let this : is_within at (length (value ∷ values)) offset ≡ false = grind (arith, nat_tests, miss, ne) in
        rw (this, miss, ne_eqb offset at ne) refl
  ]
]

pub bytes_by_byte : (content : ℕ → ℕ → ℕ) (page at value : ℕ) (values : List ℕ)
    → with_bytes content page at (value ∷ values) ≡ with_bytes (with_byte content page at value) page (at + 1) values
bytes_by_byte content page at value values = fun_ext (λ number. fun_ext (λ offset. each number offset))
  where
    each : (number offset : ℕ) → with_bytes content page at (value ∷ values) number offset ≡ with_bytes (with_byte content page at value) page (at + 1) values number offset
    each number offset = elim (cases_eq number page) [
      | inl here ↦
          let byte : ℕ → ℕ = λ o. if o == at then value else content number o in
          let stored : with_byte content page at value number ≡ byte = fun_ext (λ o. rw (eq-eqb number page here) refl) in
          let both : overwritten byte (at + 1) values offset ≡ overwritten (with_byte content page at value number) (at + 1) values offset =
          ap (λ (b : ℕ → ℕ). overwritten b (at + 1) values offset) (sym stored) in
          let same = eq-eqb number page here in
          let left : with_bytes content page at (value ∷ values) number offset ≡ overwritten (content number) at (value ∷ values) offset = rw same refl in
          let right : with_bytes (with_byte content page at value) page (at + 1) values number offset
          ≡ overwritten (with_byte content page at value number) (at + 1) values offset =
          ap (λ (b : Bool). (if b then overwritten (with_byte content page at value number) (at + 1) values else with_byte content page at value number) offset) same in
          left ∙ first_then (content number) at value values offset ∙ both ∙ sym right
      | inr ne ↦
          let other = ne_eqb number page ne in
          let left : with_bytes content page at (value ∷ values) number offset ≡ content number offset = rw other refl in
          let kept : with_byte content page at value number offset ≡ content number offset = rw other refl in
          let right : with_bytes (with_byte content page at value) page (at + 1) values number offset ≡ with_byte content page at value number offset =
          ap (λ (b : Bool). (if b then overwritten (with_byte content page at value number) (at + 1) values else with_byte content page at value number) offset) other in
          left ∙ sym (right ∙ kept)
    ]

pub no_bytes : (content : ℕ → ℕ → ℕ) (page at : ℕ) → with_bytes content page at [] ≡ content
no_bytes content page at = fun_ext (λ number. fun_ext (λ offset. each number offset))
  where
    each : (number offset : ℕ) → with_bytes content page at [] number offset ≡ content number offset
    each number offset =
        let none : is_within at 0 offset ≡ false = grind (arith, nat_tests) in
        elim (cases_Bool (number == page)) [
          | inl hit ↦ rw (hit, none) refl
          | inr miss ↦ rw miss refl
        ]

abbrev page_made : ℕ → (ℕ → ℕ) → Page
page_made number f = record { number = number; byte = f }

abbrev pub no_mem : MemPage
no_mem = record { page = 0; fresh = true }

-- a page has nothing stored to it: its bytes stay
page_kept : (content : ℕ → ℕ → ℕ) (page at value : ℕ) (p : MemPage) → p.page ≢ page → page_of (with_byte content page at value) p ≡ page_of content p
page_kept content page at value p other =
    ap (page_made p.page) (same p.fresh) where
      same : (fresh : Bool) → bytes_of (with_byte content page at value) p.page fresh ≡ bytes_of content p.page fresh
      same true = refl
      same false = fun_ext (λ offset. rw (ne_eqb p.page page other) refl)

pages_kept : (content : ℕ → ℕ → ℕ) (page at value : ℕ) (pages : List MemPage) → ((j : ℕ) → j < length pages → (slice_index_or pages j no_mem).page ≢ page)
    → map (page_of (with_byte content page at value)) pages ≡ map (page_of content) pages
pages_kept content page at value [] other = refl
pages_kept content page at value (p ∷ pages) other =
    let head = page_kept content page at value p (other 0 (omega arith)) in
    let tail = pages_kept content page at value pages (λ j l. other (suc j) (omega arith)) in
    rw head (rw tail refl)

page_stored : (content : ℕ → ℕ → ℕ) (page at value : ℕ) (p : MemPage) → p.page ≡ page → p.fresh ≡ false → page_of (with_byte content page at value) p ≡ page_with (page_of content p) at value
page_stored content page at value p here stored = rw stored (ap (page_made p.page) (fun_ext (λ offset. rw (eq-eqb p.page page here) refl)))

pages_stored : (content : ℕ → ℕ → ℕ) (page at value : ℕ) (pages : List MemPage) (index : ℕ) → index < length pages →
    (slice_index_or pages index no_mem).page ≡ page → (slice_index_or pages index no_mem).fresh ≡ false → ((j : ℕ) → j < length pages → (slice_index_or pages j no_mem).page ≡ page → j ≡ index) →
    map (page_of (with_byte content page at value)) pages ≡ slice_set (map (page_of content) pages) index (page_with (slice_index_or (map (page_of content) pages) index no_page) at value)
pages_stored content page at value [] index l here stored only = absurd (omega arith)
pages_stored content page at value (p ∷ pages) zero l here stored only =
    let head = page_stored content page at value p here stored in
    let tail = pages_kept content page at value pages (λ j m e. let f = only (suc j) (omega arith) e in absurd (omega arith)) in
    rw head (rw tail refl)
pages_stored content page at value (p ∷ pages) (suc index) l here stored only =
    let head = page_kept content page at value p (λ e. let f = only 0 (omega arith) e in absurd (omega arith)) in
    let tail = pages_stored content page at value pages index (omega arith) here stored (λ j m e. let f = only (suc j) (omega arith) e in omega arith) in
    rw head (rw tail refl)

-- a page is at an index of one memory object alone, and isn't fresh
pub record OnPage (o : Objects) (memory index page : ℕ) : Type 0 where
  pub pages : Pages
  pub there : slot_at o memory ≡ Slot.Memory pages
  pub within : index < length pages.pages.items
  pub number : (slice_index_or pages.pages.items index no_mem).page ≡ page
  pub stored : (slice_index_or pages.pages.items index no_mem).fresh ≡ false
  pub once : (j : ℕ) → j < length pages.pages.items → (slice_index_or pages.pages.items j no_mem).page ≡ page → j ≡ index
  pub apart : (i : ℕ) (others : Pages) → i ≢ memory → slot_at o i ≡ Slot.Memory others → (j : ℕ) → j < length others.pages.items → (slice_index_or others.pages.items j no_mem).page ≢ page

other_slot : (content : ℕ → ℕ → ℕ) (page at value : ℕ) (slot : Slot) (listed : List ℕ) → ((others : Pages) → slot ≡ Slot.Memory others → (j : ℕ) → j < length others.pages.items → (slice_index_or others.pages.items j no_mem).page ≢ page)
    → object_of (with_byte content page at value) slot listed ≡ object_of content slot listed
other_slot content page at value Slot.Empty listed apart = refl
other_slot content page at value (Slot.Group g) listed apart = refl
other_slot content page at value (Slot.Thread t) listed apart = refl
other_slot content page at value (Slot.Space s) listed apart = refl
other_slot content page at value (Slot.Memory m) listed apart = ap (λ (ps : List Page). Some (Memory ps)) (pages_kept content page at value m.pages.items (apart m refl))
other_slot content page at value (Slot.Connection c) listed apart = refl
other_slot content page at value (Slot.Notification n) listed apart = refl
other_slot content page at value (Slot.Ring r) listed apart = refl
other_slot content page at value (Slot.Scheduler c) listed apart = refl

byte_by : (o : Objects) (content : ℕ → ℕ → ℕ) (memory index page at value i : ℕ) (b : Bool) → (i == memory) ≡ b → OnPage o memory index page →
    object_at (with_byte content page at value) o i ≡ (if b then memory_with (object_at content o i) (record { memory = memory; page = index; offset = at }) value else object_at content o i)
byte_by o content memory index page at value i true same h =
    let here = eqb-true i memory same in
    rw here (rw h.there (ap (λ (ps : List Page). Some (Memory ps)) (pages_stored content page at value h.pages.pages.items index h.within h.number h.stored h.once)))
byte_by o content memory index page at value i false same h =
    other_slot content page at value (slot_at o i) _ (λ others is. h.apart i others (eqb-false i memory same) is)

-- a byte of a page is that byte's store, in all objects
pub byte_stored : (o : Objects) (content : ℕ → ℕ → ℕ) (memory index page at value : ℕ) → OnPage o memory index page →
    object_at (with_byte content page at value) o ≡ with_store (object_at content o) (record { place = record { memory = memory; page = index; offset = at }; value = value })
byte_stored o content memory index page at value h = fun_ext (λ i. byte_by o content memory index page at value i (i == memory) refl h)

-- the stores of bytes behind one another on a page
abbrev pub stores_on : ℕ → ℕ → ℕ → List ℕ → List ByteStore
stores_on memory index at [] = []
stores_on memory index at (value ∷ values) = record { place = record { memory = memory; page = index; offset = at }; value = value } ∷ stores_on memory index (at + 1) values

pub bytes_stored : (o : Objects) (content : ℕ → ℕ → ℕ) (memory index page at : ℕ) (values : List ℕ) → OnPage o memory index page →
    object_at (with_bytes content page at values) o ≡ with_stores (object_at content o) (stores_on memory index at values)
bytes_stored o content memory index page at [] h = ap (λ (f : ℕ → ℕ → ℕ). object_at f o) (no_bytes content page at)
bytes_stored o content memory index page at (value ∷ values) h =
    ap (λ (f : ℕ → ℕ → ℕ). object_at f o) (bytes_by_byte content page at value values)
    ∙ bytes_stored o (with_byte content page at value) memory index page (at + 1) values h
    ∙ ap (λ (f : ℕ → Option Object). with_stores f (stores_on memory index (at + 1) values)) (byte_stored o content memory index page at value h)
