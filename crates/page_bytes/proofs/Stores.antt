-- The stores to addresses of one page, where each page is of one object alone.
use Rattle.std.specs.Prelude.{◌≡◌, ◌≢◌, ℕ, zero, suc, ◌+◌, ◌%◌, ◌<◌, List, [], ◌∷◌, length, map, Contains, Some, slice_get, slice_index_or}
use Rattle.std.specs.List.{range_with_len}
use Rattle.std.proofs.Common.{refl, ap, sym, ◌∙◌, arith, inl, inr}
use Rattle.std.proofs.lemmas.Bool.{cases_eq, cases_lt}
use Rattle.sls_base.specs.declared.limits.TheConstants.{PAGE_BYTES}
use Rattle.mem_space.specs.declared.memory.MemPage.{MemPage}
use Rattle.mem_space.specs.declared.memory.Memory.{Memory as Pages}
use Rattle.plain_state.specs.declared.objects.Region.{Region}
use Rattle.plain_state.specs.declared.effect.Place.{Place}
use Rattle.plain_state.specs.declared.effect.ByteStore.{ByteStore}
use Rattle.plain_state.specs.Objects.{Page, page_numbers}
use Rattle.plain_state.specs.Memory.{place_in, stores_at}
use Rattle.plain_laws.specs.OnePage.{place_beside}
use Rattle.plain_laws.specs.Sound.{AreApart}
use Rattle.kobj_table.specs.declared.objects.Objects.{Objects}
use Rattle.kobj_table.specs.declared.slot.Slot.{Slot}
use Rattle.kobj_table.specs.Slots.{memory_in, page_of}
use Rattle.kobj_table.specs.Objects.{slot_at, Rest, state_of}
use Rattle.page_bytes.specs.Bytes.{IsStoredAt}
use Rattle.page_bytes.proofs.Contents.{no_mem, OnPage, stores_on}

-- The pages of a memory object.

abbrev pub numbers_in : (ℕ → ℕ → ℕ) → List MemPage → List ℕ
numbers_in content pages = map (λ (p : Page). p.number) (map (page_of content) pages)

pub length_numbers : (content : ℕ → ℕ → ℕ) (pages : List MemPage) → length (numbers_in content pages) ≡ length pages
length_numbers content [] = refl
length_numbers content (p ∷ pages) = rw (length_numbers content pages) refl

pub number_at : (content : ℕ → ℕ → ℕ) (pages : List MemPage) (k default : ℕ) → k < length pages
    → slice_index_or (numbers_in content pages) k default ≡ (slice_index_or pages k no_mem).page
number_at content [] k default inside = absurd (omega (arith, inside))
number_at content (p ∷ pages) zero default inside = refl
number_at content (p ∷ pages) (suc k) default inside = number_at content pages k default (omega (arith, inside))

-- an element that is there
got : (pages : List MemPage) (k : ℕ) (page : MemPage) → slice_get pages k ≡ Some page → (k < length pages) × (slice_index_or pages k no_mem ≡ page)
got [] k page e = absurd (cc)
got (p ∷ pages) zero page e = (omega arith, cc)
got (p ∷ pages) (suc k) page e = (let rest = got pages k page e in (omega (arith, rest.0), rest.1))

-- pages are in memory objects alone
is_memory : (slot : Slot) (k : ℕ) (page : MemPage) → slice_get (memory_in slot).pages.items k ≡ Some page
    → (pages : Pages) × (slot ≡ Slot.Memory pages) × (slice_get pages.pages.items k ≡ Some page)
is_memory Slot.Empty k page e = absurd (cc)
is_memory (Slot.Group g) k page e = absurd (cc)
is_memory (Slot.Thread t) k page e = absurd (cc)
is_memory (Slot.Space s) k page e = absurd (cc)
is_memory (Slot.Memory m) k page e = (m, refl, e)
is_memory (Slot.Connection c) k page e = absurd (cc)
is_memory (Slot.Notification n) k page e = absurd (cc)
is_memory (Slot.Ring r) k page e = absurd (cc)
is_memory (Slot.Scheduler c) k page e = absurd (cc)

-- Where each page is of one object alone.

numbers_at : (o : Objects) (rest : Rest) (i : ℕ) (pages : Pages) → slot_at o i ≡ Slot.Memory pages
    → page_numbers ((state_of o rest).objects i) ≡ numbers_in rest.content pages.pages.items
unfolding state_of
numbers_at o rest i pages there = rw there refl

module _ (o : Objects) (rest : Rest) (apart : AreApart (state_of o rest)) where
  pub has_page : (i : ℕ) (pages : Pages) (j page : ℕ) → slot_at o i ≡ Slot.Memory pages → j < length pages.pages.items
      → (slice_index_or pages.pages.items j no_mem).page ≡ page → Contains (page_numbers ((state_of o rest).objects i)) page
  has_page i pages j page there inside is =
      rw (numbers_at o rest i pages there)
      (j, rw (length_numbers rest.content pages.pages.items) inside, number_at rest.content pages.pages.items j page inside ∙ is)

  -- two places of one object have different pages
  differ : (i : ℕ) (pages : Pages) (j k : ℕ) → slot_at o i ≡ Slot.Memory pages → j < k → k < length pages.pages.items
      → (slice_index_or pages.pages.items j no_mem).page ≢ (slice_index_or pages.pages.items k no_mem).page
  differ i pages j k there before inside e =
      let list = numbers_in rest.content pages.pages.items in
      let is = numbers_at o rest i pages there in
      let long : k < length (page_numbers ((state_of o rest).objects i)) = rw is (rw (length_numbers rest.content pages.pages.items) inside) in
      let first = ap (λ (l : List ℕ). slice_index_or l j 0) is ∙ number_at rest.content pages.pages.items j 0 (omega (arith, before, inside)) in
      let second = ap (λ (l : List ℕ). slice_index_or l k 0) is ∙ number_at rest.content pages.pages.items k 0 inside in
      apart.once i j k 0 before long (first ∙ e ∙ sym second)

  pub on_page : (place : Place) (page : MemPage) → IsStoredAt o place page → OnPage o place.memory place.page page.page
  on_page place page at =
      let found = is_memory (slot_at o place.memory) place.page page at.there in
      let pages : Pages = found.0 in
      let there : slot_at o place.memory ≡ Slot.Memory pages = found.1 in
      let element = got pages.pages.items place.page page found.2 in
      let number : (slice_index_or pages.pages.items place.page no_mem).page ≡ page.page = ap (λ (p : MemPage). p.page) element.1 in
      record {
        pages = pages;
        there = there;
        within = element.0;
        number = number;
        stored = ap (λ (p : MemPage). p.fresh) element.1 ∙ at.stored;
        once = λ j inside is. elim (cases_eq j place.page) [
          | inl same ↦ same
          | inr ne ↦ elim (cases_lt j place.page) [
            | inl before ↦ absurd (differ place.memory pages j place.page there before element.0 (is ∙ sym number))
            | inr behind ↦ absurd (differ place.memory pages place.page j there (omega (arith, ne, behind)) inside (number ∙ sym is))
          ]
        ];
        apart = λ i others ne here j inside is.
            ne (apart.apart i place.memory page.page (has_page i others j page.page here inside is)
            (has_page place.memory pages place.page page.page there element.0 number));
      }

-- Stores to addresses behind one another.

pub run_of_stores : (at : ℕ) (region : Region) (k : ℕ) (values : List ℕ)
    → stores_at (map (place_beside at region) (range_with_len k (length values))) values
    ≡ stores_on (place_in at region).memory (place_in at region).page (at % PAGE_BYTES + k) values
run_of_stores at region k [] = refl
run_of_stores at region k (value ∷ []) = refl
run_of_stores at region k (value ∷ next ∷ values) =
    let beside : at % PAGE_BYTES + (k + 1) ≡ at % PAGE_BYTES + k + 1 = omega arith in
    ap (λ (rest : List ByteStore). record { place = place_beside at region k; value = value } ∷ rest)
    (run_of_stores at region (k + 1) (next ∷ values)
    ∙ ap (λ (offset : ℕ). stores_on (place_in at region).memory (place_in at region).page offset (next ∷ values)) beside)
