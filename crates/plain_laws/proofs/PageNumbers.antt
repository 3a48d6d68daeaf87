-- On which pages the places of some addresses are: an aligned access is on one page, a buffer on two.
use Rattle.std.specs.Prelude.{◌≡◌, ◌⊎◌, ℕ, zero, suc, ◌+◌, ◌-◌, ◌/◌, ◌%◌, ◌^◌, ◌<◌, ◌≤◌, ◌==◌, ◌&&◌, nat_le, nat_lt, Bool, true, List, [], ◌∷◌, Option, Some, None, find, filter_map, option_map, slice_index_or}
use Rattle.std.specs.List.{list_any, cons_option, range_with_len}
use Rattle.std.proofs.Common.{refl, ap, sym, ◌∙◌, arith, inl, inr}
use Rattle.std.proofs.lemmas.Bool.{cases_eq, eqb-true}
use Rattle.rv_core.specs.Effect.{size_of}
use Rattle.sls_base.specs.declared.limits.TheConstants.{PAGE_BYTES, ENTRY_BYTES}
use Rattle.plain_state.specs.declared.objects.Region.{Region}
use Rattle.plain_state.specs.declared.effect.ByteStore.{ByteStore}
use Rattle.plain_state.specs.declared.effect.Place.{Place}
use Rattle.plain_model.specs.Objects.{pages_of, includes}
use Rattle.plain_model.specs.States.{State}
use Rattle.plain_model.specs.Memory.{covers, place_in, place_of, places_of, page_at, no_page, stores_at}
use Rattle.sls_base.proofs.ListTests.{IsIn, here, there, or_cases, range_in}
use Rattle.plain_laws.proofs.Lists.{or_more}

-- The number of the page that a page of addresses stands for.

abbrev pub covers_page : ℕ → ℕ → Region → Bool
covers_page right page region = includes region.rights right && (nat_le region.base page && nat_lt page (region.base + region.count))

abbrev pub number_in : State → ℕ → Option Region → ℕ
number_in s page None = 0
number_in s page (Some region) = (slice_index_or (pages_of (s.objects region.memory)) (region.first + (page - region.base)) no_page).number

abbrev pub number_at : State → List Region → ℕ → ℕ → ℕ
number_at s regions right page = number_in s page (find (covers_page right page) regions)

abbrev pub is_on : State → ℕ → Place → Bool
is_on s page place = (page_at s.objects place).number == page

-- Each place of an address is on that page.

pub place_number : (s : State) (address : ℕ) (found : Option Region) (place : Place) → option_map (place_in address) found ≡ Some place
    → number_in s (address / PAGE_BYTES) found ≡ (page_at s.objects place).number
place_number s address None place e = absurd (cc)
place_number s address (Some region) place e =
    let same : place_in address region ≡ place = cc in
    ap (λ (p : Place). (page_at s.objects p).number) same

pub place_on : (s : State) (regions : List Region) (right address : ℕ) (o : Option Place) (places : List Place) (page : ℕ) → place_of regions right address ≡ o
    → list_any (is_on s page) (cons_option o places) ≡ true → (number_at s regions right (address / PAGE_BYTES) ≡ page) ⊎ (list_any (is_on s page) places ≡ true)
place_on s regions right address None places page is e = inr e
place_on s regions right address (Some place) places page is e = elim (or_cases (is_on s page place) (list_any (is_on s page) places) e) [
  | inl h ↦ inl (place_number s address (find (covers right address) regions) place is ∙ eqb-true (page_at s.objects place).number page h)
  | inr h ↦ inr h
]

pub any_on : (s : State) (regions : List Region) (right : ℕ) (addresses : List ℕ) (page : ℕ) → list_any (is_on s page) (filter_map (place_of regions right) addresses) ≡ true
    → (address : ℕ) × IsIn address addresses × (number_at s regions right (address / PAGE_BYTES) ≡ page)
any_on s regions right [] page e = absurd (cc)
any_on s regions right (address ∷ addresses) page e =
    elim (place_on s regions right address (place_of regions right address) (filter_map (place_of regions right) addresses) page refl e) [
      | inl h ↦ (address, here, h)
      | inr h ↦ (let r = any_on s regions right addresses page h in (r.0, there r.1, r.2))
    ]

-- of stores the places tell
pub any_stored : (test : Place → Bool) (places : List Place) (values : List ℕ) → list_any (λ store. test store.place) (stores_at places values) ≡ true → list_any test places ≡ true
any_stored test [] values e = absurd (cc)
any_stored test (place ∷ places) [] e = absurd (cc)
any_stored test (place ∷ places) (value ∷ values) e =
    or_more (test place) (list_any (λ (store : ByteStore). test store.place) (stores_at places values)) (list_any test places) (any_stored test places values) e

-- Pages of ranges.

-- each address of a range is on the page of the first
pub one_page : (s : State) (regions : List Region) (right at count page : ℕ) → ((address : ℕ) → at ≤ address → address < at + count → address / PAGE_BYTES ≡ at / PAGE_BYTES)
    → list_any (is_on s page) (places_of regions right at count) ≡ true → number_at s regions right (at / PAGE_BYTES) ≡ page
one_page s regions right at count page one e =
    let r = any_on s regions right (range_with_len at count) page e in
    let bounds = range_in at count r.0 r.1 in
    ap (number_at s regions right) (sym (one r.0 bounds.0 bounds.1)) ∙ r.2

-- the addresses of a buffer are on that page or the next
pub two_pages : (s : State) (regions : List Region) (right at count page : ℕ) → count ≤ ENTRY_BYTES → list_any (is_on s page) (places_of regions right at count) ≡ true
    → (number_at s regions right (at / PAGE_BYTES) ≡ page) ⊎ (number_at s regions right (at / PAGE_BYTES + 1) ≡ page)
two_pages s regions right at count page few e =
    let r = any_on s regions right (range_with_len at count) page e in
    let bounds = range_in at count r.0 r.1 in
    elim (cases_eq (r.0 / PAGE_BYTES) (at / PAGE_BYTES)) [
      | inl same ↦ inl (ap (number_at s regions right) (sym same) ∙ r.2)
      | inr other ↦
          let next : r.0 / PAGE_BYTES ≡ at / PAGE_BYTES + 1 = (let from = bounds.0 in let below = bounds.1 in omega arith) in
          inr (ap (number_at s regions right) (sym next) ∙ r.2)
    ]

-- Aligned accesses.

abbrev pub IsSize : ℕ → Type 0
IsSize size = (size ≡ 1) ⊎ ((size ≡ 2) ⊎ ((size ≡ 4) ⊎ (size ≡ 8)))

pub power_size : (n : ℕ) → n < 4 → IsSize (2 ^ n)
power_size zero l = inl refl
power_size (suc zero) l = inr (inl refl)
power_size (suc (suc zero)) l = inr (inr (inl refl))
power_size (suc (suc (suc zero))) l = inr (inr (inr refl))
power_size (suc (suc (suc (suc n)))) l = absurd (omega arith)

pub is_size : (op : ℕ) → IsSize (size_of op)
is_size op = power_size (op % 4) (omega arith)

pub aligned_page : (size at address : ℕ) → IsSize size → at % size ≡ 0 → at ≤ address → address < at + size → address / PAGE_BYTES ≡ at / PAGE_BYTES
aligned_page size at address (inl is) aligned from below = omega arith
aligned_page size at address (inr (inl is)) aligned from below = (let even : at % 2 ≡ 0 = rw is at aligned in omega arith)
aligned_page size at address (inr (inr (inl is))) aligned from below = (let four : at % 4 ≡ 0 = rw is at aligned in omega arith)
aligned_page size at address (inr (inr (inr is))) aligned from below = (let eight : at % 8 ≡ 0 = rw is at aligned in omega arith)
