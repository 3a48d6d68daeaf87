-- A number in the bytes from an address on, which stand in one word.
use Rattle.std.specs.Prelude.{◌≡◌, ℕ, zero, suc, ◌+◌, ◌-◌, ◌/◌, ◌%◌, ◌<◌, ◌≤◌, ◌==◌, ◌||◌, Bool, true, false, List, ◌∷◌, find, map, Option, Some, None, option_map, is_some}
use Rattle.std.specs.List.{range_with_len}
use Rattle.std.proofs.Common.{refl, sym, ap, ◌∙◌, arith}
use Rattle.sls_base.specs.declared.limits.TheConstants.{PAGE_BYTES}
use Rattle.mem_space.specs.declared.memory.MemPage.{MemPage}
use Rattle.plain_state.specs.declared.effect.Place.{Place}
use Rattle.plain_state.specs.declared.objects.Region.{Region}
use Rattle.plain_model.specs.Objects.{Object, Page}
use Rattle.plain_model.specs.Memory.{covers, is_covered, page_at, byte_at, place_in, place_of, places_of, number_of_bytes}
use Rattle.kobj_table.specs.Slots.{page_of, bytes_of}
use Rattle.call_readings.specs.Content.{number_in, number_seen}
use Rattle.call_readings.specs.Reach.{is_any_on}
use Rattle.call_readings.specs.Need.{page_seen}
use Rattle.call_readings.proofs.Ends.{one_covering, covered_by_ends}
use Rattle.call_readings.proofs.Reached.{is_at_on, on_by_page, on_ends, or_none}

-- A place that is found.
pub record IsAt (objects : ℕ → Option Object) (content : ℕ → ℕ → ℕ) (regions : List Region) (right at : ℕ) (page : MemPage) : Type 0 where
  pub region : Region
  pub found : find (covers right at) regions ≡ Some region
  pub stands : page_at objects (place_in at region) ≡ page_of content page

pub found_at : (objects : ℕ → Option Object) (content : ℕ → ℕ → ℕ) (regions : List Region) (right at : ℕ) (page : MemPage)
    → Some (page_of content page) ≡ option_map (page_at objects) (place_of regions right at) → IsAt objects content regions right at page
found_at objects content regions right at page e = by_region (find (covers right at) regions) refl e
  where
    by_region : (o : Option Region) → find (covers right at) regions ≡ o → Some (page_of content page) ≡ option_map (page_at objects) (option_map (place_in at) o)
        → IsAt objects content regions right at page
    by_region None f e = absurd (cc)
    by_region (Some region) f e = record { region = region; found = f; stands = (let same : page_of content page ≡ page_at objects (place_in at region) = cc in sym same) }

pub nothing_at : (objects : ℕ → Option Object) (regions : List Region) (right at : ℕ)
    → None ≡ option_map (page_at objects) (place_of regions right at) → place_of regions right at ≡ None
nothing_at objects regions right at e = by_place (place_of regions right at) e
  where
    by_place : (o : Option Place) → None ≡ option_map (page_at objects) o → o ≡ None
    by_place None e = refl
    by_place (Some place) e = absurd (cc)

-- the number of its page
pub page_found : (objects : ℕ → Option Object) (content : ℕ → ℕ → ℕ) (regions : List Region) (right at : ℕ) (page : MemPage)
    → IsAt objects content regions right at page → page_seen objects regions right at ≡ Some page.page
page_found objects content regions right at page is = rw is.found (ap (λ (p : Page). Some p.number) is.stands)

-- Where nothing stands, nothing is seen.

pub not_covered : (regions : List Region) (right at n : ℕ) → place_of regions right at ≡ None → is_covered regions right at (suc n) ≡ false
not_covered regions right at n e = rw e refl

pub nothing_seen : (objects : ℕ → Option Object) (regions : List Region) (right at size : ℕ) → 1 ≤ size → place_of regions right at ≡ None
    → None ≡ number_seen objects regions right at size
nothing_seen objects regions right at zero some e = absurd (omega arith)
nothing_seen objects regions right at (suc n) some e = rw (not_covered regions right at n e) refl

-- Bytes of one word stand on one page.

same_page : (at k : ℕ) → at % 8 + k < 8 → (at + k) / PAGE_BYTES ≡ at / PAGE_BYTES
same_page at k fits = omega (arith, fits)

same_offset : (at k : ℕ) → at % 8 + k < 8 → (at + k) % PAGE_BYTES ≡ at % PAGE_BYTES + k
same_offset at k fits = omega (arith, fits)

-- the place of each
place_beside : (regions : List Region) (region : Region) (right at k : ℕ) → at % 8 + k < 8 → find (covers right at) regions ≡ Some region
    → place_of regions right (at + k) ≡ Some (place_in (at + k) region)
place_beside regions region right at k fits found =
    ap (option_map (place_in (at + k))) (one_covering right (at + k) at regions (same_page at k fits) ∙ found)

byte_beside : (objects : ℕ → Option Object) (content : ℕ → ℕ → ℕ) (region : Region) (at k : ℕ) (page : MemPage) → at % 8 + k < 8
    → page_at objects (place_in at region) ≡ page_of content page
    → byte_at objects (place_in (at + k) region) ≡ bytes_of content page.page page.fresh (at % PAGE_BYTES + k)
byte_beside objects content region at k page fits is =
    let there : page_at objects (place_in (at + k) region) ≡ page_of content page =
    ap (λ (n : ℕ). page_at objects (record { memory = region.memory; page = region.first + (n - region.base); offset = 0 })) (same_page at k fits) ∙ is in
    ap (λ (p : Page). p.byte ((at + k) % PAGE_BYTES)) there ∙ ap (bytes_of content page.page page.fresh) (same_offset at k fits)

-- the bytes at those places
bytes_beside : (objects : ℕ → Option Object) (content : ℕ → ℕ → ℕ) (regions : List Region) (region : Region) (right at : ℕ) (page : MemPage)
    → find (covers right at) regions ≡ Some region → page_at objects (place_in at region) ≡ page_of content page
    → (j n : ℕ) → at % 8 + (j + n) ≤ 8 → map (byte_at objects) (places_of regions right (at + j) n) ≡ map (bytes_of content page.page page.fresh) (range_with_len (at % PAGE_BYTES + j) n)
bytes_beside objects content regions region right at page found stands j zero fits = refl
bytes_beside objects content regions region right at page found stands j (suc n) fits =
    let place = place_beside regions region right at j (omega (arith, fits)) found in
    let byte = byte_beside objects content region at j page (omega (arith, fits)) stands in
    let rest = bytes_beside objects content regions region right at page found stands (j + 1) n (omega (arith, fits)) in
    let next : at + j + 1 ≡ at + (j + 1) = omega arith in
    let beyond : at % PAGE_BYTES + (j + 1) ≡ at % PAGE_BYTES + j + 1 = omega arith in
    let bytes = ap (λ (a : ℕ). map (byte_at objects) (places_of regions right a n)) next ∙ rest ∙ ap (λ (a : ℕ). map (bytes_of content page.page page.fresh) (range_with_len a n)) beyond in
    rw (place, byte) (ap (λ (l : List ℕ). bytes_of content page.page page.fresh (at % PAGE_BYTES + j) ∷ l) bytes)

twice : (b : Bool) → (b || b) ≡ b
twice true = refl
twice false = refl

module _ (objects : ℕ → Option Object) (content : ℕ → ℕ → ℕ) (regions : List Region) (right at size : ℕ) (page : MemPage)
    (some : 1 ≤ size) (fits : at % 8 + size ≤ 8) (is : IsAt objects content regions right at page) where
  last_page : (at + (size - 1)) / PAGE_BYTES ≡ at / PAGE_BYTES
  last_page = same_page at (size - 1) (omega (arith, some, fits))

  pub all_covered : is_covered regions right at size ≡ true
  all_covered =
      let there : is_some (find (covers right at) regions) ≡ true = ap (λ (o : Option Region). is_some o) is.found in
      let end : is_some (find (covers right (at + (size - 1))) regions) ≡ true =
      ap (λ (o : Option Region). is_some o) (one_covering right (at + (size - 1)) at regions last_page ∙ is.found) in
      covered_by_ends regions right at size some (omega (arith, fits)) ∙ rw (there, end) refl

  -- the number
  pub number_is : (number : ℕ) → number ≡ number_in (bytes_of content page.page page.fresh) (at % PAGE_BYTES) size
      → Some number ≡ number_seen objects regions right at size
  number_is number e =
      let none : at + 0 ≡ at = omega arith in
      let start : at % PAGE_BYTES + 0 ≡ at % PAGE_BYTES = omega arith in
      let bytes =
      ap (λ (a : ℕ). map (byte_at objects) (places_of regions right a size)) (sym none)
      ∙ bytes_beside objects content regions is.region right at page is.found is.stands 0 size (omega (arith, fits))
      ∙ ap (λ (a : ℕ). map (bytes_of content page.page page.fresh) (range_with_len a size)) start in
      rw all_covered (ap (λ (n : ℕ). Some n) (e ∙ sym (ap number_of_bytes bytes)))

  -- and the page on which the bytes stand
  pub on_page : (number : ℕ) → is_any_on objects (places_of regions right at size) number ≡ (page.page == number)
  on_page number =
      let on = λ (address : ℕ). is_at_on objects regions right number address in
      let last : on (at + (size - 1)) ≡ on at = on_by_page objects regions right number (at + (size - 1)) at last_page in
      let first : on at ≡ (page.page == number) =
      rw is.found (ap (λ (p : Page). (p.number == number) || false) is.stands ∙ or_none (page.page == number)) in
      on_ends objects regions right at size number some (omega (arith, fits))
      ∙ ap (λ b. on at || b) last ∙ twice (on at) ∙ first
