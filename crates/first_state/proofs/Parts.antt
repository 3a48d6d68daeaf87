-- What stands on the pages of regions.
use Rattle.std.proofs.Common.{◌≡◌, ◌≢◌, ℕ, ◌+◌, ◌-◌, ◌*◌, ◌<◌, ◌≤◌, min, Bool, true, false, List, [], ◌∷◌, ◌++◌, length, map, take, drop, get_or, All, refl, ap, sym, ◌∙◌, subst, arith, inl, inr, length-append, length-drop}
use Rattle.std.specs.Prelude.{nat_le, ◌↔◌, slice_index}
use Rattle.std.specs.List.{flat_map, range_with_len}
use Rattle.std.proofs.lemmas.Bool.{cases_lt, leb-true, leb-false}
use Rattle.std.proofs.lemmas.List.{append-nil, length-take, take_all, take_more, get_or-append-add}
use Rattle.std.proofs.lemmas.List.Concat.{get_or-flat_map}
use Rattle.std.proofs.lemmas.List.Folds.{length-flat_map-take}
use Rattle.std.proofs.lemmas.Grind.{flat_map-append}
use Rattle.std.proofs.lemmas.List.Elements.{All-map}
use Rattle.std.proofs.lemmas.List.FromFn.{length-map-range_with_len, length-range_with_len, get_or-range_with_len, get_or-map-range_with_len}
use Rattle.std.proofs.Math.ListN.{get_or-append}
use mathlib.Core.Path.{fun_ext}
use Rattle.sls_base.specs.declared.limits.TheConstants.{PAGE_BYTES}
use Rattle.sls_base.specs.declared.image.RegionSpec.{RegionSpec}
use Rattle.mem_space.specs.declared.memory.MemPage.{MemPage}
use Rattle.plain_model.specs.Objects.{Page}
use Rattle.plain_model.specs.Initial as plain
use Rattle.kobj_table.specs.Slots.{bytes_of, page_of}
use Rattle.first_state.specs.Content.{part_of, region_parts, HoldsParts, HasPartsAt}
use Rattle.first_state.specs.Filled.{region_page}
use Rattle.first_state.proofs.Lists.{map_range, map_twice}

-- Parts one after another.

pub parts_first : (parts xs ys : List (List ℕ)) (k : ℕ) → HasPartsAt parts k (xs ++ ys) → HasPartsAt parts k xs
parts_first parts xs ys k has j below =
    let long = length-append xs ys in
    has j (omega arith) ∙ get_or-append xs ys [] j below

pub parts_behind : (parts xs ys : List (List ℕ)) (k n : ℕ) → length xs ≡ n → HasPartsAt parts k (xs ++ ys) → HasPartsAt parts (k + n) ys
parts_behind parts xs ys k n count has j below =
    let long = length-append xs ys in
    let at : k + (length xs + j) ≡ k + n + j = omega arith in
    sym (ap (λ page. get_or parts page []) at) ∙ (has (length xs + j) (omega arith) ∙ get_or-append-add xs ys j [])

-- One region.

part_at : (parts : List (List ℕ)) (spec : RegionSpec) (k j : ℕ) → HasPartsAt parts k (region_parts spec) → j < spec.pages → get_or parts (k + j) [] ≡ part_of spec.content.items j
part_at parts spec k j has below =
    let count = length-map-range_with_len (part_of spec.content.items) 0 spec.pages in
    has j (omega arith) ∙ get_or-map-range_with_len (part_of spec.content.items) 0 spec.pages j j [] below (omega arith)

nothing : (xs : List ℕ) → length xs ≡ 0 → xs ≡ []
nothing [] e = refl
nothing (x ∷ xs) e = absurd (omega arith)

-- what stands on a page of a region is empty exactly where the content ends before it
part_empty : (content : List ℕ) (j : ℕ) → length content ≤ PAGE_BYTES * j → part_of content j ≡ []
part_empty content j past =
    let count = length-take PAGE_BYTES (drop (PAGE_BYTES * j) content) in
    let left = length-drop (PAGE_BYTES * j) content in
    nothing (part_of content j) (omega arith)

part_some : (content : List ℕ) (j : ℕ) → PAGE_BYTES * j < length content → part_of content j ≢ []
part_some content j within none =
    let count = length-take PAGE_BYTES (drop (PAGE_BYTES * j) content) in
    let left = length-drop (PAGE_BYTES * j) content in
    let empty : length (part_of content j) ≡ 0 = ap length none in
    absurd (omega arith)

page_with : ℕ → (ℕ → ℕ) → Page
page_with number byte = record { number = number; byte = byte }

bytes_at : (content : ℕ → ℕ → ℕ) (parts : List (List ℕ)) (spec : RegionSpec) (k j : ℕ) (fresh : Bool) → nat_le (length spec.content.items) (PAGE_BYTES * j) ≡ fresh → HoldsParts content parts →
    HasPartsAt parts k (region_parts spec) → j < spec.pages → bytes_of content (k + j) fresh ≡ slice_index (part_of spec.content.items j)
bytes_at content parts spec k j true fresh holds has below =
    let past : length spec.content.items ≤ PAGE_BYTES * j = leb-true (length spec.content.items) (PAGE_BYTES * j) fresh in
    ap (λ (part : List ℕ). slice_index part) (sym (part_empty spec.content.items j past))
bytes_at content parts spec k j false fresh holds has below =
    let within : PAGE_BYTES * j < length spec.content.items = leb-false (length spec.content.items) (PAGE_BYTES * j) fresh in
    let at = part_at parts spec k j has below in
    let some : get_or parts (k + j) [] ≢ [] = λ none. part_some spec.content.items j within (sym at ∙ none) in
    fun_ext (λ offset. holds (k + j) offset some ∙ ap (λ (part : List ℕ). slice_index part offset) at)

page_shows : (content : ℕ → ℕ → ℕ) (parts : List (List ℕ)) (spec : RegionSpec) (k j : ℕ) → HoldsParts content parts → HasPartsAt parts k (region_parts spec) → j < spec.pages →
    page_of content (region_page spec k j) ≡ plain.page_of_content spec.content.items k j
unfolding page_with
page_shows content parts spec k j holds has below =
    ap (page_with (k + j)) (bytes_at content parts spec k j (nat_le (length spec.content.items) (PAGE_BYTES * j)) refl holds has below)

-- the pages of a region's memory object are those of the plain machine
pub memory_shows : (content : ℕ → ℕ → ℕ) (parts : List (List ℕ)) (spec : RegionSpec) (k : ℕ) → HoldsParts content parts → HasPartsAt parts k (region_parts spec) →
    map (page_of content) (map (region_page spec k) (range_with_len 0 spec.pages)) ≡ map (plain.page_of_content spec.content.items k) (range_with_len 0 spec.pages)
memory_shows content parts spec k holds has =
    map_twice (page_of content) (region_page spec k) (range_with_len 0 spec.pages)
    ∙ map_range (λ j. page_of content (region_page spec k j)) (plain.page_of_content spec.content.items k) 0 spec.pages
    (λ j from below. page_shows content parts spec k j holds has (omega arith))

-- A page of it is fresh exactly where nothing stands there.

stale : (content : List ℕ) (j : ℕ) (fresh : Bool) → nat_le (length content) (PAGE_BYTES * j) ≡ fresh → part_of content j ≡ [] → fresh ≡ true
stale content j true e none = refl
stale content j false e none = absurd (part_some content j (leb-false (length content) (PAGE_BYTES * j) e) none)

page_marked : (parts : List (List ℕ)) (spec : RegionSpec) (k j : ℕ) → HasPartsAt parts k (region_parts spec) → j < spec.pages →
    ((region_page spec k j).fresh ≡ true) ↔ (get_or parts (region_page spec k j).page [] ≡ [])
page_marked parts spec k j has below =
    let at = part_at parts spec k j has below in
    let content = spec.content.items in (
      λ fresh. at ∙ part_empty content j (leb-true (length content) (PAGE_BYTES * j) fresh),
      λ none. stale content j (nat_le (length content) (PAGE_BYTES * j)) refl (sym at ∙ none),
    )

pub pages_marked : (parts : List (List ℕ)) (spec : RegionSpec) (k : ℕ) → HasPartsAt parts k (region_parts spec) →
    All (λ (p : MemPage). (p.fresh ≡ true) ↔ (get_or parts p.page [] ≡ [])) (map (region_page spec k) (range_with_len 0 spec.pages))
pages_marked parts spec k has =
    All-map (λ (p : MemPage). (p.fresh ≡ true) ↔ (get_or parts p.page [] ≡ [])) (region_page spec k) (range_with_len 0 spec.pages)
    (λ i d inside.
    let count = length-range_with_len 0 spec.pages in
    let at = get_or-range_with_len 0 spec.pages i d (omega arith) in
    page_marked parts spec k (get_or (range_with_len 0 spec.pages) i d) has (omega arith))

-- Slices of a content.

take_more_than : (xs : List ℕ) (n k : ℕ) → k ≡ min (length xs) n → take k xs ≡ take n xs
take_more_than xs n k is =
    elim (cases_lt n (length xs)) [
      | inl lt ↦ ap (λ m. take m xs) (omega arith)
      | inr past ↦ take_all k xs (omega arith) ∙ sym (take_all n xs (omega arith))
    ]

pub part_cut : (content : List ℕ) (j from end : ℕ) → from ≡ min (length content) (PAGE_BYTES * j) → end ≡ min (length content) (from + PAGE_BYTES) → take (end - from) (drop from content) ≡ part_of content j
part_cut content j from end begins ends =
    elim (cases_lt (PAGE_BYTES * j) (length content)) [
      | inl within ↦
          let at : from ≡ PAGE_BYTES * j = omega arith in
          let left = length-drop from content in
          take_more_than (drop from content) PAGE_BYTES (end - from) (omega arith) ∙ ap (λ m. take PAGE_BYTES (drop m content)) at
      | inr past ↦
          let left = length-drop from content in
          let count = length-take (end - from) (drop from content) in
          nothing (take (end - from) (drop from content)) (omega arith) ∙ sym (part_empty content j past)
    ]

-- Regions one after another.

pub region_count : (spec : RegionSpec) → length (region_parts spec) ≡ spec.pages
region_count spec = length-map-range_with_len (part_of spec.content.items) 0 spec.pages

-- the page that stands behind those of the first i regions, and so many of the next one
pub part_found : (specs : List RegionSpec) (spec : RegionSpec) (i page left : ℕ) → i < length specs → spec ≡ get_or specs i spec → page ≡ length (flat_map region_parts (take i specs)) + left → left < spec.pages →
    get_or (flat_map region_parts specs) page [] ≡ part_of spec.content.items left
part_found specs spec i page left inside is at below =
    let count = region_count spec in
    let same : get_or specs i spec ≡ spec = sym is in
    let room : left < length (region_parts (get_or specs i spec)) = subst (λ (s : RegionSpec). left < length (region_parts s)) is (omega arith) in
    ap (λ k. get_or (flat_map region_parts specs) k []) at
    ∙ (get_or-flat_map region_parts specs i left spec [] inside room
    ∙ (ap (λ (s : RegionSpec). get_or (region_parts s) left []) same
    ∙ get_or-map-range_with_len (part_of spec.content.items) 0 spec.pages left left [] below (omega arith)))

pub part_inside : (specs : List RegionSpec) (spec : RegionSpec) (i page left : ℕ) → i < length specs → spec ≡ get_or specs i spec → page ≡ length (flat_map region_parts (take i specs)) + left → left < spec.pages →
    page < length (flat_map region_parts specs)
part_inside specs spec i page left inside is at below =
    let count : length (region_parts (get_or specs i spec)) ≡ spec.pages = ap (λ (s : RegionSpec). length (region_parts s)) (sym is) ∙ region_count spec in
    let room = length-flat_map-take region_parts specs i spec inside in
    omega arith

pub parts_more : (specs : List RegionSpec) (spec : RegionSpec) (i : ℕ) → i < length specs → spec ≡ get_or specs i spec →
    length (flat_map region_parts (take (i + 1) specs)) ≡ length (flat_map region_parts (take i specs)) + spec.pages
parts_more specs spec i inside is =
    let taken : take (i + 1) specs ≡ take i specs ++ spec ∷ [] = take_more specs i spec inside ∙ ap (λ (s : RegionSpec). take i specs ++ s ∷ []) (sym is) in
    let both = flat_map-append region_parts (take i specs) (spec ∷ []) in
    let one : length (flat_map region_parts (spec ∷ [])) ≡ spec.pages = ap length (append-nil (region_parts spec)) ∙ region_count spec in
    let long = length-append (flat_map region_parts (take i specs)) (flat_map region_parts (spec ∷ [])) in
    ap (λ (l : List RegionSpec). length (flat_map region_parts l)) taken ∙ (ap length both ∙ omega arith)

unfoldable pub mem_page : ℕ → Bool → MemPage
mem_page page fresh = record { page = page; fresh = fresh }

-- how a page of a region is made
pub page_made : (spec : RegionSpec) (k j page count at : ℕ) → page ≡ j → count ≡ length spec.content.items → at ≡ j → mem_page (k + page) (nat_le count (PAGE_BYTES * at)) ≡ region_page spec k (0 + j)
unfolding mem_page
page_made spec k j page count at a b d =
    let front : j ≡ 0 + j = omega arith in
    ap (λ p. mem_page (k + p) (nat_le count (PAGE_BYTES * at))) a
    ∙ (ap (λ n. mem_page (k + j) (nat_le n (PAGE_BYTES * at))) b
    ∙ (ap (λ p. mem_page (k + j) (nat_le (length spec.content.items) (PAGE_BYTES * p))) d ∙ ap (region_page spec k) front))
