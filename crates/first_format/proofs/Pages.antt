-- The pages that an image begins with: their bytes, their numbers, and which of them have content.
use Rattle.std.proofs.Common.{◌≡◌, inl, inr, ℕ, zero, suc, ◌+◌, ◌*◌, ◌/◌, ◌%◌, ◌^◌, ◌<◌, ◌≤◌, ◌∙◌, Bool, true, false, List, [], ◌∷◌, ◌++◌, map, Option, Some, None, refl, ap, sym, subst, arith, eq-eqb, get_or, length, replicate, sum_by, slice_index}
use Rattle.std.specs.Prelude.{nat_lt, ◌==◌, ◌&&◌, not, All, Contains, is_some, slice_get, option_map}
use Rattle.std.specs.List.{list_any, range_with_len, flat_map}
use Rattle.std.specs.Int.{w64, to_le_bytes, from_le_bytes}
use Rattle.std.proofs.Math.Path.{fun_ext}
use Rattle.std.proofs.lemmas.Nat.{le_bytes_8, from_le_bytes-to_le_bytes_8}
use Rattle.std.proofs.lemmas.Bool.{false≢true, cases_Bool, cases_lt, eqb-true, lt-ltb, ltb-true, false_from_ne_true}
use Rattle.std.proofs.lemmas.List.{ext_get_or, get_or_past, get_or-append-add, length-append}
use Rattle.std.proofs.lemmas.List.Concat.{flat_map-cons}
use Rattle.std.proofs.lemmas.List.FromFn.{get_or-range_with_len, length-range_with_len, get_or-map-range_with_len, length-map-range_with_len}
use Rattle.std.proofs.lemmas.List.Elements.{All-nil, All-cons, All-append, Contains-append_cases}
use Rattle.sls_base.specs.declared.limits.TheConstants.{OBJECTS, PAGES, PAGE_BYTES}
use Rattle.sls_base.specs.declared.fixed.TheConstants.{FIRST_PROGRAM_PAGE}
use Rattle.sls_base.specs.declared.image.Image.{Image}
use Rattle.sls_base.specs.declared.image.Program.{Program}
use Rattle.sls_base.specs.declared.image.RegionSpec.{RegionSpec}
use Rattle.sls_base.proofs.ListTests.{any_in, in_any, in_range, or_right, or_cases}
use Rattle.mem_space.specs.declared.memory.MemPage.{MemPage}
use Rattle.plain_laws.specs.Sound.{HasForm, HaveForms}
use Rattle.object_records.specs.Pages.{has_content_in, is_content}
use Rattle.saved_state.specs.State.{AreOfRecords}
use Rattle.std.proofs.lemmas.List.Sums.{sum_by-cons}
use Rattle.std.proofs.lemmas.Bool.{and_parts, not-true}
use Rattle.plain_model.specs.Objects as plain
use Rattle.plain_model.specs.Objects.{Object, Page, pages_of, page_numbers, every_object}
use Rattle.plain_model.specs.Worlds.{has_page}
use Rattle.plain_model.specs.Initial.{image_objects, initial, memory_of, page_of_content, pages_taken, program_memories, program_objects, program_pages, program_size, program_thread, programs_objects, IsAccepted}
use Rattle.plain_laws.specs.Bounds.{IsPage}
use Rattle.plain_laws.proofs.ApartImages.{all_numbers, among_all, image_numbers, range_below}
use Rattle.plain_laws.proofs.InRangeLabels.{image_count}
use Rattle.plain_laws.proofs.Images.{at_number}
use Rattle.first_state.specs.Content.{content_on, image_parts, part_of, region_parts, program_parts, HasPartsAt}
use Rattle.first_state.proofs.FillsUp.{first_region, other_regions, first_program, other_programs}
use Rattle.first_state.proofs.Parts.{region_count}
use Rattle.call_readings.specs.Content.{byte_of}
use Rattle.kobj_table.specs.Slots.{bytes_of}
use Rattle.saved_state.specs.State.{content_of}
use Rattle.first_format.specs.Parts.{first_records, mem_page_of, record_of_object, first_pages, is_fresh, page_word}

-- The bytes of pages are those of the image.

abbrev IsPart : List (List ℕ) → Page → Type 0
IsPart parts page = page.byte ≡ slice_index (get_or parts page.number [])

abbrev HasParts : List (List ℕ) → Option Object → Type 0
HasParts parts o = All (IsPart parts) (pages_of o)

part_at : (parts : List (List ℕ)) (spec : RegionSpec) (k j : ℕ) → HasPartsAt parts k (region_parts spec) → j < spec.pages → get_or parts (k + j) [] ≡ part_of spec.content.items j
part_at parts spec k j has below =
    let count = length-map-range_with_len (part_of spec.content.items) 0 spec.pages in
    has j (omega arith) ∙ get_or-map-range_with_len (part_of spec.content.items) 0 spec.pages j j [] below (omega arith)

abbrev HaveParts : List (List ℕ) → Object → Type 0
HaveParts parts o = HasParts parts (Some o)

memory_parts : (parts : List (List ℕ)) (spec : RegionSpec) (k : ℕ) → HasPartsAt parts k (region_parts spec) → HasParts parts (Some (memory_of spec k))
memory_parts parts spec k has j d inside =
    let pages = map (page_of_content spec.content.items k) (range_with_len 0 spec.pages) in
    let count = length-map-range_with_len (page_of_content spec.content.items k) 0 spec.pages in
    let below : j < spec.pages = omega arith in
    let at = get_or-map-range_with_len (page_of_content spec.content.items k) 0 spec.pages j j d below (omega arith) in
    subst (IsPart parts) (sym at) (ap (λ (part : List ℕ). slice_index part) (sym (part_at parts spec k j has below)))

memories_parts : (parts : List (List ℕ)) (specs : List RegionSpec) (k : ℕ) → HasPartsAt parts k (flat_map region_parts specs)
    → All (HaveParts parts) (program_memories specs k)
memories_parts parts [] k has = All-nil (HaveParts parts)
memories_parts parts (spec ∷ specs) k has =
    All-cons (HaveParts parts) (memory_of spec k) (program_memories specs (k + pages_taken spec))
    (memory_parts parts spec k (first_region parts (spec ∷ specs) specs spec k refl has))
    (memories_parts parts specs (k + pages_taken spec) (other_regions parts (spec ∷ specs) specs spec k (k + pages_taken spec) refl refl has))

threads_parts : (parts : List (List ℕ)) (p : Program) (n : ℕ) (js : List ℕ) → All (HaveParts parts) (map (program_thread p n) js)
threads_parts parts p n [] = All-nil (HaveParts parts)
threads_parts parts p n (j ∷ js) = All-cons (HaveParts parts) (program_thread p n j) (map (program_thread p n) js) (All-nil (IsPart parts)) (threads_parts parts p n js)

program_has : (parts : List (List ℕ)) (p : Program) (n k : ℕ) → HasPartsAt parts k (program_parts p) → All (HaveParts parts) (program_objects p n k)
program_has parts p n k has zero d inside = All-nil (IsPart parts)
program_has parts p n k has (suc zero) d inside = All-nil (IsPart parts)
program_has parts p n k has (suc (suc i)) d inside =
    All-append (HaveParts parts) (program_memories p.regions.items k) (map (program_thread p n) (range_with_len 0 p.threads))
    (memories_parts parts p.regions.items k has) (threads_parts parts p n (range_with_len 0 p.threads)) i d (omega arith)

programs_have : (parts : List (List ℕ)) (ps : List Program) (n k : ℕ) → HasPartsAt parts k (flat_map program_parts ps) → All (HaveParts parts) (programs_objects ps n k)
programs_have parts [] n k has = All-nil (HaveParts parts)
programs_have parts (p ∷ ps) n k has =
    All-append (HaveParts parts) (program_objects p n k) (programs_objects ps (n + program_size p) (k + program_pages p))
    (program_has parts p n k (first_program parts (p ∷ ps) ps p k refl has))
    (programs_have parts ps (n + program_size p) (k + program_pages p) (other_programs parts (p ∷ ps) ps p k (k + program_pages p) refl refl has))

parts_begin : (ps : List Program) → HasPartsAt (image_parts ps) 4 (flat_map program_parts ps)
unfolding image_parts
parts_begin ps j below = let rings : List (List ℕ) = replicate 4 [] in get_or-append-add rings (flat_map program_parts ps) j []

image_has : (ps : List Program) → All (HaveParts (image_parts ps)) (image_objects ps)
unfolding image_objects
image_has ps zero d inside = All-nil (IsPart (image_parts ps))
image_has ps (suc zero) d inside = All-nil (IsPart (image_parts ps))
image_has ps (suc (suc zero)) d inside = All-nil (IsPart (image_parts ps))
image_has ps (suc (suc (suc zero))) d inside = All-nil (IsPart (image_parts ps))
image_has ps (suc (suc (suc (suc zero)))) d inside = All-nil (IsPart (image_parts ps))
image_has ps (suc (suc (suc (suc (suc zero))))) d inside = All-nil (IsPart (image_parts ps))
image_has ps (suc (suc (suc (suc (suc (suc zero)))))) d inside = All-nil (IsPart (image_parts ps))
image_has ps (suc (suc (suc (suc (suc (suc (suc i))))))) d inside = programs_have (image_parts ps) ps 7 4 (parts_begin ps) i d (omega arith)

pub initial_parts : (image : Image) (cores i : ℕ) → All (λ (page : Page). page.byte ≡ slice_index (content_on image page.number)) (pages_of ((initial image cores).objects i))
initial_parts image cores i =
    at_number (HasParts (image_parts image.programs.items)) (image_objects image.programs.items) i _ (All-nil (IsPart (image_parts image.programs.items))) (image_has image.programs.items) refl

-- The words of a page have its bytes.

pub empty_list : (xs : List ℕ) → (length xs == 0) ≡ true → xs ≡ []
empty_list [] e = refl
empty_list (x ∷ xs) e = let zero_is = eqb-true (length (x ∷ xs)) 0 e in absurd (omega arith)

no_bytes : (offset : ℕ) → slice_index [] offset ≡ 0
no_bytes offset = refl

word_bytes : (image : Image) (page j k : ℕ) → ((offset : ℕ) → slice_index (content_on image page) offset < 2 ^ 8) → k < 8
    → byte_of (page_word image page j) k ≡ slice_index (content_on image page) (8 * j + k)
unfolding page_word
word_bytes image page j k bytes below =
    let content = content_on image page in
    let bs = map (slice_index content) (range_with_len (8 * j) 8) in
    let long : length bs ≡ 8 = length-map-range_with_len (slice_index content) (8 * j) 8 in
    let each : (i : ℕ) → get_or bs i 0 < 256 = λ i. elim (cases_lt i 8) [
      | inl l ↦ let e = get_or-map-range_with_len (slice_index content) (8 * j) 8 i (8 * j + i) 0 l refl in let b = bytes (8 * j + i) in omega arith
      | inr past ↦ let e = get_or_past bs i 0 (omega arith) in omega arith
    ] in
    ap (λ (l : List ℕ). slice_index l k) (le_bytes_8 bs (from_le_bytes w64 bs) long each refl)
    ∙ get_or-map-range_with_len (slice_index content) (8 * j) 8 k (8 * j + k) 0 below refl

pub word_told : (image : Image) (page j word : ℕ) → word < 2 ^ 64
    → ((k : ℕ) → k < 8 → slice_index (to_le_bytes w64 word) k ≡ slice_index (content_on image page) (8 * j + k)) → word ≡ page_word image page j
unfolding page_word
word_told image page j word fits bytes =
    let content = content_on image page in
    let bs = map (slice_index content) (range_with_len (8 * j) 8) in
    let long : length bs ≡ 8 = length-map-range_with_len (slice_index content) (8 * j) 8 in
    let same : to_le_bytes w64 word ≡ bs = ext_get_or 0 (to_le_bytes w64 word) bs (sym long)
    (λ k inside. bytes k inside ∙ sym (get_or-map-range_with_len (slice_index content) (8 * j) 8 k (8 * j + k) 0 inside refl)) in
    sym (from_le_bytes-to_le_bytes_8 word fits) ∙ ap (from_le_bytes w64) same

content_is : (image : Image) (page offset : ℕ) → page < PAGES → is_fresh image page ≡ false → ((at : ℕ) → slice_index (content_on image page) at < 2 ^ 8)
    → ((at : ℕ) → PAGE_BYTES ≤ at → slice_index (content_on image page) at ≡ 0) → content_of (first_pages image) page offset ≡ slice_index (content_on image page) offset
unfolding first_pages
content_is image page offset inside stale bytes end =
    elim (cases_lt offset PAGE_BYTES) [
      | inl l ↦
          let at : 8 * (offset / 8) + offset % 8 ≡ offset = omega arith in
          rw (lt-ltb page PAGES inside, lt-ltb offset PAGE_BYTES l, stale)
          (word_bytes image page (offset / 8) (offset % 8) bytes (omega arith) ∙ ap (slice_index (content_on image page)) at)
      | inr past ↦
          let off : nat_lt offset PAGE_BYTES ≡ false = false_from_ne_true _ (λ e. let l = ltb-true offset PAGE_BYTES e in absurd (omega arith)) in
          rw (lt-ltb page PAGES inside, off) (sym (end offset past))
    ]

right_by : (image : Image) (page : Page) (fresh : Bool) → is_fresh image page.number ≡ fresh → page.number < PAGES → page.byte ≡ slice_index (content_on image page.number) → IsPage page
    → bytes_of (content_of (first_pages image)) page.number fresh ≡ page.byte
right_by image page true is inside e bytes =
    fun_ext (λ offset. sym (ap (λ (b : ℕ → ℕ). b offset) e ∙ ap (λ (l : List ℕ). slice_index l offset) (empty_list (content_on image page.number) is)))
right_by image page false is inside e bytes =
    fun_ext (λ offset.
    content_is image page.number offset inside is (λ at. subst (λ (b : ℕ → ℕ). b at < 2 ^ 8) e (bytes.bytes at)) (λ at past. subst (λ (b : ℕ → ℕ). b at ≡ 0) e (bytes.end at past))
    ∙ sym (ap (λ (b : ℕ → ℕ). b offset) e))

pub page_right : (image : Image) (page : Page) → page.number < PAGES → page.byte ≡ slice_index (content_on image page.number) → IsPage page
    → bytes_of (content_of (first_pages image)) page.number (is_fresh image page.number) ≡ page.byte
page_right image page inside e bytes = right_by image page (is_fresh image page.number) refl inside e bytes

-- Which pages are in use.

lit_first : {X : Type 0} (x : X) (xs : List X) → 0 < length (x ∷ xs)
lit_first x xs = omega arith

contains_in : (xs : List ℕ) (x : ℕ) → Contains xs x → list_any (λ y. y == x) xs ≡ true
contains_in [] x (k, inside, e) = absurd (omega arith)
contains_in (y ∷ xs) x (zero, inside, e) = rw (eq-eqb y x e) refl
contains_in (y ∷ xs) x (suc k, inside, e) =
    elim (cases_Bool (y == x)) [
      | inl found ↦ rw found refl
      | inr other ↦ rw other (contains_in xs x (k, omega arith, e))
    ]

in_contains : (xs : List ℕ) (x : ℕ) → list_any (λ y. y == x) xs ≡ true → Contains xs x
in_contains [] x e = absurd (false≢true e)
in_contains (y ∷ xs) x e =
    elim (cases_Bool (y == x)) [
      | inl found ↦ (0, lit_first y xs, eqb-true y x found)
      | inr other ↦ let more = in_contains xs x (rw other at e) in (suc more.0, (let l = more.1 in omega arith), more.2)
    ]

from_all : (os : List Object) (page : ℕ) → Contains (all_numbers os) page → (i : ℕ) × (i < length os) × Contains (page_numbers (slice_get os i)) page
from_all [] page (k, inside, e) = absurd (omega arith)
from_all (o ∷ os) page c =
    elim (Contains-append_cases (page_numbers (Some o)) (all_numbers os) page c) [
      | inl own ↦ (0, lit_first o os, own)
      | inr more ↦ let r = from_all os page more in (suc r.0, (let l = r.1 in omega arith), r.2)
    ]

in_first : (n page : ℕ) → page < n → Contains (range_with_len 0 n) page
in_first n page l = (page, (let e = length-range_with_len 0 n in omega arith), (let z : 0 + page ≡ page = omega arith in get_or-range_with_len 0 n page page l ∙ z))

pub page_owner : (image : Image) (cores page : ℕ) → IsAccepted image → page < FIRST_PROGRAM_PAGE + sum_by program_pages image.programs.items
    → (i : ℕ) × (i < OBJECTS) × Contains (page_numbers ((initial image cores).objects i)) page
page_owner image cores page accepted l =
    let ps = image.programs.items in
    let n = FIRST_PROGRAM_PAGE + sum_by program_pages ps in
    let r = from_all (image_objects ps) page (subst (λ (xs : List ℕ). Contains xs page) (sym (image_numbers ps)) (in_first n page l)) in
    let count = image_count ps in
    (r.0, (let a = r.1 in let b = accepted.objects in omega arith), r.2)

owned : (image : Image) (cores page : ℕ) → has_page (initial image cores) page ≡ true → page < FIRST_PROGRAM_PAGE + sum_by program_pages image.programs.items
unfolding has_page
owned image cores page e =
    let ps = image.programs.items in
    let some = in_any (λ i. list_any (λ number. number == page) (page_numbers ((initial image cores).objects i))) every_object e in
    let c = in_contains (page_numbers ((initial image cores).objects some.0)) page some.2 in
    range_below (FIRST_PROGRAM_PAGE + sum_by program_pages ps) page (subst (λ (xs : List ℕ). Contains xs page) (image_numbers ps) (among_all (image_objects ps) some.0 page c))

owns : (image : Image) (cores page : ℕ) → IsAccepted image → page < FIRST_PROGRAM_PAGE + sum_by program_pages image.programs.items → has_page (initial image cores) page ≡ true
unfolding has_page every_object
owns image cores page accepted l =
    let r = page_owner image cores page accepted l in
    any_in (λ i. list_any (λ number. number == page) (page_numbers ((initial image cores).objects i))) every_object r.0 (in_range 0 OBJECTS r.0 (omega arith) (let b = r.1 in omega arith))
    (contains_in (page_numbers ((initial image cores).objects r.0)) page r.2)

pub pages_below : (image : Image) (cores page n : ℕ) → IsAccepted image → n ≡ FIRST_PROGRAM_PAGE + sum_by program_pages image.programs.items
    → has_page (initial image cores) page ≡ nat_lt page n
pages_below image cores page n accepted is =
    elim (cases_lt page n) [
      | inl l ↦ owns image cores page accepted (omega arith) ∙ sym (lt-ltb page n l)
      | inr le ↦
          false_from_ne_true _ (λ e. let l = owned image cores page e in absurd (omega arith))
          ∙ sym (false_from_ne_true _ (λ e. let l = ltb-true page n e in absurd (omega arith)))
    ]

-- On which pages records have content.

regions_length : (specs : List RegionSpec) → length (flat_map region_parts specs) ≡ sum_by pages_taken specs
regions_length [] = refl
regions_length (spec ∷ specs) =
    let one = region_count spec in
    let others = regions_length specs in
    let long = length-append (region_parts spec) (flat_map region_parts specs) in
    let parts : length (flat_map region_parts (spec ∷ specs)) ≡ length (region_parts spec ++ flat_map region_parts specs) = ap length (flat_map-cons region_parts spec specs) in
    let pages = sum_by-cons pages_taken spec specs in
    omega arith

program_length : (p : Program) → length (program_parts p) ≡ program_pages p
program_length p = regions_length p.regions.items

programs_length : (ps : List Program) → length (flat_map program_parts ps) ≡ sum_by program_pages ps
programs_length [] = refl
programs_length (p ∷ ps) =
    let one = program_length p in
    let others = programs_length ps in
    let long = length-append (program_parts p) (flat_map program_parts ps) in
    let parts : length (flat_map program_parts (p ∷ ps)) ≡ length (program_parts p ++ flat_map program_parts ps) = ap length (flat_map-cons program_parts p ps) in
    let pages = sum_by-cons program_pages p ps in
    omega arith

-- nothing stands behind the last part
parts_length : (ps : List Program) → length (image_parts ps) ≡ FIRST_PROGRAM_PAGE + sum_by program_pages ps
unfolding image_parts
parts_length ps =
    let rings : List (List ℕ) = replicate 4 [] in
    let long = length-append rings (flat_map program_parts ps) in
    let parts = programs_length ps in
    let first : length rings ≡ 4 = refl in
    omega arith

stale_below : (image : Image) (page : ℕ) → is_fresh image page ≡ false → page < FIRST_PROGRAM_PAGE + sum_by program_pages image.programs.items
stale_below image page stale =
    elim (cases_lt page (FIRST_PROGRAM_PAGE + sum_by program_pages image.programs.items)) [
      | inl l ↦ l
      | inr past ↦
          let long = parts_length image.programs.items in
          let none : content_on image page ≡ [] = get_or_past (image_parts image.programs.items) page [] (omega arith) in
          let fresh : is_fresh image page ≡ true = ap (λ (l : List ℕ). length l == 0) none in
          absurd (false≢true (sym stale ∙ fresh))
    ]

ring_part : (ps : List Program) (page : ℕ) → page < 4 → get_or (image_parts ps) page [] ≡ []
unfolding image_parts
ring_part ps zero below = refl
ring_part ps (suc zero) below = refl
ring_part ps (suc (suc zero)) below = refl
ring_part ps (suc (suc (suc zero))) below = refl
ring_part ps (suc (suc (suc (suc page)))) below = absurd (omega arith)

pub rings_fresh : (image : Image) (page : ℕ) → page < 4 → is_fresh image page ≡ true
rings_fresh image page below = ap (λ (l : List ℕ). length l == 0) (ring_part image.programs.items page below)

pub rings_none : (image : Image) (page : ℕ) → page < 4 → first_pages image page ≡ None
unfolding first_pages
rings_none image page below = rw (rings_fresh image page below) refl

-- a memory object has content on a page of its own that isn't fresh
any_stale : (image : Image) (pages : List Page) (page : ℕ) → is_fresh image page ≡ false → Contains (map (λ (p : Page). p.number) pages) page
    → list_any (λ (p : MemPage). (p.page == page) && not p.fresh) (map (mem_page_of image) pages) ≡ true
any_stale image [] page stale (k, inside, e) = absurd (omega arith)
any_stale image (p ∷ pages) page stale (zero, inside, e) =
    let same : (p.number == page) ≡ true = eq-eqb p.number page e in
    let own : is_fresh image p.number ≡ false = ap (is_fresh image) e ∙ stale in
    rw (same, own) refl
any_stale image (p ∷ pages) page stale (suc k, inside, e) =
    or_right _ _ (any_stale image pages page stale (k, omega arith, e))

stale_any : (image : Image) (pages : List Page) (page : ℕ) → list_any (λ (p : MemPage). (p.page == page) && not p.fresh) (map (mem_page_of image) pages) ≡ true → is_fresh image page ≡ false
stale_any image [] page e = absurd (false≢true e)
stale_any image (p ∷ pages) page e =
    elim (or_cases _ _ e) [
      | inl here_is ↦ let both = and_parts (p.number == page) (not (is_fresh image p.number)) here_is in
          ap (is_fresh image) (sym (eqb-true p.number page both.0)) ∙ not-true (is_fresh image p.number) both.1
      | inr more ↦ stale_any image pages page more
    ]

owner_content : (image : Image) (cores page : ℕ) (o : Option Object) → HasForm o → is_fresh image page ≡ false → Contains (page_numbers o) page
    → has_content_in (option_map (record_of_object image cores) o) page ≡ true
owner_content image cores page None form stale (k, inside, e) = absurd (omega arith)
owner_content image cores page (Some (plain.Group slots)) form stale (k, inside, e) = absurd (omega arith)
owner_content image cores page (Some (plain.Thread thread)) form stale (k, inside, e) = absurd (omega arith)
owner_content image cores page (Some (plain.Space regions)) form stale (k, inside, e) = absurd (omega arith)
owner_content image cores page (Some (plain.Memory pages)) form stale c = any_stale image pages page stale c
owner_content image cores page (Some (plain.Connection server client clients)) form stale (k, inside, e) = absurd (omega arith)
owner_content image cores page (Some (plain.Notification count waiters)) form stale (k, inside, e) = absurd (omega arith)
owner_content image cores page (Some (plain.OutputRing channel)) form stale (zero, inside, e) =
    let below : page < 4 = omega (arith, form, e) in absurd (false≢true (sym stale ∙ rings_fresh image page below))
owner_content image cores page (Some (plain.OutputRing channel)) form stale (suc k, inside, e) = absurd (omega arith)
owner_content image cores page (Some plain.InputRing) form stale (k, inside, e) = absurd (omega arith)
owner_content image cores page (Some plain.Scheduler) form stale (k, inside, e) = absurd (omega arith)

content_stale : (image : Image) (cores page : ℕ) (o : Option Object) → has_content_in (option_map (record_of_object image cores) o) page ≡ true → is_fresh image page ≡ false
content_stale image cores page None e = absurd (false≢true e)
content_stale image cores page (Some (plain.Group slots)) e = absurd (false≢true e)
content_stale image cores page (Some (plain.Thread thread)) e = absurd (false≢true e)
content_stale image cores page (Some (plain.Space regions)) e = absurd (false≢true e)
content_stale image cores page (Some (plain.Memory pages)) e = stale_any image pages page e
content_stale image cores page (Some (plain.Connection server client clients)) e = absurd (false≢true e)
content_stale image cores page (Some (plain.Notification count waiters)) e = absurd (false≢true e)
content_stale image cores page (Some (plain.OutputRing channel)) e = absurd (false≢true e)
content_stale image cores page (Some plain.InputRing) e = absurd (false≢true e)
content_stale image cores page (Some plain.Scheduler) e = absurd (false≢true e)

content_by : (image : Image) (cores page : ℕ) (fresh : Bool) → IsAccepted image → HaveForms (initial image cores) → is_fresh image page ≡ fresh → is_content (first_records image cores) page ≡ not fresh
unfolding first_records is_content every_object
content_by image cores page true accepted forms fresh = false_from_ne_true _ (λ e.
    let some = in_any (λ i. has_content_in (option_map (record_of_object image cores) ((initial image cores).objects i)) page) (range_with_len 0 OBJECTS) e in
    false≢true (sym (content_stale image cores page ((initial image cores).objects some.0) some.2) ∙ fresh))
content_by image cores page false accepted forms stale =
    let r = page_owner image cores page accepted (stale_below image page stale) in
    any_in (λ i. has_content_in (option_map (record_of_object image cores) ((initial image cores).objects i)) page) (range_with_len 0 OBJECTS) r.0
    (in_range 0 OBJECTS r.0 (omega arith) (let b = r.1 in omega arith))
    (owner_content image cores page ((initial image cores).objects r.0) (forms r.0) stale r.2)

none_past : (image : Image) (page : ℕ) (fresh : Bool) → is_fresh image page ≡ fresh → IsAccepted image → PAGES ≤ page → first_pages image page ≡ None
unfolding first_pages
none_past image page true e accepted past = rw e refl
none_past image page false e accepted past = (let l = stale_below image page e in let m = accepted.pages in absurd (omega arith))

told_by : (image : Image) (page : ℕ) (fresh : Bool) → is_fresh image page ≡ fresh → is_some (first_pages image page) ≡ not fresh
unfolding first_pages
told_by image page true e = rw e refl
told_by image page false e = rw e refl

pub pages_told : (image : Image) (cores : ℕ) → IsAccepted image → HaveForms (initial image cores) → AreOfRecords (first_records image cores) (first_pages image)
pages_told image cores accepted forms = record {
  each = λ page inside. told_by image page (is_fresh image page) refl ∙ sym (content_by image cores page (is_fresh image page) accepted forms refl);
  past = λ page past. none_past image page (is_fresh image page) refl accepted past;
}
