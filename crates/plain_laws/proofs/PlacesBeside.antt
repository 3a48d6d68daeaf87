-- Bytes at addresses of one page: they are covered where the first is, and stand one behind another.
use Rattle.std.specs.Prelude.{◌≡◌, ℕ, zero, suc, ◌+◌, ◌/◌, ◌%◌, ◌≤◌, Bool, true, false, List, ◌∷◌, find, map, Option, Some, None, option_map, is_some}
use Rattle.std.specs.List.{range_with_len}
use Rattle.std.proofs.Common.{refl, ap, ◌∙◌, arith}
use Rattle.sls_base.specs.declared.limits.TheConstants.{PAGE_BYTES}
use Rattle.plain_state.specs.declared.objects.Region.{Region}
use Rattle.plain_state.specs.declared.effect.Place.{Place}
use Rattle.plain_model.specs.Memory.{covers, is_covered, place_in, place_of, places_of}
use Rattle.plain_laws.specs.OnePage.{place_beside}
use Rattle.plain_laws.proofs.PageNumbers.{covers_page}

-- an address that is so many behind another is on the same page
pub same_page : (at k a : ℕ) → a ≡ at + k → at % PAGE_BYTES + k + 1 ≤ PAGE_BYTES → (a / PAGE_BYTES ≡ at / PAGE_BYTES) × (a % PAGE_BYTES ≡ at % PAGE_BYTES + k)
same_page at k a e l = (omega arith, omega arith)

-- the first region that covers an address covers each of its page
pub found_beside : (regions : List Region) (right at a : ℕ) → a / PAGE_BYTES ≡ at / PAGE_BYTES → find (covers right a) regions ≡ find (covers right at) regions
found_beside regions right at a e = ap (λ (page : ℕ). find (covers_page right page) regions) e

pub place_there : (regions : List Region) (region : Region) (right at k a : ℕ) → a ≡ at + k → at % PAGE_BYTES + k + 1 ≤ PAGE_BYTES → find (covers right at) regions ≡ Some region
    → place_of regions right a ≡ Some (place_beside at region k)
place_there regions region right at k a e l found =
    let same = same_page at k a e l in
    let there : find (covers right a) regions ≡ Some region = found_beside regions right at a same.0 ∙ found in
    rw there (rw same.0 (rw same.1 refl))

pub run_of_places : (regions : List Region) (region : Region) (right at k a count : ℕ) → a ≡ at + k → at % PAGE_BYTES + k + count ≤ PAGE_BYTES → find (covers right at) regions ≡ Some region
    → places_of regions right a count ≡ map (place_beside at region) (range_with_len k count)
run_of_places regions region right at k a zero e l found = refl
run_of_places regions region right at k a (suc zero) e l found = rw (place_there regions region right at k a e (omega arith) found) refl
run_of_places regions region right at k a (suc (suc n)) e l found =
    rw (place_there regions region right at k a e (omega arith) found)
    (ap (λ (rest : List Place). place_beside at region k ∷ rest) (run_of_places regions region right at (k + 1) (a + 1) (suc n) (omega arith) (omega arith) found))

pub places_beside : (regions : List Region) (region : Region) (right at count : ℕ) → at % PAGE_BYTES + count ≤ PAGE_BYTES → find (covers right at) regions ≡ Some region
    → places_of regions right at count ≡ map (place_beside at region) (range_with_len 0 count)
places_beside regions region right at count l found = run_of_places regions region right at 0 at count (omega arith) (omega arith) found

-- Where they are covered.

pub mapped_some : {X Y : Type 0} → (f : X → Y) (o : Option X) → is_some (option_map f o) ≡ is_some o
mapped_some f None = refl
mapped_some f (Some x) = refl

pub covered_there : (regions : List Region) (right at k a : ℕ) (b : Bool) → a ≡ at + k → at % PAGE_BYTES + k + 1 ≤ PAGE_BYTES → is_some (find (covers right at) regions) ≡ b
    → is_some (place_of regions right a) ≡ b
covered_there regions right at k a b e l found =
    mapped_some (place_in a) (find (covers right a) regions) ∙ ap (λ (o : Option Region). is_some o) (found_beside regions right at a (same_page at k a e l).0) ∙ found

pub run_is_covered : (regions : List Region) (right at k a count : ℕ) (b : Bool) → 1 ≤ count → a ≡ at + k → at % PAGE_BYTES + k + count ≤ PAGE_BYTES → is_some (find (covers right at) regions) ≡ b
    → is_covered regions right a count ≡ b
run_is_covered regions right at k a zero b some e l found = absurd (omega arith)
run_is_covered regions right at k a (suc zero) true some e l found = rw (covered_there regions right at k a true e (omega arith) found) refl
run_is_covered regions right at k a (suc (suc n)) true some e l found =
    rw (covered_there regions right at k a true e (omega arith) found)
    (run_is_covered regions right at (k + 1) (a + 1) (suc n) true (omega arith) (omega arith) (omega arith) found)
run_is_covered regions right at k a (suc n) false some e l found = rw (covered_there regions right at k a false e (omega arith) found) refl

pub covered_beside : (regions : List Region) (right at count : ℕ) → 1 ≤ count → at % PAGE_BYTES + count ≤ PAGE_BYTES → is_covered regions right at count ≡ is_some (find (covers right at) regions)
covered_beside regions right at count some l = run_is_covered regions right at 0 at count (is_some (find (covers right at) regions)) some (omega arith) (omega arith) refl
