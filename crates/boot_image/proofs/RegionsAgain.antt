-- The bytes of regions break no rule, and say these regions.
use Rattle.std.proofs.Common.{◌≡◌, ℕ, zero, suc, ◌+◌, ◌-◌, ◌*◌, ◌<◌, ◌≤◌, Bool, true, false, ◌||◌, ◌==◌, nat_le, List, [], ◌∷◌, ◌++◌, length, get_or, drop, None, refl, sym, ap, ◌∙◌, append_assoc, arith, inl, inr}
use Rattle.std.specs.Prelude.{map, sum_by, replicate}
use Rattle.std.specs.List.{list_all, flat_map, AllPairs, AllByRecursion}
use Rattle.std.specs.Cmp.Derive.{both_true}
use Rattle.std.proofs.lemmas.Bool.{le-leb}
use Rattle.std.proofs.lemmas.List.{drop-drop, map_push, take_at, drop_at, length-append, length-replicate}
use Rattle.std.proofs.lemmas.List.Concat.{flat_map-cons}
use Rattle.std.proofs.lemmas.List.Sums.{sum_by-cons}
use Rattle.std.proofs.Math.ListN.{get_or-append}
use Rattle.std.proofs.Math.Seq.{get_or-append_seam}
use Rattle.sls_base.specs.declared.limits.TheConstants.{PAGE_BYTES, PAGES}
use Rattle.sls_base.specs.declared.image.RegionSpec.{RegionSpec}
use Rattle.plain_model.specs.Initial.{IsRegion, IsApart, pages_taken}
use Rattle.boot_image.specs.Spelling.{padded, padding, region_bytes}
use Rattle.boot_image.specs.Values.{RegionValue, region_value, word_at, region_at, region_size, regions_at, regions_size}
use Rattle.boot_image.specs.Regions.{padding_at, is_apart_from, regions_fault}
use Rattle.boot_image.proofs.Words.{AreNumbers, IsFour, four_words, four_read}
use Rattle.boot_image.proofs.RegionFacts.{Holds, none_broken, region_text}

-- zeros are zeros
zeros_pass : (n : ℕ) → list_all (λ byte. byte == 0) (replicate n 0) ≡ true
zeros_pass zero = refl
zeros_pass (suc n) = zeros_pass n

pub record IsAgain (earlier : List RegionValue) (pages : ℕ) (bytes : List ℕ) (spec : RegionSpec) (rest : List ℕ) : Type 0 where
  pub holds : Holds earlier pages bytes
  pub value : region_at bytes ≡ region_value spec
  pub behind : drop (region_size bytes) bytes ≡ rest
  pub size : region_size bytes + length rest ≡ length bytes

-- content, its padding and more
abbrev pub tail_of : List ℕ → List ℕ → List ℕ
tail_of content rest = content ++ (padding (length content) ++ rest)

region_read : (earlier : List RegionValue) (pages : ℕ) (bytes : List ℕ) (spec : RegionSpec) (rest : List ℕ)
    → IsFour spec.base spec.pages spec.rights (length spec.content.items) (tail_of spec.content.items rest) bytes
    → IsRegion spec → pages + spec.pages ≤ PAGES → list_all (is_apart_from spec.base spec.pages) earlier ≡ true → IsAgain earlier pages bytes spec rest
unfolding region_at region_size
region_read earlier pages bytes spec rest f region few apart =
    let content : List ℕ = spec.content.items in
    let n : ℕ = length content in
    let k : ℕ = padded n - n in
    let more : n ≤ padded n = omega arith in
    let zeros_long : length (padding n) ≡ k = length-replicate k 0 in
    let behind_content : drop n (tail_of content rest) ≡ padding n ++ rest = drop_at content (padding n ++ rest) n refl in
    let zeros : padding_at n bytes ≡ padding n = rw (f.rest, behind_content) (take_at (padding n) rest k zeros_long) in
    let long : length bytes ≡ 16 + (n + (k + length rest)) =
    omega (arith, f.count, length-append content (padding n ++ rest), length-append (padding n) rest, zeros_long) in
    let behind_zeros : drop k (padding n ++ rest) ≡ rest = drop_at (padding n) rest k zeros_long in
    let size-is : 16 + padded (word_at 12 bytes) ≡ 16 + (n + k) = rw f.fourth (omega arith) in
    record {
      holds = record {
        header = omega (arith, long);
        base = rw f.first region.base;
        some_page = rw f.second region.some_page;
        few_pages = rw f.second region.pages;
        end = rw (f.first, f.second) region.end;
        count = rw f.second few;
        some_right = rw f.third region.some_right;
        rights = rw f.third region.rights;
        content = rw (f.fourth, f.second) region.content;
        apart = rw (f.first, f.second) apart;
        whole = omega (arith, size-is, long);
        zeros = rw (f.fourth, zeros) (zeros_pass k);
      };
      value = rw (f.first, f.second, f.third, f.fourth, f.rest, take_at content (padding n ++ rest) n refl) refl;
      behind =
          ap (λ (j : ℕ). drop j bytes) size-is ∙ sym (drop-drop (n + k) 16 bytes) ∙ ap (λ (x : List ℕ). drop (n + k) x) f.rest
          ∙ sym (drop-drop k n (tail_of content rest)) ∙ ap (λ (x : List ℕ). drop k x) behind_content ∙ behind_zeros;
      size = omega (arith, size-is, long);
    }

pub region_again : (earlier : List RegionValue) (pages : ℕ) (spec : RegionSpec) (rest : List ℕ)
    → IsRegion spec → pages + spec.pages ≤ PAGES → list_all (is_apart_from spec.base spec.pages) earlier ≡ true
    → IsAgain earlier pages (region_bytes spec ++ rest) spec rest
region_again earlier pages spec rest region few apart =
    let numbers : AreNumbers spec.base spec.pages spec.rights (length spec.content.items) = record {
      first = omega (arith, region.end, region.some_page);
      second = omega (arith, region.pages);
      third = omega (arith, region.rights);
      fourth = omega (arith, region.content, region.pages);
    } in
    let f = four_read spec.base spec.pages spec.rights (length spec.content.items) (tail_of spec.content.items rest) numbers in
    let bytes : List ℕ = four_words spec.base spec.pages spec.rights (length spec.content.items) (tail_of spec.content.items rest) in
    rw region_text (region_read earlier pages bytes spec rest f region few apart)

-- the test of the rule, from what it tests
pass_test : (base pages : ℕ) (before : List RegionSpec) → ((k : ℕ) (d : RegionSpec) → k < length before → is_apart_from base pages (region_value (get_or before k d)) ≡ true)
    → list_all (is_apart_from base pages) (map region_value before) ≡ true
pass_test base pages [] h = refl
pass_test base pages (x ∷ xs) h = both_true (h 0 x (omega arith)) (pass_test base pages xs (λ k d lt. h (suc k) d (omega arith)))

pub or_left : (a b : Bool) → a ≡ true → (a || b) ≡ true
or_left true b e = refl
or_left false b e = absurd cc

pub or_right : (a b : Bool) → b ≡ true → (a || b) ≡ true
or_right true b e = refl
or_right false b e = e

pass_one : (spec other : RegionSpec) → IsApart other spec → is_apart_from spec.base spec.pages (region_value other) ≡ true
pass_one spec other h =
    let one = nat_le (spec.base + PAGE_BYTES * spec.pages) other.base in
    let two = nat_le (other.base + PAGE_BYTES * other.pages) spec.base in
    elim h [
      | inl below ↦ or_right one two (le-leb (other.base + PAGE_BYTES * other.pages) spec.base below)
      | inr above ↦ or_left one two (le-leb (spec.base + PAGE_BYTES * spec.pages) other.base above)
    ]

apart_test : (before : List RegionSpec) (s : RegionSpec) (ss : List RegionSpec) → AllPairs IsApart (before ++ s ∷ ss)
    → list_all (is_apart_from s.base s.pages) (map region_value before) ≡ true
apart_test before s ss apart =
    pass_test s.base s.pages before (λ k d lt.
    let pair = apart k (length before) d lt (omega (arith, length-append before (s ∷ ss))) in
    let one = rw (get_or-append before (s ∷ ss) d k lt, get_or-append_seam before s ss d) at pair in
    pass_one s (get_or before k d) one)

pub record AreAgain (n at pages : ℕ) (bytes : List ℕ) (before specs : List RegionSpec) (rest : List ℕ) : Type 0 where
  pub fault : regions_fault n at (map region_value before) pages bytes ≡ None
  pub said : regions_at n bytes ≡ map region_value specs
  pub behind : drop (regions_size n bytes) bytes ≡ rest
  pub size : regions_size n bytes + length rest ≡ length bytes

pub regions_again : (at pages : ℕ) (before specs : List RegionSpec) (rest : List ℕ) → AllByRecursion IsRegion specs → AllPairs IsApart (before ++ specs)
    → pages + sum_by pages_taken specs ≤ PAGES → AreAgain (length specs) at pages (flat_map region_bytes specs ++ rest) before specs rest
unfolding regions_fault regions_at regions_size
regions_again at pages before [] rest regions apart few = record { fault = refl; said = refl; behind = refl; size = omega arith }
regions_again at pages before (s ∷ ss) rest regions apart few =
    let bytes : List ℕ = flat_map region_bytes (s ∷ ss) ++ rest in
    let others : List ℕ = flat_map region_bytes ss ++ rest in
    let text : bytes ≡ region_bytes s ++ others = rw flat_map-cons (append_assoc (region_bytes s) (flat_map region_bytes ss) rest) in
    let taken = sum_by-cons pages_taken s ss in
    let one : IsAgain (map region_value before) pages bytes s others =
    rw text (region_again (map region_value before) pages s others regions.0 (omega (arith, few, taken)) (apart_test before s ss apart)) in
    let next = regions_again (at + region_size bytes) (pages + s.pages) (before ++ s ∷ []) ss rest regions.1 (rw (append_assoc before (s ∷ []) ss) apart) (omega (arith, few, taken)) in
    let moved : drop (region_size bytes) bytes ≡ others = one.behind in
    let values : map region_value before ++ region_at bytes ∷ [] ≡ map region_value (before ++ s ∷ []) =
    ap (λ (r : RegionValue). map region_value before ++ r ∷ []) one.value ∙ sym (map_push region_value before s) in
    let pages-is : (region_at bytes).pages ≡ s.pages = ap (λ (r : RegionValue). r.pages) one.value in
    record {
      fault = rw (none_broken at (map region_value before) pages bytes one.holds, moved, values, pages-is, next.fault) refl;
      said = rw (moved, one.value, next.said) refl;
      behind = sym (drop-drop (regions_size (length ss) (drop (region_size bytes) bytes)) (region_size bytes) bytes) ∙ rw moved next.behind;
      size = rw moved (omega (arith, one.size, next.size));
    }
