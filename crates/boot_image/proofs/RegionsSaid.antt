-- What the bytes of regions say, where no rule is broken.
use Rattle.std.proofs.Common.{◌≡◌, ℕ, zero, suc, ◌+◌, ◌*◌, ◌<◌, ◌≤◌, Bool, true, false, ◌||◌, nat_le, List, [], ◌∷◌, ◌++◌, length, get_or, drop, None, refl, sym, ap, ◌∙◌, append_assoc, arith, inl, inr}
use Rattle.std.specs.Prelude.{map, sum_by, ◌⊎◌}
use Rattle.std.specs.List.{list_all, flat_map, AllPairs, AllByRecursion}
use Rattle.std.proofs.lemmas.Bool.{leb-true, and_parts}
use Rattle.std.proofs.lemmas.List.{append-nil, drop-drop, map_push}
use Rattle.std.proofs.lemmas.List.Concat.{flat_map-cons}
use Rattle.std.proofs.lemmas.List.Sums.{sum_by-cons}
use Rattle.std.proofs.lemmas.List.Quantifiers.{all_pairs_push}
use Rattle.sls_base.specs.declared.limits.TheConstants.{PAGE_BYTES, PAGES}
use Rattle.sls_base.specs.declared.image.RegionSpec.{RegionSpec}
use Rattle.plain_model.specs.Initial.{IsRegion, IsApart, pages_taken}
use Rattle.boot_image.specs.Spelling.{region_bytes}
use Rattle.boot_image.specs.Values.{RegionValue, region_value, word_at, region_at, region_size, regions_at, regions_size}
use Rattle.boot_image.specs.Rules.{first}
use Rattle.boot_image.specs.Regions.{is_apart_from, region_fault, regions_fault}
use Rattle.boot_image.proofs.Firsts.{two_none}
use Rattle.boot_image.proofs.Words.{IsBytes, IsBytes-drop}
use Rattle.boot_image.proofs.RegionFacts.{holds, region_said}

-- the test of the rule, for an earlier region
apart_at : (base pages : ℕ) (before : List RegionSpec) (k : ℕ) (d : RegionSpec) → k < length before
    → list_all (is_apart_from base pages) (map region_value before) ≡ true → is_apart_from base pages (region_value (get_or before k d)) ≡ true
apart_at base pages [] k d lt e = absurd (omega arith)
apart_at base pages (x ∷ xs) zero d lt e = (and_parts (is_apart_from base pages (region_value x)) (list_all (is_apart_from base pages) (map region_value xs)) e).0
apart_at base pages (x ∷ xs) (suc k) d lt e = apart_at base pages xs k d (omega arith) (and_parts (is_apart_from base pages (region_value x)) (list_all (is_apart_from base pages) (map region_value xs)) e).1

pub either : (a b : Bool) → (a || b) ≡ true → (a ≡ true) ⊎ (b ≡ true)
either true b e = inl refl
either false b e = inr e

are_apart : (spec other : RegionSpec) → is_apart_from spec.base spec.pages (region_value other) ≡ true → IsApart other spec
are_apart spec other e =
    elim (either (nat_le (spec.base + PAGE_BYTES * spec.pages) other.base) (nat_le (other.base + PAGE_BYTES * other.pages) spec.base) e) [
      | inl h ↦ inr (leb-true (spec.base + PAGE_BYTES * spec.pages) other.base h)
      | inr h ↦ inl (leb-true (other.base + PAGE_BYTES * other.pages) spec.base h)
    ]

-- regions behind others are those that these bytes spell
pub record AreSaid (n pages : ℕ) (bytes : List ℕ) (before specs : List RegionSpec) : Type 0 where
  pub spelled : bytes ≡ flat_map region_bytes specs ++ drop (regions_size n bytes) bytes
  pub count : length specs ≡ n
  pub regions : AllByRecursion IsRegion specs
  pub apart : AllPairs IsApart (before ++ specs)
  pub few : pages + sum_by pages_taken specs ≤ PAGES

pub joined : (size more : ℕ) (bytes first others : List ℕ) → bytes ≡ first ++ drop size bytes → drop size bytes ≡ others ++ drop more (drop size bytes)
    → bytes ≡ (first ++ others) ++ drop (size + more) bytes
joined size more bytes first others e f =
    let moved : drop more (drop size bytes) ≡ drop (size + more) bytes = drop-drop more size bytes in
    e ∙ ap (λ (x : List ℕ). first ++ x) (f ∙ ap (λ (x : List ℕ). others ++ x) moved) ∙ sym (append_assoc first others (drop (size + more) bytes))

pub regions_said : (n at pages : ℕ) (bytes : List ℕ) (before specs : List RegionSpec) → IsBytes bytes → pages ≤ PAGES
    → regions_fault n at (map region_value before) pages bytes ≡ None → map region_value specs ≡ regions_at n bytes
    → AllPairs IsApart before → AreSaid n pages bytes before specs
unfolding regions_fault regions_at regions_size
regions_said zero at pages bytes before [] fits few e is apart = record {
  spelled = refl;
  count = refl;
  regions = tt;
  apart = rw append-nil apart;
  few = omega arith;
}
regions_said zero at pages bytes before (s ∷ ss) fits few e is apart = absurd cc
regions_said (suc n) at pages bytes before [] fits few e is apart = absurd cc
regions_said (suc n) at pages bytes before (s ∷ ss) fits few e is apart =
    let a = two_none (region_fault at (map region_value before) pages bytes)
    (regions_fault n (at + region_size bytes) (map region_value before ++ region_at bytes ∷ []) (pages + (region_at bytes).pages) (drop (region_size bytes) bytes)) e in
    let s-is : region_value s ≡ region_at bytes = cc in
    let ss-is : map region_value ss ≡ regions_at n (drop (region_size bytes) bytes) = cc in
    let h = holds at (map region_value before) pages bytes a.0 in
    let said = region_said (map region_value before) pages bytes s fits h s-is in
    let base-is : s.base ≡ word_at 0 bytes = said.base in
    let pages-is : s.pages ≡ word_at 4 bytes = said.pages in
    let test : list_all (is_apart_from s.base s.pages) (map region_value before) ≡ true = rw (base-is, pages-is) h.apart in
    let more = all_pairs_push IsApart before s apart (λ k d lt. are_apart s (get_or before k d) (apart_at s.base s.pages before k d lt test)) in
    let taken : s.pages ≡ (region_at bytes).pages = ap (λ (r : RegionValue). r.pages) s-is in
    let values : map region_value (before ++ s ∷ []) ≡ map region_value before ++ region_at bytes ∷ [] =
    map_push region_value before s ∙ ap (λ (r : RegionValue). map region_value before ++ r ∷ []) s-is in
    let rest_holds : regions_fault n (at + region_size bytes) (map region_value (before ++ s ∷ [])) (pages + s.pages) (drop (region_size bytes) bytes) ≡ None =
    rw (values, taken) a.1 in
    let next = regions_said n (at + region_size bytes) (pages + s.pages) (drop (region_size bytes) bytes) (before ++ s ∷ []) ss
    (IsBytes-drop (region_size bytes) bytes fits) (rw pages-is h.count) rest_holds ss-is more in
    record {
      spelled = rw flat_map-cons (joined (region_size bytes) (regions_size n (drop (region_size bytes) bytes)) bytes (region_bytes s) (flat_map region_bytes ss) said.spelled next.spelled);
      count = ap suc next.count;
      regions = (said.region, next.regions);
      apart = rw (← append_assoc before (s ∷ []) ss) next.apart;
      few = omega (arith, next.few, sum_by-cons pages_taken s ss);
    }
