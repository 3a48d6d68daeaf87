-- Reading regions one after another, as a loop does.
use Rattle.std.proofs.Common.{◌≡◌, ℕ, suc, ◌+◌, ◌-◌, ◌<◌, ◌≤◌, List, [], ◌∷◌, ◌++◌, drop, None, refl, sym, ap, ◌∙◌, append_assoc, arith}
use Rattle.std.proofs.lemmas.List.{drop-drop, append-nil}
use Rattle.std.proofs.lemmas.List.Sums.{sum_by-cons}
use Rattle.boot_image.specs.declared.fault.ImageError.{ImageError}
use Rattle.boot_image.specs.Values.{RegionValue, region_at, region_size, regions_at, regions_size, pages_of}
use Rattle.boot_image.specs.Rules.{Refuses}
use Rattle.boot_image.specs.Regions.{region_fault, regions_fault}
use Rattle.boot_image.proofs.Firsts.{first_one, refused_first}

-- behind these regions, of this size and up to these pages, so many are left, and what they are is what all of them are
pub record IsReadTo (count at pages : ℕ) (bytes : List ℕ) (left done taken : ℕ) (specs : List RegionValue) : Type 0 where
  pub fault : regions_fault left (at + done) specs taken (drop done bytes) ≡ regions_fault count at [] pages bytes
  pub said : specs ++ regions_at left (drop done bytes) ≡ regions_at count bytes
  pub size : done + regions_size left (drop done bytes) ≡ regions_size count bytes
  pub sum : taken + pages_of (regions_at left (drop done bytes)) ≡ pages + pages_of (regions_at count bytes)

pub steps : (count at pages : ℕ) (bytes : List ℕ) (n size taken : ℕ) (specs : List RegionValue)
    → IsReadTo count at pages bytes (suc n) size taken specs
    → region_fault (at + size) specs taken (drop size bytes) ≡ None
    → IsReadTo count at pages bytes n (size + region_size (drop size bytes)) (taken + (region_at (drop size bytes)).pages) (specs ++ region_at (drop size bytes) ∷ [])
unfolding regions_fault regions_at regions_size
steps count at pages bytes n size taken specs so_far none =
    let rest : List ℕ = drop size bytes in
    let moved : drop (size + region_size rest) bytes ≡ drop (region_size rest) rest = sym (drop-drop (region_size rest) size bytes) in
    let place : at + (size + region_size rest) ≡ (at + size) + region_size rest = omega arith in
    let one = rw none at so_far.fault in
    record {
      fault = rw (moved, place) (sym (first_one _) ∙ one);
      said = rw moved (append_assoc specs (region_at rest ∷ []) (regions_at n (drop (region_size rest) rest)) ∙ so_far.said);
      size = rw moved (omega (arith, so_far.size));
      sum = rw moved (omega (arith, so_far.sum, sum_by-cons (λ r. r.pages) (region_at rest) (regions_at n (drop (region_size rest) rest))));
    }

-- the step of a loop that counts up
pub goes_on : (count at pages : ℕ) (bytes : List ℕ) (i size taken : ℕ) (specs : List RegionValue) (r : RegionValue) (s : ℕ) → i < count
    → IsReadTo count at pages bytes (count - i) size taken specs
    → region_fault (at + size) specs taken (drop size bytes) ≡ None
    → ◌≡◌ {A = RegionValue × ℕ} (r, s) (region_at (drop size bytes), region_size (drop size bytes))
    → IsReadTo count at pages bytes (count - (i + 1)) (size + s) (taken + r.pages) (specs ++ r ∷ [])
goes_on count at pages bytes i size taken specs r s lt so_far none is =
    let k : count - i ≡ suc (count - (i + 1)) = omega arith in
    let r-is : r ≡ region_at (drop size bytes) = ap (λ (p : RegionValue × ℕ). p.0) is in
    let s-is : s ≡ region_size (drop size bytes) = ap (λ (p : RegionValue × ℕ). p.1) is in
    rw (r-is, s-is) (steps count at pages bytes (count - (i + 1)) size taken specs (rw k at so_far) none)

pub ends : (e : ImageError) (count at pages : ℕ) (bytes : List ℕ) (i size taken : ℕ) (specs : List RegionValue) → i < count
    → IsReadTo count at pages bytes (count - i) size taken specs
    → Refuses e (region_fault (at + size) specs taken (drop size bytes))
    → Refuses e (regions_fault count at [] pages bytes)
unfolding regions_fault
ends e count at pages bytes i size taken specs lt so_far h =
    let k : count - i ≡ suc (count - (i + 1)) = omega arith in
    rw (← so_far.fault, k) (refused_first e (region_fault (at + size) specs taken (drop size bytes)) _ h)

pub record IsRead (count at pages : ℕ) (bytes : List ℕ) (size taken : ℕ) (specs : List RegionValue) : Type 0 where
  pub kept : regions_fault count at [] pages bytes ≡ None
  pub said : ◌≡◌ {A = List RegionValue × ℕ} (specs, size) (regions_at count bytes, regions_size count bytes)
  pub sum : taken ≡ pages + pages_of (regions_at count bytes)

pub is_done : (count at pages : ℕ) (bytes : List ℕ) (i size taken : ℕ) (specs : List RegionValue) → count ≤ i
    → IsReadTo count at pages bytes (count - i) size taken specs → IsRead count at pages bytes size taken specs
unfolding regions_fault regions_at regions_size
is_done count at pages bytes i size taken specs le so_far =
    let k : count - i ≡ 0 = omega arith in
    let last = rw k at so_far in
    let specs-is : specs ≡ regions_at count bytes = sym (append-nil specs) ∙ last.said in
    let size-is : size ≡ regions_size count bytes = omega (arith, last.size) in
    record {
      kept = sym last.fault;
      said = rw (specs-is, size-is) refl;
      sum = omega (arith, last.sum);
    }
