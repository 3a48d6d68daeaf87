-- What an address translates to, by the first region that fits and by any.
use Rattle.std.proofs.Common.{◌≡◌, ℕ, ◌/◌, ◌↔◌, false, Option, Some, None, Contains, sym, ap, ◌∙◌, refl}
use Rattle.std.specs.List.{find}
use Rattle.std.specs.Option.{option_map, unwrap_or}
use Rattle.std.proofs.lemmas.Bool.{false≢true}
use Rattle.std.proofs.lemmas.List.Elements.{All-contains}
use Rattle.sls_base.specs.declared.limits.TheConstants.{PAGE_BYTES}
use Rattle.sls_base.specs.Rights.{HasRights}
use Rattle.mem_space.proofs.FindLemmas.{find_found, find_none}
use Rattle.mem_space.proofs.RegionTests.{covers_by_test}
use Rattle.mem_space.proofs.SpaceLemmas.{one_region}
use Rattle.mem_space.specs.declared.region.Region.{Region}
use Rattle.mem_space.specs.declared.space.Space.{Space}
use Rattle.mem_space.specs.Region.{IsRegion, Covers, covers_with, index_at, place_in}
use Rattle.mem_space.specs.Space.{IsSpace, TranslatesTo, translation}

-- The first region that fits is one of the space, and fits.
pub found_fits : (space : Space) (at right : ℕ) (region : Region) → find (covers_with at right) space.regions.items ≡ Some region
    → Contains space.regions.items region × Covers region at × HasRights region.rights right
found_fits space at right region is =
    let found = find_found (covers_with at right) space.regions.items region is in
    let fits = (covers_by_test region at right).0 found.1 in
    (found.0, fits.0, fits.1)

-- it is in form
pub found_form : (space : Space) (at right : ℕ) (region : Region) → IsSpace space → find (covers_with at right) space.regions.items ≡ Some region → IsRegion region
found_form space at right region in_form is =
    All-contains IsRegion space.regions.items region in_form.regions (found_fits space at right region is).0

pub translates_to : (space : Space) (at right object index : ℕ) (first : Option Region) → find (covers_with at right) space.regions.items ≡ first
    → option_map (place_in at) first ≡ Some (object, index) → TranslatesTo space at right object index
translates_to space at right object index None is place = cc
translates_to space at right object index (Some region) is place =
    let fits = found_fits space at right region is in
    record {
      region = region;
      mapped = fits.0;
      covers = fits.1;
      allows = fits.2;
      object_is = sym (ap (λ (o : Option (ℕ × ℕ)). (unwrap_or o (0, 0)).0) place);
      index_is = sym (ap (λ (o : Option (ℕ × ℕ)). (unwrap_or o (0, 0)).1) place);
    }

-- Where a region fits, the first one that fits is that one.
pub first_fits : (space : Space) (at right object index : ℕ) (first : Option Region) → IsSpace space → find (covers_with at right) space.regions.items ≡ first
    → TranslatesTo space at right object index → option_map (place_in at) first ≡ Some (object, index)
first_fits space at right object index None in_form is t =
    let fails = All-contains (λ region. covers_with at right region ≡ false) space.regions.items t.region (find_none (covers_with at right) space.regions.items is) t.mapped in
    absurd (false≢true (sym fails ∙ (covers_by_test t.region at right).1 (t.covers, t.allows)))
first_fits space at right object index (Some region) in_form is t =
    let fits = found_fits space at right region is in
    let same : region ≡ t.region = one_region space (at / PAGE_BYTES) region t.region in_form fits.0 t.mapped fits.1 t.covers in
    let object_is : region.memory ≡ object = ap (λ r. r.memory) same ∙ sym t.object_is in
    let index_is : index_at region at ≡ index = ap (λ r. index_at r at) same ∙ sym t.index_is in
    let place : ◌≡◌ {A = Option (ℕ × ℕ)} (Some (region.memory, index_at region at)) (Some (object, index)) = cc in place

pub first_place : (space : Space) (at right object index : ℕ) → IsSpace space
    → (translation space.regions.items at right ≡ Some (object, index)) ↔ TranslatesTo space at right object index
first_place space at right object index in_form =
    (translates_to space at right object index _ refl, first_fits space at right object index _ in_form refl)

-- An address translates to one place at most.
pub one_place : (space : Space) (at right object index object' index' : ℕ) → IsSpace space
    → TranslatesTo space at right object index → TranslatesTo space at right object' index' → (object ≡ object') × (index ≡ index')
one_place space at right object index object' index' in_form t u =
    let same : t.region ≡ u.region = one_region space (at / PAGE_BYTES) t.region u.region in_form t.mapped u.mapped t.covers u.covers in
    (t.object_is ∙ ap (λ r. r.memory) same ∙ sym u.object_is, t.index_is ∙ ap (λ r. index_at r at) same ∙ sym u.index_is)
