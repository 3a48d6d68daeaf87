-- Regions over specs that have no address in common.
use Rattle.std.proofs.Common.{◌≡◌, ℕ, ◌+◌, ◌*◌, ◌/◌, ◌<◌, ◌≤◌, Bool, true, false, List, [], ◌∷◌, length, map, get_or, Some, refl, ap, sym, ◌∙◌, subst, arith, ⊎_elim}
use Rattle.std.specs.Prelude.{◌↔◌, ◌⊎◌, if◌then◌else◌, nat_lt, slice_get}
use Rattle.std.specs.List.{All, AllPairs, Any, Contains}
use Rattle.std.proofs.lemmas.List.Elements.{Contains-get_or}
use Rattle.std.proofs.lemmas.Option.{slice_get_within, slice_get-get_or, get_or_from_slice_get}
use Rattle.sls_base.specs.declared.limits.TheConstants.{PAGE_BYTES}
use Rattle.sls_base.specs.declared.image.RegionSpec.{RegionSpec}
use Rattle.mem_space.specs.declared.region.Region.{Region}
use Rattle.mem_space.specs.Region.{SharesPages}
use Rattle.mem_space.specs.Space as spaces
use Rattle.plain_state.specs.declared.objects.Region.{Region as PlainRegion}
use Rattle.plain_model.specs.Objects as objects
use Rattle.plain_model.specs.Initial as plain
use Rattle.kobj_table.specs.Slots.{region_of}

-- The region is that of a spec from number i on.
pub record IsFromBehind (specs : List RegionSpec) (i : ℕ) (r : Region) : Type 0 where
  pub at : ℕ
  pub spec : RegionSpec
  pub from : i ≤ at
  pub is : slice_get specs at ≡ Some spec
  pub base : r.base ≡ spec.base / PAGE_BYTES
  pub count : r.count ≡ spec.pages

pub from_spec : (specs : List RegionSpec) (i n : ℕ) (spec : RegionSpec) (r : Region) → i < length specs → spec ≡ get_or specs i spec → region_of r ≡ plain.region_over spec n → IsFromBehind specs i r
from_spec specs i n spec r inside is over = record {
  at = i;
  spec = spec;
  from = omega arith;
  is = slice_get-get_or specs i spec inside ∙ ap (λ (s : RegionSpec). Some s) (sym is);
  base = ap (λ (p : PlainRegion). p.base) over;
  count = ap (λ (p : PlainRegion). p.count) over;
}

from_before : (specs : List RegionSpec) (i j : ℕ) (r : Region) → j ≤ i → IsFromBehind specs i r → IsFromBehind specs j r
from_before specs i j r le h = record { at = h.at; spec = h.spec; from = (let from = h.from in omega arith); is = h.is; base = h.base; count = h.count }

-- Two specs have no address in common, so their regions have no page in common.

apart_at : (specs : List RegionSpec) (i j : ℕ) (a b : RegionSpec) → AllPairs plain.IsApart specs → i < j → slice_get specs i ≡ Some a → slice_get specs j ≡ Some b → plain.IsApart a b
apart_at specs i j a b apart lt at_i at_j =
    let one = get_or_from_slice_get specs i a a at_i in
    let other = get_or_from_slice_get specs j b a at_j in
    subst (λ (s : RegionSpec). plain.IsApart a s) other (subst (λ (s : RegionSpec). plain.IsApart s (get_or specs j a)) one (apart i j a lt (slice_get_within specs j b at_j)))

region_at : (specs : List RegionSpec) (i : ℕ) (spec : RegionSpec) → All plain.IsRegion specs → slice_get specs i ≡ Some spec → plain.IsRegion spec
region_at specs i spec each at = subst plain.IsRegion (get_or_from_slice_get specs i spec spec at) (each i spec (slice_get_within specs i spec at))

no_common_page : (a b : RegionSpec) (page : ℕ) → plain.IsRegion a → plain.IsRegion b → plain.IsApart a b → a.base / PAGE_BYTES ≤ page → page < a.base / PAGE_BYTES + a.pages →
    b.base / PAGE_BYTES ≤ page → page < b.base / PAGE_BYTES + b.pages → ⊥
no_common_page a b page ra rb apart from_a to_a from_b to_b =
    let even_a = ra.base in
    let even_b = rb.base in
    ⊎_elim (λ (before : a.base + PAGE_BYTES * a.pages ≤ b.base). absurd (omega arith)) (λ (behind : b.base + PAGE_BYTES * b.pages ≤ a.base). absurd (omega arith)) apart

pub no_overlap : (specs : List RegionSpec) (i n : ℕ) (spec : RegionSpec) (r : Region) (regions : List Region) → All plain.IsRegion specs → AllPairs plain.IsApart specs → i < length specs → spec ≡ get_or specs i spec →
    region_of r ≡ plain.region_over spec n → All (IsFromBehind specs (i + 1)) regions → Any (λ region. SharesPages region r.base r.count) regions → ⊥
no_overlap specs i n spec r regions each apart inside same over others shared =
    let k = shared.0 in
    let other : Region = shared.1 in
    let theirs : IsFromBehind specs (i + 1) other = subst (IsFromBehind specs (i + 1)) shared.3 (others k other shared.2) in
    let pages = shared.4 in
    let from = theirs.from in
    let at : slice_get specs i ≡ Some spec = slice_get-get_or specs i spec inside ∙ ap (λ (s : RegionSpec). Some s) (sym same) in
    let base : r.base ≡ spec.base / PAGE_BYTES = ap (λ (p : PlainRegion). p.base) over in
    let count : r.count ≡ spec.pages = ap (λ (p : PlainRegion). p.count) over in
    let base' = theirs.base in
    let count' = theirs.count in
    no_common_page spec theirs.spec pages.0 (region_at specs i spec each at) (region_at specs theirs.at theirs.spec each theirs.is) (apart_at specs i theirs.at spec theirs.spec apart (omega arith) at theirs.is)
    (omega (arith, pages.2)) (omega (arith, pages.3)) (omega (arith, pages.1.0)) (omega (arith, pages.1.1))

-- One region more.

inserted_by : (r x : Region) (regions : List Region) (b : Bool) → nat_lt r.base x.base ≡ b → map region_of (spaces.inserted r regions) ≡ objects.inserted (region_of r) (map region_of regions) →
    map region_of (if b then r ∷ x ∷ regions else x ∷ spaces.inserted r regions) ≡ (if b then region_of r ∷ region_of x ∷ map region_of regions else region_of x ∷ objects.inserted (region_of r) (map region_of regions))
inserted_by r x regions true e rest = refl
inserted_by r x regions false e rest = ap (λ (l : List PlainRegion). region_of x ∷ l) rest

-- a region comes to the same place among the plain ones
inserted_map : (r : Region) (regions : List Region) → map region_of (spaces.inserted r regions) ≡ objects.inserted (region_of r) (map region_of regions)
inserted_map r [] = refl
inserted_map r (x ∷ regions) = inserted_by r x regions (nat_lt r.base x.base) refl (inserted_map r regions)

pub regions_more : (specs rest : List RegionSpec) (spec : RegionSpec) (n : ℕ) (r : Region) (old new : List Region) → specs ≡ spec ∷ rest → region_of r ≡ plain.region_over spec n →
    map region_of old ≡ plain.program_regions rest (n + 1) → new ≡ spaces.inserted r old → map region_of new ≡ plain.program_regions specs n
regions_more specs rest spec n r old new first over was now =
    ap (map region_of) now ∙ (inserted_map r old
    ∙ (ap (λ (p : PlainRegion). objects.inserted p (map region_of old)) over
    ∙ (ap (objects.inserted (plain.region_over spec n)) was ∙ ap (λ (l : List RegionSpec). plain.program_regions l n) (sym first))))

pub from_more : (specs : List RegionSpec) (i : ℕ) (r : Region) (old new : List Region) → ((other : Region) → Contains new other ↔ (Contains old other ⊎ (other ≡ r))) → IsFromBehind specs i r →
    All (IsFromBehind specs (i + 1)) old → All (IsFromBehind specs i) new
from_more specs i r old new members own before = λ k d inside.
    let other = get_or new k d in
    ⊎_elim
    (λ (there : Contains old other). from_before specs (i + 1) i other (omega arith)
    (subst (IsFromBehind specs (i + 1)) there.2 (before there.0 other there.1)))
    (λ (is : other ≡ r). subst (IsFromBehind specs i) (sym is) own)
    ((members other).0 (Contains-get_or new k d inside))

count_by_place : (r x : Region) (regions : List Region) (b : Bool) → length (spaces.inserted r regions) ≡ length regions + 1 → length (if b then r ∷ x ∷ regions else x ∷ spaces.inserted r regions) ≡ length (x ∷ regions) + 1
count_by_place r x regions true rest = omega arith
count_by_place r x regions false rest = omega arith

inserted_count : (r : Region) (regions : List Region) → length (spaces.inserted r regions) ≡ length regions + 1
inserted_count r [] = refl
inserted_count r (x ∷ regions) = count_by_place r x regions (nat_lt r.base x.base) (inserted_count r regions)

pub more_by_one : (r : Region) (old new : List Region) → new ≡ spaces.inserted r old → length new ≡ length old + 1
more_by_one r old new now = ap length now ∙ inserted_count r old
