-- Spaces.
use Rattle.std.proofs.Common.{◌≡◌, ◌⊎◌, ℕ, ◌<◌, ◌≤◌, ◌+◌, ◌∙◌, sym, ap, refl, subst, arith, inl, inr, List, length, get_or, below_more, slice_index}
use Rattle.std.proofs.lemmas.Bool.{cases_lt}
use Rattle.sls_base.specs.declared.limits.TheConstants.{SPACE_REGIONS}
use Rattle.mem_space.specs.declared.region.Region.{Region}
use Rattle.mem_space.specs.declared.space.Space.{Space}
use Rattle.mem_space.specs.Region.{IsRegion}
use Rattle.kobj_codec.specs.declared.obj.Obj.TheVariants as objs
use Rattle.kobj_codec.specs.Objects.{IsSpaceRec}
use Rattle.kobj_codec.specs.Records.{IsRecord}

-- what is read behind the end of a list
abbrev pub no_region : Region
no_region = record { base = 0; count = 0; first = 0; memory = 0; rights = 0 }

-- the first page behind a region
abbrev pub end_of : Region → ℕ
end_of r = r.base + r.count

-- The regions before a place are in form, each behind the one before it, and the last of them ends here.
pub record EndsAt (regions : List Region) (n end : ℕ) : Type 0 where
  pub each : (k : ℕ) (d : Region) → k < n → IsRegion (get_or regions k d)
  pub ordered : (a b : ℕ) (d : Region) → a < b → b < n → end_of (get_or regions a d) ≤ (get_or regions b d).base
  pub before : (k : ℕ) (d : Region) → k < n → end_of (get_or regions k d) ≤ end
  pub last : (end ≡ 0) ⊎ ((k : ℕ) × (k < n) × ((d : Region) → end_of (get_or regions k d) ≡ end))

pub ends_first : (regions : List Region) → EndsAt regions 0 0
ends_first regions = record {
  each = λ k d lt. absurd (omega arith);
  ordered = λ a b d less lt. absurd (omega arith);
  before = λ k d lt. absurd (omega arith);
  last = inl refl;
}

-- one region more
pub ends_more : (regions : List Region) (n end : ℕ) (r : Region) → n < length regions → EndsAt regions n end
    → ((d : Region) → get_or regions n d ≡ r) → IsRegion r → end ≤ r.base → EndsAt regions (n + 1) (end_of r)
ends_more regions n end r inside h here form behind = record {
  each = λ k d lt. below_more (λ i. IsRegion (get_or regions i d)) n (λ i low. h.each i d low) (subst IsRegion (sym (here d)) form) k lt;
  ordered = λ a b d less lt. elim (cases_lt b n) [
    | inl low ↦ h.ordered a b d less low
    | inr high ↦
        let e : b ≡ n = omega arith in
        let first = h.before a d (omega arith) in
        let base : (get_or regions b d).base ≡ r.base = ap (λ i. (get_or regions i d).base) e ∙ ap (λ (x : Region). x.base) (here d) in
        omega (arith, first, base, behind)
  ];
  before = λ k d lt. elim (cases_lt k n) [
    | inl low ↦ let first = h.before k d low in omega (arith, first, behind)
    | inr high ↦
        let e : k ≡ n = omega arith in
        let same : end_of (get_or regions k d) ≡ end_of r = ap (λ i. end_of (get_or regions i d)) e ∙ ap end_of (here d) in
        omega (arith, same)
  ];
  last = inr (n, omega arith, λ d. ap end_of (here d));
}

-- regions that are all read make a space in form
pub space_in_range : (s : Space) (end : ℕ) → length s.regions.items ≤ SPACE_REGIONS → EndsAt s.regions.items (length s.regions.items) end → IsSpaceRec s
space_in_range s end most h = record {
  most = most;
  space = record {
    regions = λ k d lt. h.each k d lt;
    rising = λ a b d less lt. let o = h.ordered a b d less lt in let some = (h.each a d (omega arith)).some_page in omega (arith, o, some);
    apart = λ a b d less lt page in_a in_b. let o = h.ordered a b d less lt in let one = in_a.1 in let two = in_b.0 in absurd (omega (arith, o, one, two));
  };
}

-- a region that begins before the last one ends makes none
pub space_behind : (s : Space) (n end : ℕ) (d : Region) → n < length s.regions.items → EndsAt s.regions.items n end → IsSpaceRec s
    → end ≤ (get_or s.regions.items n d).base
space_behind s n end d inside h i = elim h.last [
  | inl none ↦ omega (arith, none)
  | inr at ↦
      let k = at.0 in
      let r = get_or s.regions.items k d in
      let x = get_or s.regions.items n d in
      let ends = at.2 d in
      let rises = i.space.rising k n d at.1 inside in
      let some = (i.space.regions n d inside).some_page in
      elim (cases_lt x.base end) [
        | inl low ↦ absurd (i.space.apart k n d at.1 inside x.base (omega (arith, rises), omega (arith, low, ends)) (omega arith, omega (arith, some)))
        | inr behind ↦ behind
      ]
]

abbrev pub space_of : List Region → Space
space_of regions = record { regions = record { items = regions } }

-- the regions of a space in range that the words are the record of
abbrev pub RegionsOf : List ℕ → List Region → Type 0
RegionsOf words regions = IsSpaceRec (space_of regions) × IsRecord (slice_index words) (objs.Space (space_of regions))
