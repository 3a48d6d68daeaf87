-- Spaces: their regions, and what an address translates to.
use Rattle.std.specs.Prelude.{◌≡◌, ℕ, ◌<◌, ◌==◌, not, if◌then◌else◌, List, [], ◌∷◌, ◌++◌, All, AllPairs, Any, Contains, Option, filter, find, nat_lt}
use Rattle.std.specs.Option.{option_map}
use Rattle.sls_base.specs.Rights.{HasRights}
use Rattle.mem_space.specs.declared.region.Region.{Region}
use Rattle.mem_space.specs.declared.space.Space.{Space}
use Rattle.mem_space.specs.Region.{IsRegion, IsApart, Covers, SharesPages, covers_with, index_at, place_in}

-- Each region is in form, they stand by rising base, and no two have a page in common.
pub record IsSpace (space : Space) : Type 0 where
  pub regions : All IsRegion space.regions.items
  pub rising : AllPairs (λ a b. a.base < b.base) space.regions.items
  pub apart : AllPairs IsApart space.regions.items

-- Some region has a page among the `count` from `base` on.
abbrev pub Overlaps : Space → ℕ → ℕ → Type 0
Overlaps space base count = Any (λ region. SharesPages region base count) space.regions.items

-- A region of the space covers the address and has the right, and this is its memory object and the page's index there.
pub record TranslatesTo (space : Space) (at right object index : ℕ) : Type 0 where
  pub region : Region
  pub mapped : Contains space.regions.items region
  pub covers : Covers region at
  pub allows : HasRights region.rights right
  pub object_is : object ≡ region.memory
  pub index_is : index ≡ index_at region at

-- where the page at an address stands, in the first region that covers it with these rights
abbrev pub translation : List Region → ℕ → ℕ → Option (ℕ × ℕ)
translation regions at right = option_map (place_in at) (find (covers_with at right) regions)

-- the regions with one more: those that begin below it, then it, then those that begin above it
abbrev pub with_region : List Region → Region → List Region
with_region regions region =
    filter (λ other. nat_lt other.base region.base) regions
    ++ region ∷ filter (λ other. nat_lt region.base other.base) regions

-- the regions with one more, before the first that begins above it
abbrev pub inserted : Region → List Region → List Region
inserted region [] = region ∷ []
inserted region (r ∷ regions) =
    if nat_lt region.base r.base then region ∷ r ∷ regions else r ∷ inserted region regions

-- the regions but for those that begin at this page
abbrev pub without_base : List Region → ℕ → List Region
without_base regions base = filter (λ region. not (region.base == base)) regions
