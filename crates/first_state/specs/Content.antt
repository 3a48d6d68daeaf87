-- What of an image's content stands on which page.
use Rattle.std.specs.Prelude.{◌≡◌, ◌≢◌, ℕ, ◌+◌, ◌*◌, ◌<◌, List, [], ◌++◌, length, map, take, drop, replicate, slice_index, slice_index_or}
use Rattle.std.specs.List.{flat_map, range_with_len}
use Rattle.sls_base.specs.declared.limits.TheConstants.{PAGE_BYTES}
use Rattle.sls_base.specs.declared.fixed.TheConstants.{FIRST_PROGRAM_PAGE}
use Rattle.sls_base.specs.declared.image.Image.{Image}
use Rattle.sls_base.specs.declared.image.Program.{Program}
use Rattle.sls_base.specs.declared.image.RegionSpec.{RegionSpec}

-- what stands on page j of a region
abbrev pub part_of : List ℕ → ℕ → List ℕ
part_of content j = take PAGE_BYTES (drop (PAGE_BYTES * j) content)

-- what stands on each page of a region, and of a program, in order of number
abbrev pub region_parts : RegionSpec → List (List ℕ)
region_parts spec = map (part_of spec.content.items) (range_with_len 0 spec.pages)

abbrev pub program_parts : Program → List (List ℕ)
program_parts p = flat_map region_parts p.regions.items

-- of the whole image, by number of page: nothing stands on the pages of output rings, which come first
unfoldable pub image_parts : List Program → List (List ℕ)
image_parts ps = replicate FIRST_PROGRAM_PAGE [] ++ flat_map program_parts ps

-- the bytes of the image that stand on a page; none on one that it doesn't have
abbrev pub content_on : Image → ℕ → List ℕ
content_on image page = slice_index_or (image_parts image.programs.items) page []

-- Page numbers stand for these parts, with zeros behind each. Of a page on which nothing stands nothing is said: it is
-- fresh.
abbrev pub HoldsParts : (ℕ → ℕ → ℕ) → List (List ℕ) → Type 0
HoldsParts content parts =
    (page offset : ℕ) → slice_index_or parts page [] ≢ []
    → content page offset ≡ slice_index (slice_index_or parts page []) offset

-- they stand for the bytes of the image
abbrev pub HoldsImage : (ℕ → ℕ → ℕ) → Image → Type 0
HoldsImage content image = HoldsParts content (image_parts image.programs.items)

-- some of these parts begin at page k
abbrev pub HasPartsAt : List (List ℕ) → ℕ → List (List ℕ) → Type 0
HasPartsAt parts k some = (j : ℕ) → j < length some → slice_index_or parts (k + j) [] ≡ slice_index_or some j []
