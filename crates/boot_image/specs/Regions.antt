-- The rules of regions.
use Rattle.std.specs.Prelude.{ℕ, zero, suc, ◌+◌, ◌-◌, ◌*◌, ◌%◌, ◌^◌, nat_le, ◌==◌, Bool, ◌&&◌, ◌||◌, List, [], ◌∷◌}
use Rattle.std.specs.Prelude.{◌++◌, length, take, drop, Option, None}
use Rattle.std.specs.List.{list_all}
use Rattle.sls_base.specs.declared.limits.TheConstants.{PAGE_BYTES, MEMORY_PAGES, PAGES}
use Rattle.sls_base.specs.declared.rights.TheConstants.{REGION_RIGHTS}
use Rattle.boot_image.specs.declared.fault.ImageCause.TheVariants.{Length, Count, Region}
use Rattle.boot_image.specs.declared.format.TheConstants.{REGION_HEADER_BYTES}
use Rattle.boot_image.specs.Spelling.{padded}
use Rattle.boot_image.specs.Values.{RegionValue, word_at, region_at, region_size}
use Rattle.boot_image.specs.Rules.{Fault, unless, first, field}

-- Each field, in bytes that begin with a region and stand at a place of the file, behind pages of the image.

-- a region begins at a page
unfoldable pub base_fault : ℕ → List ℕ → Option Fault
base_fault at bytes = field at 0 bytes (unless (word_at 0 bytes % PAGE_BYTES == 0) Region at ∷ [])

-- it has 1 to 64 pages, all below 2 ^ 32, and an image has at most 512
unfoldable pub pages_fault : ℕ → ℕ → List ℕ → Option Fault
pages_fault at pages bytes = field at 4 bytes (
    unless (nat_le 1 (word_at 4 bytes) && nat_le (word_at 4 bytes) MEMORY_PAGES) Region (at + 4)
    ∷ unless (nat_le (word_at 0 bytes + PAGE_BYTES * word_at 4 bytes) (2 ^ 32)) Region (at + 4)
    ∷ unless (nat_le (pages + word_at 4 bytes) PAGES) Count (at + 4) ∷ [])

-- it has some rights
unfoldable pub rights_fault : ℕ → List ℕ → Option Fault
rights_fault at bytes =
    field at 8 bytes (
    unless (nat_le 1 (word_at 8 bytes) && nat_le (word_at 8 bytes) REGION_RIGHTS) Region (at + 8) ∷ [])

-- its content fits its pages
unfoldable pub length_fault : ℕ → List ℕ → Option Fault
length_fault at bytes =
    field at 12 bytes (unless (nat_le (word_at 12 bytes) (PAGE_BYTES * word_at 4 bytes)) Region (at + 12) ∷ [])

-- pages from an address on have no address in common with a region
abbrev pub is_apart_from : ℕ → ℕ → RegionValue → Bool
is_apart_from base pages r =
    nat_le (base + PAGE_BYTES * pages) r.base || nat_le (r.base + PAGE_BYTES * r.pages) base

-- it meets no earlier region of its program
abbrev pub overlap_fault : ℕ → List RegionValue → List ℕ → Option Fault
overlap_fault at earlier bytes = unless (list_all (is_apart_from (word_at 0 bytes) (word_at 4 bytes)) earlier) Region at

-- each byte is zero
abbrev pub are_zero : List ℕ → Bool
are_zero bytes = list_all (λ byte. byte == 0) bytes

-- the bytes behind content of this length, up to a multiple of 4
abbrev pub padding_at : ℕ → List ℕ → List ℕ
padding_at n bytes = take (padded n - n) (drop n (drop REGION_HEADER_BYTES bytes))

-- its content is whole, and zeros follow it
unfoldable pub content_fault : ℕ → List ℕ → Option Fault
content_fault at bytes = first (
    unless (nat_le (region_size bytes) (length bytes)) Length (at + REGION_HEADER_BYTES)
    ∷ unless (are_zero (padding_at (word_at 12 bytes) bytes)) Length (at + REGION_HEADER_BYTES) ∷ [])

-- the rules of a region behind others of its program
unfoldable pub region_fault : ℕ → List RegionValue → ℕ → List ℕ → Option Fault
region_fault at earlier pages bytes = first (
    base_fault at bytes
    ∷ pages_fault at pages bytes
    ∷ rights_fault at bytes
    ∷ length_fault at bytes
    ∷ overlap_fault at earlier bytes
    ∷ content_fault at bytes ∷ [])

-- the rules of n more regions
unfoldable pub regions_fault : ℕ → ℕ → List RegionValue → ℕ → List ℕ → Option Fault
regions_fault zero at earlier pages bytes = None
regions_fault (suc n) at earlier pages bytes = first (
    region_fault at earlier pages bytes
    ∷ regions_fault n (at + region_size bytes) (earlier ++ region_at bytes ∷ []) (pages + (region_at bytes).pages)
    (drop (region_size bytes) bytes) ∷ [])
