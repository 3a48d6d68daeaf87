-- Regions: their pages among the addresses, and what they allow.
use Rattle.std.specs.Prelude.{ℕ, ◌+◌, ◌-◌, ◌/◌, ◌<◌, ◌≤◌, ◌&&◌, Bool, nat_lt, nat_le, min, max}
use Rattle.sls_base.specs.declared.limits.TheConstants.{ADDRESS_PAGES, MEMORY_PAGES, OBJECTS, PAGE_BYTES}
use Rattle.sls_base.specs.declared.rights.TheConstants.{REGION_RIGHTS}
use Rattle.sls_base.specs.Rights.{has_rights}
use Rattle.mem_space.specs.declared.region.Region.{Region}

-- The page of addresses is one of the region's, which are `count` from its base on.
abbrev pub HasPage : Region → ℕ → Type 0
HasPage region page = (region.base ≤ page) × (page < region.base + region.count)

-- the same as a test
abbrev pub has_page : ℕ → Region → Bool
has_page page region = nat_le region.base page && nat_lt page (region.base + region.count)

-- The region covers a byte address: it has the page of the address.
abbrev pub Covers : Region → ℕ → Type 0
Covers region at = HasPage region (at / PAGE_BYTES)

-- whether the region has every one of these rights and covers a byte address
abbrev pub covers_with : ℕ → ℕ → Region → Bool
covers_with at right region = has_rights region.rights right && has_page (at / PAGE_BYTES) region

-- the index, in the memory object, of the page at an address that the region covers
abbrev pub index_at : Region → ℕ → ℕ
index_at region at = region.first + (at / PAGE_BYTES - region.base)

-- where the page at an address stands that the region covers: the memory object, and the page's index there
abbrev pub place_in : ℕ → Region → ℕ × ℕ
place_in at region = (region.memory, index_at region at)

-- The region has a page among the `count` from `base` on.
abbrev pub SharesPages : Region → ℕ → ℕ → Type 0
SharesPages region base count = (page : ℕ) × HasPage region page × (base ≤ page) × (page < base + count)

-- the same as a test: the later one of the two begins before the earlier one ends
abbrev pub shares_pages : ℕ → ℕ → Region → Bool
shares_pages base count region = nat_lt (max region.base base) (min (region.base + region.count) (base + count))

-- No page is in both.
abbrev pub IsApart : Region → Region → Type 0
IsApart a b = (page : ℕ) → HasPage a page → HasPage b page → ⊥

-- The region has a page and a right. Its pages end within the addresses and within a memory object, whose number is one
-- that there can be, and it has no right but to read, to write and to execute.
pub record IsRegion (region : Region) : Type 0 where
  pub some_page : 1 ≤ region.count
  pub within_addresses : region.base + region.count ≤ ADDRESS_PAGES
  pub within_memory : region.first + region.count ≤ MEMORY_PAGES
  pub known_memory : region.memory < OBJECTS
  pub some_right : 1 ≤ region.rights
  pub known_rights : region.rights ≤ REGION_RIGHTS
