-- The memory that a thread sees: bytes by address, through the regions of its space, with rights.
use Rattle.std.specs.Prelude.{ℕ, zero, suc, ◌+◌, ◌-◌, ◌*◌, ◌/◌, ◌%◌, ◌^◌, ◌==◌, ◌&&◌, nat_lt, nat_le, Bool, List, [], ◌∷◌, find, filter_map, Option, Some, option_map, is_some, if◌then◌else◌, slice_index_or, slice_set}
use Rattle.std.specs.List.{range_with_len, list_all}
use Rattle.sls_base.specs.declared.limits.TheConstants.{PAGE_BYTES, PAGES}
use Rattle.plain_state.specs.declared.objects.Region.{Region}
use Rattle.plain_state.specs.declared.effect.Place.{Place}
use Rattle.plain_state.specs.declared.effect.ByteStore.{ByteStore}
use Rattle.plain_state.specs.Objects.{Object, Memory, Page, pages_of, new_page, includes}

-- a region covers an address with a right
abbrev pub covers : ℕ → ℕ → Region → Bool
covers right address region =
    includes region.rights right
    && (nat_le region.base (address / PAGE_BYTES) && nat_lt (address / PAGE_BYTES) (region.base + region.count))

-- where the byte at an address stands that a region covers
abbrev pub place_in : ℕ → Region → Place
place_in address region = record {
  memory = region.memory;
  page = region.first + (address / PAGE_BYTES - region.base);
  offset = address % PAGE_BYTES;
}

-- where the byte at an address stands, for a right: in the region that covers the address with it, if there is one
abbrev pub place_of : List Region → ℕ → ℕ → Option Place
place_of regions right address = option_map (place_in address) (find (covers right address) regions)

-- each of so many bytes from an address on has a place. From 2^32 on none has, since a region ends there at the latest.
abbrev pub is_covered : List Region → ℕ → ℕ → ℕ → Bool
is_covered regions right at count =
    list_all (λ address. is_some (place_of regions right address)) (range_with_len at count)

-- the places of so many bytes from an address on
abbrev pub places_of : List Region → ℕ → ℕ → ℕ → List Place
places_of regions right at count = filter_map (place_of regions right) (range_with_len at count)

-- what is read where no page is: it is zero, and its number is no page's
abbrev pub no_page : Page
no_page = new_page PAGES

-- the page of a place, and its byte there
abbrev pub page_at : (ℕ → Option Object) → Place → Page
page_at objects place = slice_index_or (pages_of (objects place.memory)) place.page no_page

abbrev pub byte_at : (ℕ → Option Object) → Place → ℕ
byte_at objects place = (page_at objects place).byte place.offset

-- Stores.

abbrev pub page_with : Page → ℕ → ℕ → Page
page_with page at value =
    record { number = page.number; byte = λ offset. if offset == at then value else page.byte offset }

abbrev pub memory_with : Option Object → Place → ℕ → Option Object
memory_with (Some (Memory pages)) place value =
    Some (Memory (slice_set pages place.page (page_with (slice_index_or pages place.page no_page) place.offset value)))
memory_with other place value = other

-- the objects after a byte was stored
abbrev pub with_store : (ℕ → Option Object) → ByteStore → ℕ → Option Object
with_store objects store i =
    if i == store.place.memory then memory_with (objects i) store.place store.value else objects i

-- the objects after bytes were stored, one after another
abbrev pub with_stores : (ℕ → Option Object) → List ByteStore → ℕ → Option Object
with_stores objects [] = objects
with_stores objects (store ∷ stores) = with_stores (with_store objects store) stores

-- bytes for places, as many as there are of both
abbrev pub stores_at : List Place → List ℕ → List ByteStore
stores_at (place ∷ places) (value ∷ values) = record { place = place; value = value } ∷ stores_at places values
stores_at _ _ = []

-- Numbers in bytes, the lowest first.

abbrev pub number_of_bytes : List ℕ → ℕ
number_of_bytes [] = 0
number_of_bytes (byte ∷ bytes) = byte + 2 ^ 8 * number_of_bytes bytes

abbrev pub bytes_of_number : ℕ → ℕ → List ℕ
bytes_of_number zero value = []
bytes_of_number (suc count) value = value % 2 ^ 8 ∷ bytes_of_number count (value / 2 ^ 8)
