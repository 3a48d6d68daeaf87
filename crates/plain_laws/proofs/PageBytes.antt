-- Bytes of pages: what is read is a byte, and what a thread stores and what it makes are bytes within a page.
use Rattle.std.specs.Prelude.{◌≡◌, ℕ, zero, suc, ◌+◌, ◌/◌, ◌%◌, ◌^◌, ◌<◌, ◌≤◌, ◌==◌, Bool, true, false, if◌then◌else◌, List, [], ◌∷◌, length, map, find, All, Option, Some, None, slice_index, slice_index_or, option_map, is_some}
use Rattle.std.specs.List.{cons_option}
use Rattle.std.proofs.Common.{refl, ap, arith, inl, inr}
use Rattle.std.proofs.lemmas.Bool.{cases_lt, eqb-true}
use Rattle.std.proofs.lemmas.List.{get_or_past}
use Rattle.std.proofs.lemmas.List.Elements.{All-nil, All-cons, All-head, All-tail, All-map, All-set, All-weaker}
use Rattle.sls_base.proofs.ListTests.{and_left, and_right}
use Rattle.sls_base.specs.declared.limits.TheConstants.{PAGE_BYTES}
use Rattle.plain_state.specs.declared.effect.ByteStore.{ByteStore}
use Rattle.plain_state.specs.declared.effect.Place.{Place}
use Rattle.plain_state.specs.declared.objects.Region.{Region}
use Rattle.plain_model.specs.InPages.{IsInPage}
use Rattle.plain_model.specs.Objects.{Object, Page, Memory, pages_of, new_page, new_memory}
use Rattle.plain_model.specs.States.{State}
use Rattle.plain_model.specs.Memory.{covers, place_in, place_of, places_of, is_covered, no_page, byte_at, page_with, memory_with, stores_at, bytes_of_number}
use Rattle.plain_laws.specs.Bounds.{AreBytes, IsEntry, IsPage, HasPages}
use Rattle.plain_laws.proofs.WalkStates.{KeptByStore}

-- Lists of bytes.

abbrev pub IsByte : ℕ → Type 0
IsByte byte = byte < 2 ^ 8

pub byte_in : (bytes : List ℕ) → AreBytes bytes → (i : ℕ) → slice_index bytes i < 2 ^ 8
byte_in bytes h i = elim (cases_lt i (length bytes)) [
  | inl l ↦ h i 0 l
  | inr l ↦ rw (get_or_past bytes i 0 l) (omega arith)
]

pub bytes_of_a_number : (count value : ℕ) → AreBytes (bytes_of_number count value)
bytes_of_a_number zero value = All-nil IsByte
bytes_of_a_number (suc count) value =
    All-cons IsByte (value % 2 ^ 8) (bytes_of_number count (value / 2 ^ 8)) (omega arith) (bytes_of_a_number count (value / 2 ^ 8))

pub first_entry : (inputs : List (List ℕ)) → All IsEntry inputs → AreBytes (slice_index_or inputs 0 [])
first_entry [] h = All-nil IsByte
first_entry (input ∷ inputs) h = (All-head IsEntry input inputs h).bytes

-- Pages.

pub new_is_page : (number : ℕ) → IsPage (new_page number)
new_is_page number = record { bytes = λ offset. omega arith; end = λ offset l. refl }

pub page_in : (pages : List Page) → All IsPage pages → (k : ℕ) → IsPage (slice_index_or pages k no_page)
page_in pages h k = elim (cases_lt k (length pages)) [
  | inl l ↦ h k no_page l
  | inr l ↦ rw (get_or_past pages k no_page l) (new_is_page _)
]

pub read_is_byte : (s : State) (place : Place) → HasPages s → byte_at s.objects place < 2 ^ 8
read_is_byte s place h = (page_in (pages_of (s.objects place.memory)) (h place.memory) place.page).bytes place.offset

pub read_are_bytes : (s : State) (places : List Place) → HasPages s → AreBytes (map (byte_at s.objects) places)
read_are_bytes s places h = All-map IsByte (byte_at s.objects) places (λ k place l. read_is_byte s (slice_index_or places k place) h)

-- Stores.

-- a byte that is stored within a page
pub record IsStored (store : ByteStore) : Type 0 where
  pub in_page : store.place.offset < PAGE_BYTES
  pub byte : store.value < 2 ^ 8

byte_if : (b : Bool) (value byte : ℕ) → value < 2 ^ 8 → byte < 2 ^ 8 → (if b then value else byte) < 2 ^ 8
byte_if true value byte l m = l
byte_if false value byte l m = m

end_if : (offset at value byte : ℕ) (b : Bool) → (offset == at) ≡ b → at < PAGE_BYTES → PAGE_BYTES ≤ offset → byte ≡ 0 → (if b then value else byte) ≡ 0
end_if offset at value byte true e l m none = (let same = eqb-true offset at e in absurd (omega arith))
end_if offset at value byte false e l m none = none

written_page : (page : Page) (store : ByteStore) → IsStored store → IsPage page → IsPage (page_with page store.place.offset store.value)
written_page page store fits h = record {
  bytes = λ offset. byte_if (offset == store.place.offset) store.value (page.byte offset) fits.byte (h.bytes offset);
  end = λ offset l. end_if offset store.place.offset store.value (page.byte offset) (offset == store.place.offset) refl fits.in_page l (h.end offset l);
}

written_pages : (o : Option Object) (store : ByteStore) → IsStored store → All IsPage (pages_of o) → All IsPage (pages_of (memory_with o store.place store.value))
written_pages (Some (Memory pages)) store fits h =
    All-set IsPage pages store.place.page (page_with (slice_index_or pages store.place.page no_page) store.place.offset store.value)
    (written_page (slice_index_or pages store.place.page no_page) store fits (page_in pages h store.place.page)) h
written_pages o store fits h = h

-- something that holds of an object by its pages
abbrev pub OfPages : ℕ → Option Object → Type 0
OfPages i o = All IsPage (pages_of o)

pub pages_kept : (stores : List ByteStore) → All IsStored stores → All (KeptByStore OfPages) stores
pages_kept stores h = All-weaker IsStored (KeptByStore OfPages) (λ store fits i o. written_pages o store fits) stores h

-- Places.

place_if : (address : ℕ) (region : Option Region) (places : List Place) → All IsInPage places → All IsInPage (cons_option (option_map (place_in address) region) places)
place_if address None places h = h
place_if address (Some region) places h = All-cons IsInPage (place_in address region) places (omega arith) h

pub places_in_pages : (regions : List Region) (right at count : ℕ) → All IsInPage (places_of regions right at count)
places_in_pages regions right at zero = All-nil IsInPage
places_in_pages regions right at (suc count) =
    place_if at (find (covers right at) regions) (places_of regions right (at + 1) count) (places_in_pages regions right (at + 1) count)

one_more_place : (place : Option Place) (places : List Place) (n : ℕ) → is_some place ≡ true → length places ≡ n → length (cons_option place places) ≡ suc n
one_more_place None places n e l = absurd (cc)
one_more_place (Some place) places n e l = ap suc l

-- each address that is covered has a place
pub covered_places : (regions : List Region) (right at count : ℕ) → is_covered regions right at count ≡ true → length (places_of regions right at count) ≡ count
covered_places regions right at zero e = refl
covered_places regions right at (suc count) e =
    let rest = is_covered regions right (at + 1) count in
    one_more_place (place_of regions right at) (places_of regions right (at + 1) count) count (and_left (is_some (place_of regions right at)) rest e)
    (covered_places regions right (at + 1) count (and_right (is_some (place_of regions right at)) rest e))

pub stored_in_pages : (places : List Place) (bytes : List ℕ) → All IsInPage places → AreBytes bytes → All IsStored (stores_at places bytes)
stored_in_pages [] bytes h k = All-nil IsStored
stored_in_pages (place ∷ places) [] h k = All-nil IsStored
stored_in_pages (place ∷ places) (byte ∷ bytes) h k =
    All-cons IsStored (record { place = place; value = byte }) (stores_at places bytes)
    (record { in_page = All-head IsInPage place places h; byte = All-head IsByte byte bytes k })
    (stored_in_pages places bytes (All-tail IsInPage place places h) (All-tail IsByte byte bytes k))

-- Objects that are made.

pub new_memory_pages : (numbers : List ℕ) → All IsPage (pages_of (Some (new_memory numbers)))
new_memory_pages numbers = All-map IsPage new_page numbers (λ k number l. new_is_page _)
