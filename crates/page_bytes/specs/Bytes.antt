-- Bytes that stand on a page in place of others.
use Rattle.std.specs.Prelude.{◌≡◌, ℕ, ◌+◌, ◌-◌, ◌/◌, ◌==◌, false, if◌then◌else◌, Contains, List, length, map, Option, Some, None, option_map, slice_get, slice_index}
use Rattle.pmem_model.specs.Words.{is_within, bursts}
use Rattle.pmem_model.specs.Memory.{Memory, word_at, SameHomes, count_up}
use Rattle.pmem_layout.specs.Places.{frame_at, runtime_frame}
use Rattle.mem_space.specs.declared.memory.MemPage.{MemPage}
use Rattle.plain_state.specs.declared.effect.Place.{Place}
use Rattle.plain_state.specs.declared.objects.Region.{Region}
use Rattle.plain_model.specs.Objects.{Object, regions_of}
use Rattle.plain_model.specs.Memory.{byte_at, is_covered, page_at, place_of, places_of}
use Rattle.kobj_table.specs.declared.objects.Objects.{Objects}
use Rattle.kobj_table.specs.Slots.{memory_in, page_of}
use Rattle.kobj_table.specs.Objects.{slot_at, object_at}
use Rattle.call_readings.specs.declared.content.TheConstants.{WORD_BYTES}

-- a page with these bytes from an offset on, and all else as before
abbrev pub overwritten : (ℕ → ℕ) → ℕ → List ℕ → ℕ → ℕ
overwritten byte at bytes offset =
    if is_within at (length bytes) offset then slice_index bytes (offset - at) else byte offset

-- the content of pages where a page has these bytes from an offset on
abbrev pub with_bytes : (ℕ → ℕ → ℕ) → ℕ → ℕ → List ℕ → ℕ → ℕ → ℕ
with_bytes content page at bytes number =
    if number == page then overwritten (content number) at bytes else content number

-- a word of a page's runtime frame
abbrev pub word_of_page : ℕ → ℕ → ℕ
word_of_page page word = frame_at (runtime_frame page) + word

-- how many words have a byte of so many from an offset on
abbrev pub words_of : ℕ → ℕ → ℕ
words_of at count = (at + count - 1) / WORD_BYTES + 1 - at / WORD_BYTES

-- One burst stored so many words of a page's runtime frame, from one of them on. All others are as they were, the same
-- frames are at home, and it was one operation.
pub record StoresWords (page first count : ℕ) (old new : Memory) : Type 0 where
  pub words : (at : ℕ) → word_at new at
      ≡ bursts (word_of_page page first) count (λ k. (word_at new (word_of_page page first + k)).cached)
      (word_at old) at
  pub homes : SameHomes old new
  pub counts : new ≡ record old { banks = new.banks; ops = count_up old.ops }

-- a page stands at a place, and something was stored to it before
pub record IsStoredAt (objects : Objects) (place : Place) (page : MemPage) : Type 0 where
  pub there : slice_get (memory_in (slot_at objects place.memory)).pages.items place.page ≡ Some page
  pub stored : page.fresh ≡ false

-- what a thread sees from an address on, with a right: so many bytes, if each is there
abbrev pub bytes_seen : (ℕ → Option Object) → List Region → ℕ → ℕ → ℕ → Option (List ℕ)
bytes_seen objects regions right at count =
    if is_covered regions right at count then Some (map (byte_at objects) (places_of regions right at count)) else None

-- Whatever the content of pages is, a space has a page at an address, with a right.
abbrev pub SeesPage : Objects → ℕ → ℕ → ℕ → MemPage → Type 0
SeesPage objects space right at page = (content : ℕ → ℕ → ℕ) → Some (page_of content page)
    ≡ option_map (page_at (object_at content objects))
    (place_of (regions_of (object_at content objects space)) right at)

-- Of the pages that memory objects have, all that aren't fresh have the same content by both.
abbrev pub IsSameOnPages : Objects → (ℕ → ℕ → ℕ) → (ℕ → ℕ → ℕ) → Type 0
IsSameOnPages objects first second = (i : ℕ) (page : MemPage) (offset : ℕ)
    → Contains (memory_in (slot_at objects i)).pages.items page → page.fresh ≡ false
    → first page.page offset ≡ second page.page offset
