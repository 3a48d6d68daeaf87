-- Where the bytes of pages stand in the persistent memory, and the numbers in them.
use Rattle.std.specs.Prelude.{◌≡◌, ℕ, ◌+◌, ◌/◌, ◌%◌, ◌<◌, ◌≤◌, Bool, true, if◌then◌else◌, List, map, Option, Some, None, slice_index}
use Rattle.std.specs.List.{range_with_len}
use Rattle.std.specs.Int.{w64, to_le_bytes}
use Rattle.sls_base.specs.declared.limits.TheConstants.{PAGE_BYTES, PAGES}
use Rattle.pmem_model.specs.Memory.{Memory, word_at, is_frame_home}
use Rattle.pmem_layout.specs.Places.{frame_at, runtime_frame}
use Rattle.plain_state.specs.declared.objects.Region.{Region}
use Rattle.plain_model.specs.Objects.{Object}
use Rattle.plain_model.specs.Memory.{byte_at, is_covered, number_of_bytes, places_of}
use Rattle.call_readings.specs.declared.content.TheConstants.{WORD_BYTES}

-- a byte of a word, the lowest by 0
abbrev pub byte_of : ℕ → ℕ → ℕ
byte_of word k = slice_index (to_le_bytes w64 word) k

-- the page's runtime frame is at home
abbrev pub is_page_home : Memory → ℕ → Bool
is_page_home m page = is_frame_home m (runtime_frame page)

-- Page numbers stand for the bytes that the cached words of their runtime frames have, where these are at home. Behind
-- its end a page has zeros, and so has each that there isn't.
pub record Reads (content : ℕ → ℕ → ℕ) (m : Memory) : Type 0 where
  pub home : (page offset : ℕ) → page < PAGES → offset < PAGE_BYTES → is_page_home m page ≡ true
      → content page offset
      ≡ byte_of (word_at m (frame_at (runtime_frame page) + offset / WORD_BYTES)).cached (offset % WORD_BYTES)
  pub end : (page offset : ℕ) → PAGE_BYTES ≤ offset → content page offset ≡ 0
  pub none : (page offset : ℕ) → PAGES ≤ page → content page offset ≡ 0

-- the number in so many bytes from an offset on, the lowest first
abbrev pub number_in : (ℕ → ℕ) → ℕ → ℕ → ℕ
number_in byte offset count = number_of_bytes (map byte (range_with_len offset count))

-- what a thread sees from an address on, with a right: the number in so many bytes, if each is there
abbrev pub number_seen : (ℕ → Option Object) → List Region → ℕ → ℕ → ℕ → Option ℕ
number_seen objects regions right at size =
    if is_covered regions right at size
    then Some (number_of_bytes (map (byte_at objects) (places_of regions right at size)))
    else None
