-- Entries on the pages of their rings.
use Rattle.std.specs.Prelude.{◌≡◌, ℕ, ◌+◌, ◌-◌, ◌*◌, ◌%◌, ◌<◌, ◌≤◌, List, [], ◌++◌, length, replicate, slice_index, slice_index_or}
use Rattle.std.specs.Int.{w64, to_le_bytes}
use Rattle.sls_base.specs.declared.limits.TheConstants.{ENTRY_BYTES, OUTPUT_CHANNELS, RING_ENTRIES}
use Rattle.pmem_model.specs.Memory.{Memory}
use Rattle.plain_model.specs.Objects.{page_of_channel}
use Rattle.plain_model.specs.Worlds.{World}
use Rattle.call_readings.specs.declared.content.TheConstants.{WORD_BYTES}
use Rattle.call_readings.specs.Content.{number_in, Reads}
use Rattle.page_bytes.specs.Bytes.{with_bytes}
use Rattle.out_gate.specs.declared.entries.TheConstants.{PLACE_BYTES}

-- where the place of an entry begins on a page: entry 64 has the place that entry 0 had
abbrev pub entry_at : ℕ → ℕ
entry_at number = PLACE_BYTES * (number % RING_ENTRIES)

-- A page has an entry of a number in its place: its length of 1 to 56 in a word, its bytes, and zeros behind.
pub record HasEntry (byte : ℕ → ℕ) (number : ℕ) (entry : List ℕ) : Type 0 where
  pub some : 1 ≤ length entry
  pub most : length entry ≤ ENTRY_BYTES
  pub size : number_in byte (entry_at number) WORD_BYTES ≡ length entry
  pub bytes : (k : ℕ) → k < ENTRY_BYTES → byte (entry_at number + WORD_BYTES + k) ≡ slice_index entry k

-- the bytes of a place that has an entry
abbrev pub place_bytes : List ℕ → List ℕ
place_bytes entry = to_le_bytes w64 (length entry) ++ entry ++ replicate (ENTRY_BYTES - length entry) 0

-- the content of pages where a channel's page has been given an entry of a number
abbrev pub with_entry : (ℕ → ℕ → ℕ) → ℕ → ℕ → List ℕ → ℕ → ℕ → ℕ
with_entry content channel number entry =
    with_bytes content (page_of_channel channel) (entry_at number) (place_bytes entry)

-- An entry of a number stands on its channel's page in a memory: by some content that the memory has, it is there.
pub record EntryStands (m : Memory) (channel number : ℕ) (entry : List ℕ) : Type 0 where
  pub content : ℕ → ℕ → ℕ
  pub reads : Reads content m
  pub there : HasEntry (content (page_of_channel channel)) number entry

-- Of each channel the entries that were put, and that a world's device hasn't accepted, stand on the channel's page.
abbrev pub EntriesStand : (ℕ → ℕ → ℕ) → World → (ℕ → List (List ℕ)) → Type 0
EntriesStand content w out = (channel i : ℕ) → channel < OUTPUT_CHANNELS
    → length (w.released channel) ≤ i → i < length (out channel)
    → HasEntry (content (page_of_channel channel)) (w.base channel + i) (slice_index_or (out channel) i [])
