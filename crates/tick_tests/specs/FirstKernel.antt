-- What a kernel is begun with.
use Rattle.std.specs.Prelude.{◌≡◌, ◌≢◌, ℕ, ◌+◌, ◌/◌, ◌%◌, ◌<◌, ◌≤◌, ◌&&◌, nat_lt, if◌then◌else◌, [], slice_index}
use Rattle.sls_base.specs.declared.limits.TheConstants.{OUTPUT_CHANNELS, PAGE_BYTES, PAGES}
use Rattle.sls_base.specs.declared.image.Image.{Image}
use Rattle.pmem_model.specs.Memory.{Memory, word_at}
use Rattle.pmem_layout.specs.Places.{frame_at, runtime_frame}
use Rattle.kobj_table.specs.declared.slot.Slot.{Slot}
use Rattle.kobj_table.specs.declared.slot.Slot.TheVariants as slots
use Rattle.call_readings.specs.declared.content.TheConstants.{WORD_BYTES}
use Rattle.call_readings.specs.Content.{byte_of, Reads}
use Rattle.first_state.specs.Content.{content_on}

-- the bytes that the cached words of the runtime frames have
abbrev pub content_of : Memory → ℕ → ℕ → ℕ
content_of m page offset =
    if nat_lt page PAGES && nat_lt offset PAGE_BYTES
    then byte_of (word_at m (frame_at (runtime_frame page) + offset / WORD_BYTES)).cached (offset % WORD_BYTES)
    else 0

-- What of an image stands on a page has come into the memory, with zeros behind it.
abbrev pub StandsOn : Image → Memory → ℕ → Type 0
StandsOn image m page = (content : ℕ → ℕ → ℕ) → Reads content m → (offset : ℕ)
    → content_on image page ≢ [] → content page offset ≡ slice_index (content_on image page) offset

abbrev pub StandsBelow : Image → Memory → ℕ → Type 0
StandsBelow image m end = (page : ℕ) → page < end → StandsOn image m page

-- a ring is of a channel that there is, and counts no entry
abbrev pub CountsNone : Slot → Type 0
CountsNone (slots.Ring ring) = (ring.channel ≤ OUTPUT_CHANNELS) × (ring.count ≡ 0)
CountsNone slot = Unit {0}
