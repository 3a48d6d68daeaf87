-- What plain durable words say of pages at a version. This is the format alone: it names no step, and nothing at run
-- time.
use Rattle.std.specs.Prelude.{◌≡◌, ℕ, ◌+◌, ◌<◌, Option, Some, None}
use Rattle.sls_base.specs.declared.limits.TheConstants.{FRAME_WORDS, PAGES}
use Rattle.pmem_layout.specs.Places.{runtime_frame, frame_at}
use Rattle.page_store.specs.Slots.{Slot, slot_frame, HasSlot}

-- The content of a page: its words. There is none where the page is fresh, or isn't in use.

-- these words are the content, where there is one
abbrev pub Is : Option (ℕ → ℕ) → (ℕ → ℕ) → Type 0
Is None words = Unit {0}
Is (Some content) words = (j : ℕ) → j < FRAME_WORDS → words j ≡ content j

-- the words of a frame
abbrev pub frame_of : (ℕ → ℕ) → ℕ → ℕ → ℕ
frame_of words frame j = words (frame_at frame + j)

-- the frame of the slot, or the runtime frame where there is none
abbrev pub content_frame : ℕ → Option ℕ → ℕ
content_frame page None = runtime_frame page
content_frame page (Some frame) = frame

-- The content is in the slot that has the tag of the version. Where no slot has it, it is in the runtime frame.
pub record PageStands (words : ℕ → ℕ) (v page : ℕ) (content : Option (ℕ → ℕ)) : Type 0 where
  pub slot : (slot : Slot) → HasSlot words page slot v → Is content (frame_of words (slot_frame page slot))
  pub runtime : ((slot : Slot) → HasSlot words page slot v → ⊥) → Is content (frame_of words (runtime_frame page))

pub record PagesStand (words : ℕ → ℕ) (v : ℕ) (pages : ℕ → Option (ℕ → ℕ)) : Type 0 where
  pub each : (page : ℕ) → page < PAGES → PageStands words v page (pages page)
