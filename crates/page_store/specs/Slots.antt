-- Where a page stands: in its runtime frame, and in its slots.
use Rattle.std.specs.Prelude.{◌≡◌, ◌≢◌, ℕ, ◌+◌, ◌<◌, ◌≤◌, IsTrue}
use Rattle.sls_base.specs.declared.limits.TheConstants.{FRAME_WORDS}
use Rattle.pmem_model.specs.Words.{Word}
use Rattle.sls_base.specs.declared.fixed.TheConstants.{LEADER}
use Rattle.pmem_model.specs.Events.{WordIs, Clean}
use Rattle.pmem_model.specs.Memory.{Memory, is_frame_home}
use Rattle.pmem_layout.specs.Places.{backup_tag_at, runtime_frame, backup_frame, frame_at}
use Rattle.pmem_layout.specs.Fields.{tag_word}
use Rattle.pmem_layout.specs.declared.tag.Tag.TheVariants.{Of}

-- A slot is a frame with a tag, for a page's content of one version. A page has one: its backup frame.
pub data Slot : Type 0 where
  Backup : Slot

abbrev pub slot_frame : ℕ → Slot → ℕ
slot_frame page Backup = backup_frame page

-- where the tag stands
abbrev pub slot_tag_at : ℕ → Slot → ℕ
slot_tag_at page Backup = backup_tag_at page

-- the word of the tag of a version
abbrev pub slot_tag : Slot → ℕ → ℕ
slot_tag Backup v = tag_word (Of v)

-- the word of no tag, or of that of a version before this one; or up to this one
abbrev pub IsBefore : Slot → ℕ → ℕ → Type 0
IsBefore Backup word v = word ≤ v

abbrev pub IsUpTo : Slot → ℕ → ℕ → Type 0
IsUpTo Backup word v = word ≤ v + 1

-- plain words: those that are durable
abbrev pub durable_words : (ℕ → Word) → ℕ → ℕ
durable_words f word = (f word).durable

-- in each word of the memory nothing but the durable value is left, as after a cut
pub record IsAllClean (f : ℕ → Word) : Type 0 where
  pub at : (word : ℕ) → WordIs LEADER Clean (f word) (durable_words f word)

-- among plain words, what stands in the slot is of this version
abbrev pub HasSlot : (ℕ → ℕ) → ℕ → Slot → ℕ → Type 0
HasSlot words page slot v = words (slot_tag_at page slot) ≡ slot_tag slot v

-- no tag of this version stands there, cached or durable
abbrev pub IsUntagged : (ℕ → Word) → ℕ → Slot → ℕ → Type 0
IsUntagged f page slot v =
    ((f (slot_tag_at page slot)).cached ≢ slot_tag slot v) × ((f (slot_tag_at page slot)).durable ≢ slot_tag slot v)

-- a frame has no word whose cached and durable values differ
abbrev pub IsFrameClean : (ℕ → Word) → ℕ → Type 0
IsFrameClean f frame = (j : ℕ) → j < FRAME_WORDS → (f (frame_at frame + j)).cached ≡ (f (frame_at frame + j)).durable

-- the frames of a page are at home
pub record IsPageHome (nvm : Memory) (page : ℕ) : Type 0 where
  pub runtime : IsTrue (is_frame_home nvm (runtime_frame page))
  pub slots : (slot : Slot) → IsTrue (is_frame_home nvm (slot_frame page slot))
