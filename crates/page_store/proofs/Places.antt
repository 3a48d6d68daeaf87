-- Words and lines that an operation names, and whose they are.
use Rattle.std.proofs.Common.{◌≡◌, ◌⊎◌, inl, inr, ℕ, ◌+◌, ◌*◌, ◌%◌, ◌<◌, ◌≤◌, IsTrue, arith, subst}
use Rattle.std.proofs.lemmas.Bool.Decides.{nat_tests}
use Rattle.sls_base.specs.declared.limits.TheConstants.{FRAME_WORDS, PAGES}
use Rattle.pmem_model.specs.Memory.{Memory, AllHome, is_at_home, is_frame_home}
use Rattle.pmem_model.specs.Places.{offset_of, bank_size, bank_of}
use Rattle.pmem_model.specs.PlaceLaws.{home-frame, inside_frame, inside_word, inside_line, table_home, frame_home_of, home_of, all_home_kept}
use Rattle.pmem_layout.specs.Places.{line_at, runtime_frame, backup_frame, frame_at}
use Rattle.pmem_layout.specs.Owners.{owner, Pages}
use Rattle.pmem_model.specs.Words.{Word}
use Rattle.pmem_model.specs.Events.{WordCalm}
use Rattle.page_store.specs.Slots.{Slot, Backup, slot_frame, slot_tag_at, IsPageHome}

-- Which words a page has: those of its runtime frame, and of each slot the frame and the tag.
abbrev pub IsInFrame : ℕ → ℕ → Type 0
IsInFrame frame word = (frame_at frame ≤ word) × (word < frame_at frame + FRAME_WORDS)

abbrev pub IsOfSlot : ℕ → Slot → ℕ → Type 0
IsOfSlot page slot word = IsInFrame (slot_frame page slot) word ⊎ (word ≡ slot_tag_at page slot)

abbrev pub IsOfPage : ℕ → ℕ → Type 0
IsOfPage page word = IsInFrame (runtime_frame page) word ⊎ ((slot : Slot) × IsOfSlot page slot word)

-- nothing was stored but in one page's words
pub record StoresOnlyInPage (page : ℕ) (f g : ℕ → Word) : Type 0 where
  pub at : (word : ℕ) → (IsOfPage page word → ⊥) → WordCalm (f word) (g word)

-- Frames

pub frame_home : (m : Memory) (frame : ℕ) → IsTrue (is_frame_home m frame) → IsTrue (is_at_home m (frame_at frame))
frame_home m frame home =
    let z : 17920 + 512 * frame + 0 ≡ frame_at frame = omega arith in
    subst (λ (at : ℕ). IsTrue (is_at_home m at)) z (rw (home-frame m frame 0 (omega arith)) home)

pub frame_inside : (frame : ℕ) → offset_of (frame_at frame) + FRAME_WORDS ≤ bank_size (bank_of (frame_at frame))
frame_inside frame =
    let z : 17920 + 512 * frame + 0 ≡ frame_at frame = omega arith in
    subst (λ (at : ℕ). offset_of at + FRAME_WORDS ≤ bank_size (bank_of at)) z (inside_frame frame 0 512 (omega arith) (omega arith))

pub frame_line : (frame : ℕ) → frame_at frame % 8 ≡ 0
frame_line frame = omega arith

pub line_begins : (at : ℕ) → line_at at % 8 ≡ 0
line_begins at = omega arith

pub line_least : (at : ℕ) → line_at at ≤ at
line_least at = omega arith

pub ruleset places = (inside_word, inside_line, table_home, line_begins, line_least, frame_home, frame_inside, frame_line)

-- The words of a page are the pages', and no two pages have one.

slot_owner : (page : ℕ) (slot : Slot) (word : ℕ) → page < PAGES → IsOfSlot page slot word → owner word ≡ Pages
unfolding owner
slot_owner page Backup word lt h = elim h [
  | inl frame ↦ let low = frame.0 in let high = frame.1 in grind (arith, nat_tests)
  | inr tag ↦ grind (arith, nat_tests)
]

pub page_owner : (page word : ℕ) → page < PAGES → IsOfPage page word → owner word ≡ Pages
unfolding owner
page_owner page word lt h = elim h [
  | inl runtime ↦ let low = runtime.0 in let high = runtime.1 in grind (arith, nat_tests)
  | inr slots ↦ let (slot, is) = slots in slot_owner page slot word lt is
]

slot_place : (page : ℕ) (slot : Slot) (word : ℕ) → IsOfSlot page slot word
    → ((17920 + 1024 * page ≤ word) × (word < 17920 + 1024 * page + 1024)) ⊎ (word ≡ 672 + page)
slot_place page Backup word h = elim h [
  | inl frame ↦ let low = frame.0 in let high = frame.1 in inl (omega (arith, low), omega (arith, high))
  | inr tag ↦ inr tag
]

-- A word of a page by its place: in its runtime frame, in its backup frame, or its tag.
place_of : (page word : ℕ) → IsOfPage page word
    → ((17920 + 1024 * page ≤ word) × (word < 17920 + 1024 * page + 1024)) ⊎ (word ≡ 672 + page)
place_of page word h = elim h [
  | inl runtime ↦ let low = runtime.0 in let high = runtime.1 in inl (omega (arith, low), omega (arith, high))
  | inr slots ↦ let (slot, is) = slots in slot_place page slot word is
]

pub pages_apart : (a b word : ℕ) → a < PAGES → b < PAGES → IsOfPage a word → IsOfPage b word → a ≡ b
pages_apart a b word la lb ha hb = elim (place_of a word ha) [
  | inl i ↦ let low = i.0 in let high = i.1 in elim (place_of b word hb) [
    | inl j ↦ let lower = j.0 in let higher = j.1 in omega (arith, low, high, lower, higher)
    | inr j ↦ omega (arith, low, high, j, lb)
  ]
  | inr i ↦ elim (place_of b word hb) [
    | inl j ↦ let lower = j.0 in let higher = j.1 in omega (arith, i, lower, higher, la)
    | inr j ↦ omega (arith, i, j)
  ]
]

-- Where all is at home, the frames of each page are.
slot_home : (m : Memory) (page : ℕ) (slot : Slot) → AllHome m → page < PAGES → IsTrue (is_frame_home m (slot_frame page slot))
slot_home m page Backup all lt = frame_home_of m (backup_frame page) all (omega (arith, lt))

pub page_home : (m : Memory) (page : ℕ) → AllHome m → page < PAGES → IsPageHome m page
page_home m page all lt = record {
  runtime = frame_home_of m (runtime_frame page) all (omega (arith, lt));
  slots = λ slot. slot_home m page slot all lt;
}
