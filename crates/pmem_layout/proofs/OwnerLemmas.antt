-- Whose the places are, and which places an owner has.
use Rattle.std.proofs.Common.{◌≡◌, ◌⊎◌, ℕ, ◌+◌, ◌-◌, ◌*◌, ◌/◌, ◌%◌, ◌<◌, ◌≤◌, inl, inr, arith}
use Rattle.std.proofs.lemmas.Bool.Decides.{nat_tests}
use Rattle.std.proofs.lemmas.Bool.{cases_lt}
use Rattle.sls_base.specs.declared.limits.TheConstants.{OBJECTS, PAGES, TABLE_WORDS, FRAME_WORDS, VERSION_AT}
use Rattle.pmem_layout.specs.declared.places.TheConstants.{FORMAT_AT, CORES_AT, LOG_HEAD_AT, OBJECT_BASE_AT, PAGE_BASE_END, LOG_ENTRIES_AT, BACKUP_TAGS_AT, HOT_WORDS_AT, OBJECT_TAGS_AT, OBJECT_TAGS_END, OBJECT_SLOTS_AT, SLOTS, SLOT_WORDS, SPARES, NUMBERS}
use Rattle.pmem_layout.specs.Places.{log_entry_at, backup_tag_at, hot_word_at, object_tag_at, object_slot_at, frame_at, IsUnused}
use Rattle.pmem_layout.specs.Numbers.{base_at}
use Rattle.pmem_layout.specs.Owners.{Format, Fixed, Version, Numbers, Objects, Pages, owner}

pub owner_format : owner FORMAT_AT ≡ Format
unfolding owner
owner_format = grind (arith, nat_tests)

pub owner_version : owner VERSION_AT ≡ Version
unfolding owner
owner_version = grind (arith, nat_tests)

pub owner_cores : owner CORES_AT ≡ Fixed
unfolding owner
owner_cores = grind (arith, nat_tests)

pub owner_unused : (word : ℕ) → IsUnused word → owner word ≡ Fixed
unfolding owner
owner_unused word h = grind (arith, nat_tests)

pub owner_log_head : owner LOG_HEAD_AT ≡ Numbers
unfolding owner
owner_log_head = grind (arith, nat_tests)

pub owner_base : (index : ℕ) → index < NUMBERS → owner (base_at index) ≡ Numbers
unfolding owner
owner_base index h = grind (arith, nat_tests)

pub owner_log_entry : (entry : ℕ) → entry < NUMBERS → owner (log_entry_at entry) ≡ Numbers
unfolding owner
owner_log_entry entry h = grind (arith, nat_tests)

pub owner_backup_tag : (page : ℕ) → page < PAGES → owner (backup_tag_at page) ≡ Pages
unfolding owner
owner_backup_tag page h = grind (arith, nat_tests)

pub owner_hot_word : (spare : ℕ) → spare < SPARES → owner (hot_word_at spare) ≡ Pages
unfolding owner
owner_hot_word spare h = grind (arith, nat_tests)

pub owner_object_tag : (id slot : ℕ) → id < OBJECTS → slot < SLOTS → owner (object_tag_at id slot) ≡ Objects
unfolding owner
owner_object_tag id slot h l = grind (arith, nat_tests)

pub owner_object_slot : (id slot j : ℕ) → id < OBJECTS → slot < SLOTS → j < SLOT_WORDS
    → owner (object_slot_at id slot + j) ≡ Objects
unfolding owner
owner_object_slot id slot j h l k = grind (arith, nat_tests)

pub owner_frame : (frame j : ℕ) → owner (frame_at frame + j) ≡ Pages
unfolding owner
owner_frame frame j = grind (arith, nat_tests)

-- Where an owner's words stand.

pub format_place : (word : ℕ) → owner word ≡ Format → word ≡ FORMAT_AT
unfolding owner
format_place word h = grind (arith, nat_tests)

pub version_place : (word : ℕ) → owner word ≡ Version → word ≡ VERSION_AT
unfolding owner
version_place word h = grind (arith, nat_tests)

pub fixed_places : (word : ℕ) → owner word ≡ Fixed → (word ≡ CORES_AT) ⊎ IsUnused word
unfolding owner
fixed_places word h = grind (arith, nat_tests)

numbers_run : (word : ℕ) → owner word ≡ Numbers
    → (word ≡ LOG_HEAD_AT) ⊎ ((OBJECT_BASE_AT ≤ word) × (word < PAGE_BASE_END) ⊎ (LOG_ENTRIES_AT ≤ word) × (word < BACKUP_TAGS_AT))
unfolding owner
numbers_run word h = grind (arith, nat_tests)

objects_run : (word : ℕ) → owner word ≡ Objects
    → (OBJECT_TAGS_AT ≤ word) × (word < OBJECT_TAGS_END) ⊎ (OBJECT_SLOTS_AT ≤ word) × (word < TABLE_WORDS)
unfolding owner
objects_run word h = grind (arith, nat_tests)

pages_run : (word : ℕ) → owner word ≡ Pages → (BACKUP_TAGS_AT ≤ word) × (word < OBJECT_TAGS_AT) ⊎ (TABLE_WORDS ≤ word)
unfolding owner
pages_run word h = grind (arith, nat_tests)

pub numbers_places : (word : ℕ) → owner word ≡ Numbers → (word ≡ LOG_HEAD_AT)
    ⊎ (((index : ℕ) × (index < NUMBERS) × (word ≡ base_at index)) ⊎ ((entry : ℕ) × (entry < NUMBERS) × (word ≡ log_entry_at entry)))
numbers_places word h = elim (numbers_run word h) [
  | inl head ↦ inl head
  | inr rest ↦ elim rest [
    | inl base ↦ let low = base.0 in let high = base.1 in
        inr (inl (64 * (word - OBJECT_BASE_AT), omega (arith, low, high), omega (arith, low, high)))
    | inr entry ↦ let low = entry.0 in let high = entry.1 in
        inr (inr (word - LOG_ENTRIES_AT, omega (arith, low, high), omega (arith, low, high)))
  ]
]

pub objects_places : (word : ℕ) → owner word ≡ Objects
    → ((id slot : ℕ) × (id < OBJECTS) × (slot < SLOTS) × (word ≡ object_tag_at id slot))
    ⊎ ((id slot j : ℕ) × (id < OBJECTS) × (slot < SLOTS) × (j < SLOT_WORDS) × (word ≡ object_slot_at id slot + j))
objects_places word h = elim (objects_run word h) [
  | inl tag ↦ let low = tag.0 in let high = tag.1 in
      inl ((word - OBJECT_TAGS_AT) / 2, (word - OBJECT_TAGS_AT) % 2, omega (arith, low, high), omega (arith, low, high), omega (arith, low, high))
  | inr slot ↦ let low = slot.0 in let high = slot.1 in
      inr ((word - OBJECT_SLOTS_AT) / 128, (word - OBJECT_SLOTS_AT) / 64 % 2, (word - OBJECT_SLOTS_AT) % 64, omega (arith, low, high), omega (arith, low, high), omega (arith, low, high), omega (arith, low, high))
]

pub pages_places : (word : ℕ) → owner word ≡ Pages → ((page : ℕ) × (page < PAGES) × (word ≡ backup_tag_at page))
    ⊎ (((spare : ℕ) × (spare < SPARES) × (word ≡ hot_word_at spare)) ⊎ ((frame j : ℕ) × (j < FRAME_WORDS) × (word ≡ frame_at frame + j)))
pages_places word h = elim (pages_run word h) [
  | inl table ↦ let low = table.0 in let high = table.1 in elim (cases_lt word HOT_WORDS_AT) [
    | inl tag ↦ inl (word - BACKUP_TAGS_AT, omega (arith, low, tag), omega (arith, low, tag))
    | inr hot ↦ inr (inl (word - HOT_WORDS_AT, omega (arith, high, hot), omega (arith, high, hot)))
  ]
  | inr frames ↦ inr (inr ((word - TABLE_WORDS) / 512, (word - TABLE_WORDS) % 512, omega (arith, frames), omega (arith, frames)))
]
