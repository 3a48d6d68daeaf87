-- Where things stand.
use Rattle.std.specs.Prelude.{ℕ, ◌+◌, ◌*◌, ◌/◌, ◌<◌, ◌≤◌, ◌⊎◌}
use Rattle.sls_base.specs.declared.limits.TheConstants.{TABLE_WORDS, FRAME_WORDS, LINE_WORDS}
use Rattle.pmem_layout.specs.declared.places.TheConstants.{CORES_AT, LOG_HEAD_AT, OBJECT_BASE_AT, PAGE_BASE_END, LOG_ENTRIES_AT, BACKUP_TAGS_AT, HOT_WORDS_AT, OBJECT_TAGS_AT, OBJECT_TAGS_END, OBJECT_SLOTS_AT, SLOTS, SLOT_WORDS, FIRST_SPARE_FRAME}

-- Words of the table.

abbrev pub log_entry_at : ℕ → ℕ
log_entry_at entry = LOG_ENTRIES_AT + entry

abbrev pub backup_tag_at : ℕ → ℕ
backup_tag_at page = BACKUP_TAGS_AT + page

abbrev pub hot_word_at : ℕ → ℕ
hot_word_at spare = HOT_WORDS_AT + spare

abbrev pub object_tag_at : ℕ → ℕ → ℕ
object_tag_at id slot = OBJECT_TAGS_AT + SLOTS * id + slot

-- the first word of a slot
abbrev pub object_slot_at : ℕ → ℕ → ℕ
object_slot_at id slot = OBJECT_SLOTS_AT + SLOT_WORDS * (SLOTS * id + slot)

-- The word has no use: it stands behind the cores, behind the head of the log, behind the base, or behind the objects'
-- tags, and before what comes next.
abbrev pub IsUnused : ℕ → Type 0
IsUnused word =
    (CORES_AT < word) × (word < LOG_HEAD_AT) ⊎ ((LOG_HEAD_AT < word) × (word < OBJECT_BASE_AT)
    ⊎ ((PAGE_BASE_END ≤ word) × (word < LOG_ENTRIES_AT) ⊎ (OBJECT_TAGS_END ≤ word) × (word < OBJECT_SLOTS_AT)))

-- Frames. Each page has two, one behind the other, and the spares' stand behind those of all pages.

abbrev pub runtime_frame : ℕ → ℕ
runtime_frame page = 2 * page

abbrev pub backup_frame : ℕ → ℕ
backup_frame page = 2 * page + 1

abbrev pub spare_frame : ℕ → ℕ
spare_frame spare = FIRST_SPARE_FRAME + spare

-- the first word of a frame
abbrev pub frame_at : ℕ → ℕ
frame_at frame = TABLE_WORDS + FRAME_WORDS * frame

-- the first word of the line that a word is in
abbrev pub line_at : ℕ → ℕ
line_at word = word / LINE_WORDS * LINE_WORDS
