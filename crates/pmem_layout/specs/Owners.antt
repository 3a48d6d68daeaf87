-- Whose each word is.
use Rattle.std.specs.Prelude.{ℕ, ◌+◌, nat_lt, if◌then◌else◌, List, [], ◌∷◌}
use Rattle.sls_base.specs.declared.limits.TheConstants.{VERSION_AT, TABLE_WORDS}
use Rattle.pmem_layout.specs.declared.places.TheConstants.{FORMAT_AT, LOG_HEAD_AT, OBJECT_BASE_AT, PAGE_BASE_END, LOG_ENTRIES_AT, BACKUP_TAGS_AT, OBJECT_TAGS_AT, OBJECT_TAGS_END, OBJECT_SLOTS_AT}

-- The format word, which formatting stores last; the words that stay as formatting leaves them, among them those that
-- have no use; the version word; the numbers in use, with their log; the objects, in their slots with their tags; the
-- pages, in their frames with their tags.
pub data Owner : Type 0 where
  Format : Owner
  Fixed : Owner
  Version : Owner
  Numbers : Owner
  Objects : Owner
  Pages : Owner

-- the table from its first word on: where each run of words ends, and whose it is
abbrev pub runs : List (ℕ × Owner)
runs =
    (FORMAT_AT + 1, Format) ∷ (VERSION_AT + 1, Version) ∷ (LOG_HEAD_AT, Fixed) ∷ (LOG_HEAD_AT + 1, Numbers)
    ∷ (OBJECT_BASE_AT, Fixed) ∷ (PAGE_BASE_END, Numbers) ∷ (LOG_ENTRIES_AT, Fixed) ∷ (BACKUP_TAGS_AT, Numbers)
    ∷ (OBJECT_TAGS_AT, Pages) ∷ (OBJECT_TAGS_END, Objects) ∷ (OBJECT_SLOTS_AT, Fixed) ∷ (TABLE_WORDS, Objects) ∷ []

-- the owner of the first run that ends behind the word; behind the table stand the frames
abbrev pub owner_among : List (ℕ × Owner) → ℕ → Owner
owner_among [] word = Pages
owner_among (run ∷ rest) word = if nat_lt word run.0 then run.1 else owner_among rest word

unfoldable pub owner : ℕ → Owner
owner word = owner_among runs word
