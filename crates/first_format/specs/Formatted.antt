-- The words of a memory that was formatted, and what a cut may leave while it is formatted.
use Rattle.std.specs.Prelude.{◌≡◌, ◌⊎◌, ℕ, zero, suc, ◌+◌, ◌-◌, ◌*◌, ◌/◌, ◌%◌, ◌^◌, ◌==◌, ◌&&◌, nat_lt, Bool, if◌then◌else◌, Option, Some, None, is_some}
use Rattle.sls_base.specs.declared.limits.TheConstants.{FRAME_WORDS, TABLE_WORDS}
use Rattle.sls_base.specs.declared.image.Image.{Image}
use Rattle.pmem_layout.specs.declared.format.TheConstants.{EMPTY_WORD, FORMAT_WORD}
use Rattle.pmem_layout.specs.declared.places.TheConstants.{BASE_BITS, FIRST_SPARE_FRAME, FORMAT_AT, OBJECT_BASE_AT, OBJECT_SLOTS_AT, OBJECT_TAGS_AT, OBJECT_TAGS_END, PAGE_BASE_END, SLOTS, SLOT_WORDS}
use Rattle.pmem_layout.specs.declared.tag.Tag.TheVariants.{Of}
use Rattle.pmem_layout.specs.Fields.{tag_word}
use Rattle.kobj_codec.specs.declared.obj.Obj.{Obj}
use Rattle.kobj_codec.specs.Records.{head_word, word_behind}
use Rattle.page_store.specs.Shows.{words_of}
use Rattle.durable_state.specs.Parts.{Parts, fixed_word}
use Rattle.first_format.specs.Parts.{first_parts}

-- the word whose lowest bits tell of so many numbers from `first` on whether they are so
unfoldable pub bits_word : (ℕ → Bool) → ℕ → ℕ → ℕ
bits_word so first zero = 0
bits_word so first (suc count) = bits_word so first count + (if so (first + count) then 2 ^ count else 0)

-- word j of the record of an object, if there is one
abbrev pub record_word : Option Obj → ℕ → ℕ
record_word None j = EMPTY_WORD
record_word (Some obj) j = if j == 0 then head_word obj else word_behind obj (j - 1)

-- Word k of each room. Of each object the first slot has the record, with the tag of version 0, and of each page the
-- runtime frame has the words. No other slot has a tag, there is no log, and all else is empty.

abbrev pub base_word : (ℕ → Bool) → ℕ → ℕ
base_word numbers k = bits_word numbers (BASE_BITS * k) BASE_BITS

-- it is of slot k mod 2 of object k div 2
abbrev pub object_tag : (ℕ → Option Obj) → ℕ → ℕ
object_tag objects k =
    if (k % SLOTS == 0) && is_some (objects (k / SLOTS)) then tag_word (Of 0) else EMPTY_WORD

-- it is of slot s mod 2 of object s div 2, where s is k div 64
abbrev pub slot_word : (ℕ → Option Obj) → ℕ → ℕ
slot_word objects k =
    if k / SLOT_WORDS % SLOTS == 0 then record_word (objects (k / SLOT_WORDS / SLOTS)) (k % SLOT_WORDS) else EMPTY_WORD

-- it is of frame k div 512, and even frames are runtime frames up to those of the spares
abbrev pub frame_word : (ℕ → Option (ℕ → ℕ)) → ℕ → ℕ
frame_word pages k =
    if (k / FRAME_WORDS % 2 == 0) && nat_lt (k / FRAME_WORDS) FIRST_SPARE_FRAME
    then words_of (pages (k / FRAME_WORDS / 2)) (k % FRAME_WORDS)
    else EMPTY_WORD

-- The word at each place but the format word's.
unfoldable pub content_word : Parts → ℕ → ℕ
content_word p word =
    if nat_lt word OBJECT_BASE_AT then fixed_word p.cores word
    else if nat_lt word PAGE_BASE_END then base_word p.numbers (word - OBJECT_BASE_AT)
    else if nat_lt word OBJECT_TAGS_AT then EMPTY_WORD
    else if nat_lt word OBJECT_TAGS_END then object_tag p.objects (word - OBJECT_TAGS_AT)
    else if nat_lt word OBJECT_SLOTS_AT then EMPTY_WORD
    else if nat_lt word TABLE_WORDS then slot_word p.objects (word - OBJECT_SLOTS_AT)
    else frame_word p.pages (word - TABLE_WORDS)

-- The words of a memory that was formatted with these parts at version 0.
abbrev pub formatted : Parts → ℕ → ℕ
formatted p word = if word == FORMAT_AT then FORMAT_WORD else content_word p word

-- What a cut may leave while the memory is formatted: there is no format word, and each word is 0 or the one that is
-- stored there.
pub record Formats (image : Image) (cores : ℕ) (words : ℕ → ℕ) : Type 0 where
  pub unformatted : words FORMAT_AT ≡ 0
  pub each : (word : ℕ) → (words word ≡ 0) ⊎ (words word ≡ formatted (first_parts image cores) word)

-- The whole first version: each word is the one that is stored there.
abbrev pub IsWhole : Image → ℕ → (ℕ → ℕ) → Type 0
IsWhole image cores words = (word : ℕ) → words word ≡ formatted (first_parts image cores) word
