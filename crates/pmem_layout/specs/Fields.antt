-- What stands in a word: tags, hot words, entries and the head of the log.
use Rattle.std.specs.Prelude.{◌≡◌, ℕ, ◌+◌, ◌*◌, ◌/◌, ◌%◌, ◌^◌, ◌<◌, ◌≤◌, ◌==◌, if◌then◌else◌}
use Rattle.sls_base.specs.declared.limits.TheConstants.{PAGES}
use Rattle.pmem_layout.specs.declared.tag.Tag.{Tag}
use Rattle.pmem_layout.specs.declared.tag.Tag.TheVariants.{Empty, Of}
use Rattle.pmem_layout.specs.declared.hot.HotWord.{HotWord}
use Rattle.pmem_layout.specs.declared.log.LogEntry.{LogEntry}
use Rattle.pmem_layout.specs.declared.log.LogHead.{LogHead}
use Rattle.pmem_layout.specs.Numbers.{IsNumber, index_of}

-- Of each kind: the word of a value, and which values have one.

-- a tag: one more than the version, or 0 where there is none
abbrev pub tag_word : Tag → ℕ
tag_word Empty = 0
tag_word (Of version) = version + 1

-- Its word fits.
abbrev pub IsTag : Tag → Type 0
IsTag tag = tag_word tag < 2 ^ 64

-- a hot word: the word of the tag, and below it the page with a mark
abbrev pub hot_word : HotWord → ℕ
hot_word hot = tag_word hot.tag * 2 ^ 16 + 0x8000 + hot.page

-- The page is one that there is, and the tag's word fits the bits that it has.
abbrev pub IsHotWord : HotWord → Type 0
IsHotWord hot = (hot.page < PAGES) × (tag_word hot.tag < 2 ^ 48)

-- an entry of the log: the number, and whether it comes into use
abbrev pub entry_word : LogEntry → ℕ
entry_word entry = index_of entry.number * 2 + (if entry.comes then 1 else 0)

-- The number is one that there is.
abbrev pub IsEntry : LogEntry → Type 0
IsEntry entry = IsNumber entry.number

-- the head of a log: the version, and the number of entries
abbrev pub head_word : LogHead → ℕ
head_word head = head.version * 2 ^ 16 + head.entries

-- Both fit the bits that they have, and they are not both 0: that word tells of no log.
abbrev pub IsHead : LogHead → Type 0
IsHead head = (head.version < 2 ^ 48) × (head.entries < 2 ^ 16) × (1 ≤ head_word head)

-- What a word tells at a version.

-- the tag of this version
abbrev pub HasTag : ℕ → ℕ → Type 0
HasTag word version = word ≡ version + 1

-- a tag of this version or of an earlier one
abbrev pub TagUpTo : ℕ → ℕ → Type 0
TagUpTo word version = (1 ≤ word) × (word ≤ version + 1)

-- how many entries of the log count: those of a head that names the version
abbrev pub log_count : ℕ → ℕ → ℕ
log_count word version = if word / 2 ^ 16 == version then word % 2 ^ 16 else 0
