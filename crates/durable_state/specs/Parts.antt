-- What the rooms of the memory say of a version, and when words say it.
use Rattle.std.specs.Prelude.{◌≡◌, ℕ, ◌==◌, ◌≤◌, Bool, if◌then◌else◌, Option}
use Rattle.sls_base.specs.declared.limits.TheConstants.{CORES, LAST_VERSION}
use Rattle.kobj_codec.specs.declared.obj.Obj.{Obj}
use Rattle.pmem_layout.specs.declared.format.TheConstants.{EMPTY_WORD, FORMAT_WORD}
use Rattle.pmem_layout.specs.declared.places.TheConstants.{CORES_AT, FORMAT_AT}
use Rattle.pmem_layout.specs.Owners.{Fixed, Format, Numbers, Objects, Pages, owner}
use Rattle.pmem_layout.specs.Rooms.{SameIn}
use Rattle.alloc_journal.specs.Format.{NumbersStand}
use Rattle.object_root.specs.Format.{ObjectsStand}
use Rattle.page_store.specs.Format.{PagesStand}

-- How many cores there are; which numbers are in use, those of objects first and those of pages behind; the record of
-- each object; and the words of each page that is in use and isn't fresh.
pub record Parts : Type 0 where
  pub cores : ℕ
  pub numbers : ℕ → Bool
  pub objects : ℕ → Option Obj
  pub pages : ℕ → Option (ℕ → ℕ)

-- a word that stays as formatting leaves it
abbrev pub fixed_word : ℕ → ℕ → ℕ
fixed_word cores word = if word == CORES_AT then cores else EMPTY_WORD

-- The memory is formatted, for so many cores, and each word that has no use is empty.
pub record FixedStand (words : ℕ → ℕ) (cores : ℕ) : Type 0 where
  pub format : words FORMAT_AT ≡ FORMAT_WORD
  pub some : 1 ≤ cores
  pub most : cores ≤ CORES
  pub each : (word : ℕ) → owner word ≡ Fixed → words word ≡ fixed_word cores word

-- The words say these parts at a version. The version is told beside them: the version word is read nowhere.
pub record PartsStand (words : ℕ → ℕ) (v : ℕ) (p : Parts) : Type 0 where
  pub in_range : v ≤ LAST_VERSION
  pub fixed : FixedStand words p.cores
  pub numbers : NumbersStand words v p.numbers
  pub objects : ObjectsStand words v p.objects
  pub pages : PagesStand words v p.pages

-- Words are the same but for the version word.
pub record SameButVersion (a b : ℕ → ℕ) : Type 0 where
  pub format : SameIn Format a b
  pub fixed : SameIn Fixed a b
  pub numbers : SameIn Numbers a b
  pub objects : SameIn Objects a b
  pub pages : SameIn Pages a b
