-- What a `Roots` and the words of the memory keep together, through each step and each event.
use Rattle.std.proofs.Common.{◌≡◌, ◌⊎◌, ℕ, ◌+◌, ◌-◌, ◌*◌, ◌<◌, ◌≤◌, ◌==◌, nat_lt, ◌&&◌, Bool, true, if◌then◌else◌, Option, Some, None}
use Rattle.sls_base.specs.declared.limits.TheConstants.{OBJECTS}
use Rattle.pmem_model.specs.Words.{Word}
use Rattle.pmem_model.specs.Events.{WordCalm, Kind, Any, Cached, Ready, Clean, Over, ReadyOver}
use Rattle.pmem_model.specs.Maps.{Map, Nothing, One, Both, Each, row, IsKnown}
use Rattle.pmem_layout.specs.declared.places.TheConstants.{SLOTS, SLOT_WORDS}
use Rattle.pmem_layout.specs.Places.{object_tag_at, object_slot_at}
use Rattle.pmem_layout.specs.Owners.{Objects, owner}
use Rattle.kobj_codec.specs.declared.obj.Obj.{Obj}
use Rattle.kobj_codec.specs.Objects.{IsObj}
use Rattle.kobj_codec.specs.Records.{IsRecord, head_word, word_behind}
use Rattle.object_root.specs.declared.stage.Stage.{Stage}
use Rattle.object_root.specs.declared.stage.Stage.TheVariants.{Idle, Stored, Flushed, TagStored, TagFlushed}
use Rattle.object_root.specs.declared.stage.Phase.{Phase}
use Rattle.object_root.specs.declared.stage.Phase.TheVariants.{Clearing, Cleared, Records, Tags, Tagged}
use Rattle.sls_base.specs.declared.fixed.TheConstants.{LEADER}
use Rattle.object_root.specs.Format.{IsChosen, ObjectsStand}
use Rattle.object_root.specs.Room.{Room, stage_at, number_of, AllIdle}

-- While objects are written. Of two slots of an object one is chosen at the version, and the new record is written in
-- the free one.

-- what is known of the words of the free slot, and of the word of its tag, over its old value
abbrev pub slot_kind : Phase → Stage → Kind
slot_kind phase Idle = Any
slot_kind phase (Stored slot) = Cached
slot_kind Records (Flushed slot) = Ready
slot_kind phase (Flushed slot) = Clean
slot_kind phase (TagStored slot) = Clean
slot_kind phase (TagFlushed slot) = Clean

abbrev pub tag_kind : Phase → Stage → ℕ → Kind
tag_kind phase Idle old = Clean
tag_kind phase (Stored slot) old = Clean
tag_kind phase (Flushed slot) old = Clean
tag_kind phase (TagStored slot) old = Over old
tag_kind Tagged (TagFlushed slot) old = Clean
tag_kind phase (TagFlushed slot) old = ReadyOver old

-- the word of its tag reads as before, or names the next version
abbrev pub tag_value : Stage → ℕ → ℕ → ℕ
tag_value Idle v old = old
tag_value (Stored slot) v old = old
tag_value (Flushed slot) v old = old
tag_value (TagStored slot) v old = v + 2
tag_value (TagFlushed slot) v old = v + 2

-- the free slot is the one that the stage names
abbrev pub IsFree : Stage → ℕ → Type 0
IsFree Idle free = Unit {0}
IsFree (Stored slot) free = number_of slot ≡ free
IsFree (Flushed slot) free = number_of slot ≡ free
IsFree (TagStored slot) free = number_of slot ≡ free
IsFree (TagFlushed slot) free = number_of slot ≡ free

-- a word of an object's record
abbrev pub record_word : Obj → ℕ → ℕ
record_word o j = if j == 0 then head_word o else word_behind o (j - 1)

-- the words of a slot are of a kind, where the object's record should be read
abbrev pub record_map : ℕ → ℕ → Kind → Option Obj → Map
record_map id slot k None = Nothing
record_map id slot k (Some o) = row (object_slot_at id slot) SLOT_WORDS k (record_word o)

-- what is known of an object's words
abbrev pub object_map : Phase → Stage → ℕ → ℕ → ℕ → ℕ → ℕ → ℕ → Option Obj → Option Obj → Map
object_map phase stage v id free chosen old tag saved next =
    Both (Both (One (object_tag_at id chosen) Clean tag) (record_map id chosen Clean saved))
    (Both (One (object_tag_at id free) (tag_kind phase stage old) (tag_value stage v old))
    (record_map id free (slot_kind phase stage) next))

-- The word of the chosen slot's tag isn't below the free one's; where there is an object at the version, it is above
-- that, and its record can be read.
abbrev pub IsSaved : Option Obj → ℕ → ℕ → Type 0
IsSaved None old tag = old ≤ tag
IsSaved (Some o) old tag = IsObj o × (old < tag)

-- what is written can be read
abbrev pub IsNext : Stage → Option Obj → Type 0
IsNext Idle next = Unit {0}
IsNext stage None = Unit {0}
IsNext stage (Some o) = IsObj o

-- An object shows what is saved and what is written.
pub record ObjectShows (phase : Phase) (stage : Stage) (f : ℕ → Word) (v id : ℕ) (saved next : Option Obj)
    : Type 0 where
  pub free : ℕ
  pub chosen : ℕ
  pub slots : free + chosen ≡ 1
  pub is_free : IsFree stage free
  pub old : ℕ
  pub tag : ℕ
  pub not_above : tag ≤ v + 1
  pub saved_is : IsSaved saved old tag
  pub next_is : IsNext stage next
  pub known : IsKnown LEADER (object_map phase stage v id free chosen old tag saved next) f

-- The words of the objects are clean, as a cut leaves them.
pub record AreClean (f : ℕ → Word) : Type 0 where
  pub at : (i : ℕ) → owner i ≡ Objects → (f i).cached ≡ (f i).durable

-- While recovery clears tags above the version, from the words that a cut left: tags that were seen and are above it
-- read 0, and all else stands as it was left.

abbrev pub is_above : ℕ → ℕ → Bool
is_above v word = nat_lt (v + 1) word

abbrev pub is_seen : Phase → ℕ → Bool
is_seen (Clearing at) tag = nat_lt tag at
is_seen phase tag = true

abbrev pub clear_kind : Phase → ℕ → Kind
clear_kind (Clearing at) d = Over d
clear_kind phase d = ReadyOver d

-- what is known of a tag, by its number among all tags, its place and its word
abbrev pub tag_map : Phase → ℕ → ℕ → ℕ → ℕ → Map
tag_map phase v tag at word =
    if is_seen phase tag && is_above v word then One at (clear_kind phase word) 0 else One at Clean word

abbrev pub clear_map : Phase → ℕ → (ℕ → ℕ) → Map
clear_map phase v left = Each OBJECTS (λ id. Each SLOTS (λ slot.
    Both (tag_map phase v (SLOTS * id + slot) (object_tag_at id slot) (left (object_tag_at id slot)))
    (row (object_slot_at id slot) SLOT_WORDS Clean (λ j. left (object_slot_at id slot + j)))))

pub record ObjectsClear (r : Room) (phase : Phase) (f : ℕ → Word) (v : ℕ) (saved : ℕ → Option Obj) : Type 0 where
  pub left : ℕ → ℕ
  pub stood : ObjectsStand left v saved
  pub idle : AllIdle r
  pub known : IsKnown LEADER (clear_map phase v left) f

-- In each phase.

abbrev pub EachShows : Phase → (ℕ → Stage) → (ℕ → Word) → ℕ → (ℕ → Option Obj) → (ℕ → Option Obj) → Type 0
EachShows phase stage f v saved next = (id : ℕ) → id < OBJECTS
    → ObjectShows phase (stage id) f v id (saved id) (next id)

abbrev pub ShowsIn : Phase → Room → (ℕ → Word) → ℕ → (ℕ → Option Obj) → (ℕ → Option Obj) → Type 0
ShowsIn (Clearing at) r f v saved next = ObjectsClear r (Clearing at) f v saved
ShowsIn Cleared r f v saved next = ObjectsClear r Cleared f v saved
ShowsIn Records r f v saved next = EachShows Records (stage_at r) f v saved next
ShowsIn Tags r f v saved next = EachShows Tags (stage_at r) f v saved next
ShowsIn Tagged r f v saved next = EachShows Tagged (stage_at r) f v saved next

-- Whatever is written back, the words read at version v as `saved`, and `next` is being written beside it.
pub record ObjectsShow (r : Room) (f : ℕ → Word) (v : ℕ) (saved next : ℕ → Option Obj) : Type 0 where
  pub version : r.version ≡ v
  pub shows : ShowsIn r.phase r f v saved next

-- Nothing is stored in the slots that are chosen at the version, nor in their tags.
pub record IsSpared (f g : ℕ → Word) (id slot : ℕ) : Type 0 where
  pub tag : WordCalm (f (object_tag_at id slot)) (g (object_tag_at id slot))
  pub words : (j : ℕ) → j < SLOT_WORDS → WordCalm (f (object_slot_at id slot + j)) (g (object_slot_at id slot + j))

abbrev pub SparesChosen : (ℕ → Word) → (ℕ → Word) → ℕ → Type 0
SparesChosen f g v = (id slot : ℕ) → id < OBJECTS → IsChosen (λ i. (f i).cached) v id slot → IsSpared f g id slot

-- What a room and the words keep together they still do, for all contents, and what is chosen is spared.
abbrev pub KeepsShowing : Room → Room → (ℕ → Word) → (ℕ → Word) → Type 0
KeepsShowing old new f g = (v : ℕ) (saved next : ℕ → Option Obj) → ObjectsShow old f v saved next
    → ObjectsShow new g v saved next

abbrev pub SparesSaved : Room → (ℕ → Word) → (ℕ → Word) → Type 0
SparesSaved old f g = (v : ℕ) (saved next : ℕ → Option Obj) → ObjectsShow old f v saved next → SparesChosen f g v

-- each object's new record has its tag, or it needs none
abbrev pub IsSettled : Stage → Option Obj → Option Obj → Type 0
IsSettled (TagFlushed slot) saved next = Unit {0}
IsSettled Idle saved next = (next ≡ saved) ⊎ (next ≡ None)
IsSettled stage saved next = ⊥

abbrev pub AllSettled : Room → (ℕ → Option Obj) → (ℕ → Option Obj) → Type 0
AllSettled r saved next = (id : ℕ) → id < OBJECTS → IsSettled (stage_at r id) (saved id) (next id)

-- the words that a step is given are the record of what is written
abbrev pub IsRecordOf : Option Obj → (ℕ → ℕ) → Type 0
IsRecordOf None words = Unit {0}
IsRecordOf (Some o) words = IsObj o × IsRecord words o
