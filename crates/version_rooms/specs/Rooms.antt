-- What all rooms of the memory keep together with its words, from one version to the next.
use Rattle.std.specs.Prelude.{◌≡◌, ◌≢◌, ◌⊎◌, ℕ, ◌+◌, ◌<◌, ◌≤◌, Bool, true, false, Option, None}
use Rattle.sls_base.specs.declared.fixed.TheConstants.{LEADER}
use Rattle.sls_base.specs.declared.limits.TheConstants.{CORES, LAST_VERSION, PAGES, VERSION_AT}
use Rattle.pmem_model.specs.Words.{Word}
use Rattle.pmem_model.specs.Events.{WordIs, Clean}
use Rattle.pmem_layout.specs.declared.format.TheConstants.{FORMAT_WORD}
use Rattle.pmem_layout.specs.declared.places.TheConstants.{FORMAT_AT}
use Rattle.pmem_layout.specs.Owners.{Fixed, owner}
use Rattle.kobj_codec.specs.declared.obj.Obj.{Obj}
use Rattle.version_commit.specs.declared.step.Step.{Step}
use Rattle.version_commit.specs.declared.step.Step.TheVariants as steps
use Rattle.version_commit.specs.Shows.{VersionShows}
use Rattle.alloc_journal.specs.declared.journal.Stage.TheVariants.{Logged, Rest}
use Rattle.alloc_journal.specs.Sets.{changes, has}
use Rattle.alloc_journal.specs.Work.{InUse, is_logging, is_redo, log_left, once_committed as with_log}
use Rattle.alloc_journal.specs.Shows.{NumbersShow}
use Rattle.object_root.specs.declared.stage.Phase.TheVariants as objects
use Rattle.object_root.specs.Room.{AllIdle}
use Rattle.object_root.specs.Shows.{ObjectsShow, AllSettled}
use Rattle.page_store.specs.Stages.{stage_of, IsFlushed}
use Rattle.page_store.specs.Known.{Phase, Open, Fenced}
use Rattle.page_store.specs.Shows.{PagesShow, with_page}
use Rattle.durable_state.specs.Parts.{Parts, PartsStand, fixed_word}
use Rattle.version_rooms.specs.declared.rooms.Rooms.{Rooms}

-- What is saved at the committed version; the record that each object has at the next one, as far as it is written; and
-- the words that pages have in the running state.
pub record Contents : Type 0 where
  pub saved : Parts
  pub objects : ℕ → Option Obj
  pub pages : ℕ → Option (ℕ → ℕ)

-- The words that stay as formatting leaves them are durable.
pub record IsFixed (f : ℕ → Word) (cores : ℕ) : Type 0 where
  pub some : 1 ≤ cores
  pub most : cores ≤ CORES
  pub format : WordIs LEADER Clean (f FORMAT_AT) FORMAT_WORD
  pub each : (word : ℕ) → owner word ≡ Fixed → WordIs LEADER Clean (f word) (fixed_word cores word)

-- what the version word reads at version v: the next version once it was stored
abbrev pub reads_at : Step → ℕ → ℕ
reads_at steps.Store v = v
reads_at steps.Flush v = v + 1
reads_at steps.Fence v = v + 1

-- Whatever is written back, all words but the version word say at version v what is saved, and beside it the next
-- version is written. `phase` tells whether the leader has fenced what it flushed of the pages.
pub record RoomsKeep (r : Rooms) (f : ℕ → Word) (v : ℕ) (c : Contents) (phase : Phase) : Type 0 where
  pub in_range : v ≤ LAST_VERSION
  pub fixed : IsFixed f c.saved.cores
  pub numbers : NumbersShow r.numbers.work f v c.saved.numbers
  pub objects : ObjectsShow r.roots f v c.saved.objects c.objects
  pub pages : PagesShow r.pages f v c.saved.pages c.pages phase

-- Besides, version v is the committed one.
pub record RoomsShow (r : Rooms) (f : ℕ → Word) (v : ℕ) (c : Contents) (phase : Phase) : Type 0 where
  pub version : VersionShows r.committer f v (reads_at r.committer.version v)
  pub keep : RoomsKeep r f v c phase

-- No commit is under way.
abbrev pub IsAtRest : Rooms → Type 0
IsAtRest r = r.committer.version ≡ steps.Store

-- a page that is in the next version is as it runs, and the others are left out
abbrev pub IsKept : Option (ℕ → ℕ) → Option (ℕ → ℕ) → Type 0
IsKept next now = (next ≡ now) ⊎ (next ≡ None)

-- The next version is written whole, so that it may be committed: its log, each changed object with its tag, and each
-- page that was stored to.
pub record IsReady (r : Rooms) (v : ℕ) (c : Contents) (next : Parts) : Type 0 where
  pub in_range : v < LAST_VERSION
  pub cores : next.cores ≡ c.saved.cores
  pub logged : r.numbers.work.stage ≡ Logged
  pub numbers : next.numbers ≡ has r.numbers.work.logged
  pub tagged : r.roots.phase ≡ objects.Tagged
  pub objects : next.objects ≡ c.objects
  pub settled : AllSettled r.roots c.saved.objects c.objects
  pub flushed : (page : ℕ) → page < PAGES → IsFlushed (stage_of r.pages page)
  pub pages : (page : ℕ) → page < PAGES → IsKept (next.pages page) (c.pages page)

-- No commit is under way, or that of a version that is written whole.
abbrev pub MayCommit : Rooms → ℕ → Contents → Parts → Phase → Type 0
MayCommit r v c next phase = IsAtRest r ⊎ ((phase ≡ Fenced) × IsReady r v c next)

-- The rooms are at work on the version after the one that was just committed: its log is still to be applied, no object
-- is written, and no word is on its way to another version.
pub record AreCommitted (r : Rooms) : Type 0 where
  pub rest : IsAtRest r
  pub log : is_redo r.numbers.work.stage ≡ true
  pub records : r.roots.phase ≡ objects.Records
  pub idle : AllIdle r.roots

-- once the next version is committed, it is saved, and nothing is written of the one after it
abbrev pub once_committed : Contents → Parts → (ℕ → Option Obj) → Contents
once_committed c next objects = record { saved = next; objects = objects; pages = c.pages }

-- A step of the log of the next version, by what is seen of the numbers. The first takes the numbers that are in use
-- now.
pub record Logs (old new : InUse) : Type 0 where
  pub version : new.work.version ≡ old.work.version
  pub running : new.running ≡ old.running
  pub begun : old.work.stage ≡ Rest → new.work.logged ≡ old.running
  pub logged : old.work.stage ≢ Rest → new.work.logged ≡ old.work.logged
  pub first : old.work.stage ≡ Rest → log_left new.work ≡ changes old.work.committed old.running + 4
  pub left : is_logging old.work.stage ≡ true → old.work.stage ≢ Logged → log_left old.work ≡ log_left new.work + 1

-- A commit of the numbers: those that were logged are the committed ones, and their log is to be applied.
pub record TakesLogged (old new : InUse) : Type 0 where
  pub work : new.work ≡ with_log old.work
  pub running : new.running ≡ old.running

-- no content of a page is saved, and none runs
abbrev pub without_page : Contents → ℕ → Contents
without_page c page = record c {
  saved = record c.saved { pages = with_page c.saved.pages page None };
  pages = with_page c.pages page None;
}

-- What an event came to after which the committed version may be the next one: it was committed, or all is as before.
abbrev pub Settles : Bool → Rooms → (ℕ → Word) → ℕ → Contents → Parts → Phase → Type 0
Settles true r g v c next phase =
    AreCommitted r × ((after : ℕ → Option Obj) → RoomsShow r g (v + 1) (once_committed c next after) Open)
Settles false r g v c next phase = RoomsShow r g v c phase

-- What a step does to the rooms and all words, for all contents.
abbrev pub Keeps : Rooms → Rooms → (ℕ → Word) → (ℕ → Word) → Phase → Phase → Type 0
Keeps old new f g before then = (v : ℕ) (c : Contents) → RoomsShow old f v c before → RoomsShow new g v c then

-- What a cut may leave is a version whole: the committed one as it is saved, or the next one as it was written.
pub data LeavesOne (left : ℕ → ℕ) (v : ℕ) (saved next : Parts) : Type 0 where
  Same : left VERSION_AT ≡ v → PartsStand left v saved → LeavesOne left v saved next
  Next : left VERSION_AT ≡ v + 1 → PartsStand left (v + 1) next → LeavesOne left v saved next
