-- What recovery and the words of the memory keep together, through each step and each event.
use Rattle.std.specs.Prelude.{◌≡◌, ℕ, ◌+◌, ◌≤◌, false, Option}
use Rattle.sls_base.specs.declared.fixed.TheConstants.{LEADER}
use Rattle.sls_base.specs.declared.limits.TheConstants.{LAST_VERSION, VERSION_AT}
use Rattle.pmem_model.specs.Words.{Word}
use Rattle.pmem_model.specs.Events.{WordIs, Clean}
use Rattle.kobj_codec.specs.declared.obj.Obj.{Obj}
use Rattle.alloc_journal.specs.declared.journal.Stage.TheVariants as logs
use Rattle.alloc_journal.specs.Work.{InUse, is_redo, redo_left}
use Rattle.alloc_journal.specs.Shows.{NumbersShow}
use Rattle.object_root.specs.declared.stage.Phase.TheVariants as phases
use Rattle.object_root.specs.Room.{Room, AllIdle}
use Rattle.object_root.specs.Shows.{ObjectsShow}
use Rattle.object_root.specs.Steps.{steps_left as tags_left}
use Rattle.page_store.specs.Back.{steps_left as pages_left, RecoveryShows as PagesReturn}
use Rattle.durable_state.specs.Parts.{Parts}
use Rattle.version_rooms.specs.Rooms.{IsFixed}
use Rattle.tree_restore.specs.declared.recovery.Recovery.{Recovery}

-- how many turns there are at most to the end: those of the numbers, of the objects and of the pages
abbrev pub turns_left : Recovery → ℕ
turns_left r = redo_left r.numbers.work + (tags_left r.roots.phase + pages_left r.pages)

-- In the running state the numbers are in use that are so at the version. No log of a next version is written, and at
-- the end none stands.
pub record AreRedone (n : InUse) : Type 0 where
  pub running : n.running ≡ n.work.committed
  pub log : is_redo n.work.stage ≡ false → n.work.stage ≡ logs.Rest

-- No object is written, and at the end each may be.
pub record AreCleared (r : Room) : Type 0 where
  pub idle : AllIdle r
  pub records : tags_left r.phase ≡ 0 → r.phase ≡ phases.Records

-- Whatever is written back and wherever the power is cut, the words say at version v what is saved, and v is the
-- committed version: `recovery` is on its way to bring the rooms to rest there.
pub record RestoreShows (r : Recovery) (f : ℕ → Word) (v : ℕ) (saved : Parts) : Type 0 where
  pub in_range : v ≤ LAST_VERSION
  pub version : WordIs LEADER Clean (f VERSION_AT) v
  pub fixed : IsFixed f saved.cores
  pub numbers : NumbersShow r.numbers.work f v saved.numbers
  pub redone : AreRedone r.numbers
  pub objects : (next : ℕ → Option Obj) → ObjectsShow r.roots f v saved.objects next
  pub cleared : AreCleared r.roots
  pub pages : PagesReturn r.pages f v saved.pages
