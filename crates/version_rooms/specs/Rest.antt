-- The rooms between two checkpoints.
use Rattle.std.specs.Prelude.{◌≡◌, ℕ, Option}
use Rattle.pmem_model.specs.Words.{Word}
use Rattle.kobj_codec.specs.declared.obj.Obj.{Obj}
use Rattle.alloc_journal.specs.declared.journal.Stage.TheVariants as logs
use Rattle.object_root.specs.declared.stage.Phase.TheVariants as phases
use Rattle.object_root.specs.Room.{AllIdle}
use Rattle.page_store.specs.Known.{Open}
use Rattle.durable_state.specs.Parts.{Parts}
use Rattle.version_rooms.specs.declared.rooms.Rooms.{Rooms}
use Rattle.version_rooms.specs.Rooms.{IsAtRest, RoomsShow}

-- They say what is saved at a version, and the words that pages have now. No record is written, no log stands, and
-- nothing is committed.
pub record AreAtRest (r : Rooms) (f : ℕ → Word) (v : ℕ) (saved : Parts) (pages : ℕ → Option (ℕ → ℕ)) : Type 0 where
  pub shows : (objects : ℕ → Option Obj)
      → RoomsShow r f v (record { saved = saved; objects = objects; pages = pages }) Open
  pub committer : IsAtRest r
  pub records : r.roots.phase ≡ phases.Records
  pub idle : AllIdle r.roots
  pub log : r.numbers.work.stage ≡ logs.Rest
