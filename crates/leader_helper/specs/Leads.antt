-- What the leader, the rooms and the words of the memory keep together in a checkpoint.
use Rattle.std.specs.Prelude.{◌≡◌, ◌≢◌, ℕ, ◌+◌, ◌<◌, Bool, true, false, Option, slice_index_or}
use Rattle.sls_base.specs.declared.limits.TheConstants.{LAST_VERSION, OBJECTS, PAGES}
use Rattle.pmem_model.specs.Words.{Word}
use Rattle.kobj_codec.specs.declared.obj.Obj.{Obj}
use Rattle.alloc_journal.specs.Sets.{has}
use Rattle.object_root.specs.Room.{stage_at}
use Rattle.page_store.specs.Stages.{stage_of}
use Rattle.durable_state.specs.Parts.{Parts}
use Rattle.version_rooms.specs.declared.rooms.Rooms.{Rooms}
use Rattle.version_rooms.specs.Rooms.{Contents, AreCommitted, IsAtRest, IsKept, RoomsShow}
use Rattle.version_rooms.specs.Rest.{AreAtRest}
use Rattle.page_store.specs.Known.{Open}
use Rattle.leader_helper.specs.declared.leader.Leader.{Leader}
use Rattle.leader_helper.specs.declared.stage.Progress.{Progress}
use Rattle.leader_helper.specs.declared.stage.Progress.TheVariants as progress
use Rattle.leader_helper.specs.declared.stage.Stage.TheVariants as at
use Rattle.leader_helper.specs.Stages.{is_before_commit, page_phase, record_phase, IsPageDone, IsRecordDone, IsLogDone}

-- the object of a number changed since the last commit, as the leader found
abbrev pub is_changed : Leader → ℕ → Bool
is_changed l id = slice_index_or l.changed id false

-- The next version is being written: what is saved stands at version v, each room has come as far as the leader's stage
-- says, and `c.objects` are the records that are written.
pub record IsWriting (l : Leader) (r : Rooms) (f : ℕ → Word) (v : ℕ) (c : Contents) : Type 0 where
  pub before : is_before_commit l.stage ≡ true
  pub in_range : v < LAST_VERSION
  pub shows : RoomsShow r f v c (page_phase l.stage)
  pub rest : l.stage ≢ at.Commit → IsAtRest r
  pub pages : (page : ℕ) → page < PAGES → IsPageDone l.stage page (stage_of r.pages page)
  pub phase : r.roots.phase ≡ record_phase l.stage
  pub records : (id : ℕ) → id < OBJECTS
      → IsRecordDone l.stage (is_changed l id) id (stage_at r.roots id) (c.saved.objects id) (c.objects id)
  pub log : IsLogDone l.stage r.numbers

-- These parts are what the commit makes of it: the numbers that are in use now, the records that are written, and the
-- pages as they run, of which some may be left out.
pub record AreNext (r : Rooms) (c : Contents) (next : Parts) : Type 0 where
  pub cores : next.cores ≡ c.saved.cores
  pub numbers : next.numbers ≡ has r.numbers.running
  pub objects : next.objects ≡ c.objects
  pub pages : (page : ℕ) → page < PAGES → IsKept (next.pages page) (c.pages page)

-- The next version was committed, and is what is saved now. Its log is applied, and then all is at rest.
pub data IsApplying (l : Leader) (r : Rooms) (f : ℕ → Word) (v : ℕ) (saved : Parts) (pages : ℕ → Option (ℕ → ℕ))
    : Type 0 where
  Applying : l.stage ≡ at.Apply → AreCommitted r
      → ((objects : ℕ → Option Obj)
      → RoomsShow r f v (record { saved = saved; objects = objects; pages = pages }) Open)
      → IsApplying l r f v saved pages
  Applied : l.stage ≡ at.Resume → AreAtRest r f v saved pages → IsApplying l r f v saved pages

-- some contents are being written
pub record IsLedTo (l : Leader) (r : Rooms) (f : ℕ → Word) : Type 0 where
  pub version : ℕ
  pub contents : Contents
  pub writing : IsWriting l r f version contents

-- some contents were committed
pub record IsLedFrom (l : Leader) (r : Rooms) (f : ℕ → Word) : Type 0 where
  pub version : ℕ
  pub saved : Parts
  pub pages : ℕ → Option (ℕ → ℕ)
  pub applying : IsApplying l r f version saved pages

-- some contents are being written, of these objects, or were committed
pub data IsLeading (l : Leader) (r : Rooms) (f : ℕ → Word) (objects : ℕ → Option Obj) : Type 0 where
  Before : (v : ℕ) (c : Contents) → c.objects ≡ objects → IsWriting l r f v c → IsLeading l r f objects
  Behind : (v : ℕ) (saved : Parts) (pages : ℕ → Option (ℕ → ℕ)) → IsApplying l r f v saved pages
      → IsLeading l r f objects

-- What a step before the commit comes to: the next version is being written still, or it is committed, whichever of the
-- pages are left out.
abbrev pub Writes : Progress → Rooms → Leader → Rooms → (ℕ → Word) → ℕ → Contents → Type 0
Writes progress.Led old l r f v c = IsWriting l r f v c
Writes progress.Committed old l r f v c =
    (next : Parts) → AreNext old c next → IsApplying l r f (v + 1) next c.pages
Writes progress.Resumed old l r f v c = ⊥

-- What a step after the commit comes to: the leader goes on, or all is at rest.
abbrev pub Applies : Progress → Leader → Rooms → (ℕ → Word) → ℕ → Parts → (ℕ → Option (ℕ → ℕ)) → Type 0
Applies progress.Led l r f v saved pages = IsApplying l r f v saved pages
Applies progress.Committed l r f v saved pages = ⊥
Applies progress.Resumed l r f v saved pages = AreAtRest r f v saved pages
