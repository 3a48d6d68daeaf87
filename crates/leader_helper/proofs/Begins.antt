-- A checkpoint that begins writes the next version.
use Rattle.std.specs.Prelude.{◌≡◌, ℕ, ◌<◌, Bool, true, false, List, Option}
use Rattle.std.proofs.Common.{refl}
use Rattle.sls_base.specs.declared.limits.TheConstants.{OBJECTS}
use Rattle.pmem_model.specs.Words.{Word}
use Rattle.kobj_codec.specs.declared.obj.Obj.{Obj}
use Rattle.object_root.specs.declared.stage.Stage.{Stage as RecordStage}
use Rattle.object_root.specs.declared.stage.Stage.TheVariants.{Idle}
use Rattle.page_store.specs.Known.{Open}
use Rattle.durable_state.specs.Parts.{Parts}
use Rattle.version_rooms.specs.declared.rooms.Rooms.{Rooms}
use Rattle.leader_helper.specs.declared.leader.Leader.{Leader}
use Rattle.leader_helper.specs.declared.stage.Stage.TheVariants as at
use Rattle.leader_helper.specs.Begins.{IsFound, MayBegin}
use Rattle.leader_helper.specs.Leads.{IsWriting, is_changed}
use Rattle.leader_helper.specs.Stages.{IsRecordDone}
use Rattle.leader_helper.proofs.Running.{with_running, running_shows}

-- no record of a changed object is written yet
record_begins : (found : Bool) (id : ℕ) (stage : RecordStage) (now saved : Option Obj) → stage ≡ Idle → IsFound found now saved
    → IsRecordDone at.Gather found id stage saved now
record_begins true id stage now saved idle is = idle
record_begins false id stage now saved idle is = (idle, is)

-- a leader at its first stage, with these changes
abbrev first : List Bool → Leader
first changed = record { stage = at.Gather; changed = changed }

pub begins : (changed : List Bool) (r : Rooms) (running : List ℕ) (f : ℕ → Word) (v : ℕ) (saved : Parts) (objects : ℕ → Option Obj) (pages : ℕ → Option (ℕ → ℕ))
    → MayBegin r f v saved pages → ((id : ℕ) → id < OBJECTS → IsFound (is_changed (first changed) id) (objects id) (saved.objects id))
    → IsWriting (first changed) (with_running r running) f v (record { saved = saved; objects = objects; pages = pages })
begins changed r running f v saved objects pages may found = record {
  before = refl;
  in_range = may.in_range;
  shows = running_shows r running f v (record { saved = saved; objects = objects; pages = pages }) Open (may.rest.shows objects);
  rest = λ other. may.rest.committer;
  pages = λ page inside. tt;
  phase = may.rest.records;
  records = λ id inside. record_begins (is_changed (first changed) id) id _ (objects id) (saved.objects id) (may.rest.idle id) (found id inside);
  log = may.rest.log;
}
