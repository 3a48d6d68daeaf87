-- What is kept behind the commit.
use Rattle.std.specs.Prelude.{◌≡◌, ℕ, true, Option}
use Rattle.std.proofs.Common.{◌∙◌, refl, sym}
use Rattle.pmem_model.specs.Words.{Word}
use Rattle.kobj_codec.specs.declared.obj.Obj.{Obj}
use Rattle.alloc_journal.specs.declared.journal.Stage.TheVariants as logs
use Rattle.alloc_journal.specs.Work.{InUse, is_redo}
use Rattle.page_store.specs.Known.{Open}
use Rattle.durable_state.specs.Parts.{Parts}
use Rattle.version_rooms.specs.declared.rooms.Rooms.{Rooms}
use Rattle.version_rooms.specs.Rest.{AreAtRest}
use Rattle.version_rooms.specs.Rooms.{AreCommitted, IsAtRest, RoomsShow}
use Rattle.leader_helper.specs.declared.leader.Leader.{Leader}
use Rattle.leader_helper.specs.declared.stage.Stage.TheVariants as at
use Rattle.leader_helper.specs.Leads.{Applied, Applying, IsApplying}

-- the words say what is saved, whatever is written beside it
abbrev pub ShowSaved : Rooms → (ℕ → Word) → ℕ → Parts → (ℕ → Option (ℕ → ℕ)) → Type 0
ShowSaved r f v saved pages =
    (objects : ℕ → Option Obj) → RoomsShow r f v (record { saved = saved; objects = objects; pages = pages }) Open

pub are_committed : {l : Leader} {r : Rooms} {f : ℕ → Word} {v : ℕ} {saved : Parts} {pages : ℕ → Option (ℕ → ℕ)}
    → l.stage ≡ at.Apply → IsApplying l r f v saved pages → AreCommitted r × ShowSaved r f v saved pages
are_committed e (Applying stage committed shows) = (committed, shows)
are_committed e (Applied stage rest) = let wrong = sym e ∙ stage in absurd (cc)

pub are_at_rest : {l : Leader} {r : Rooms} {f : ℕ → Word} {v : ℕ} {saved : Parts} {pages : ℕ → Option (ℕ → ℕ)}
    → l.stage ≡ at.Resume → IsApplying l r f v saved pages → AreAtRest r f v saved pages
are_at_rest e (Applying stage committed shows) = let wrong = sym e ∙ stage in absurd (cc)
are_at_rest e (Applied stage rest) = rest

-- no commit is under way, and the words say what is saved
pub is_calm : {l : Leader} {r : Rooms} {f : ℕ → Word} {v : ℕ} {saved : Parts} {pages : ℕ → Option (ℕ → ℕ)}
    → IsApplying l r f v saved pages → IsAtRest r × ShowSaved r f v saved pages
is_calm (Applying stage committed shows) = (committed.rest, shows)
is_calm (Applied stage rest) = (rest.committer, rest.shows)

-- other words say so too
pub applies_again : {l : Leader} {r : Rooms} {f g : ℕ → Word} {v : ℕ} {saved : Parts} {pages : ℕ → Option (ℕ → ℕ)}
    → ShowSaved r g v saved pages → IsApplying l r f v saved pages → IsApplying l r g v saved pages
applies_again shows (Applying stage committed was) = Applying stage committed shows
applies_again shows (Applied stage rest) = Applied stage (record {
  shows = shows;
  committer = rest.committer;
  records = rest.records;
  idle = rest.idle;
  log = rest.log;
})

pub apply_on : {l : Leader} {r : Rooms} {f g : ℕ → Word} {v : ℕ} {saved : Parts} {pages : ℕ → Option (ℕ → ℕ)}
    (new : InUse) → l.stage ≡ at.Apply → is_redo new.work.stage ≡ true
    → (ShowSaved r f v saved pages → ShowSaved (record r { numbers = new }) g v saved pages)
    → IsApplying l r f v saved pages → IsApplying (record l { stage = at.Apply }) (record r { numbers = new }) g v saved pages
apply_on new e redo shows h =
    let was = are_committed e h in
    Applying refl (record { rest = was.0.rest; log = redo; records = was.0.records; idle = was.0.idle }) (shows was.1)

pub apply_end : {l : Leader} {r : Rooms} {f g : ℕ → Word} {v : ℕ} {saved : Parts} {pages : ℕ → Option (ℕ → ℕ)}
    (new : InUse) → l.stage ≡ at.Apply → new.work.stage ≡ logs.Rest
    → (ShowSaved r f v saved pages → ShowSaved (record r { numbers = new }) g v saved pages)
    → IsApplying l r f v saved pages → IsApplying (record l { stage = at.Resume }) (record r { numbers = new }) g v saved pages
apply_end new e rest shows h =
    let was = are_committed e h in
    Applied refl (record { shows = shows was.1; committer = was.0.rest; records = was.0.records; idle = was.0.idle; log = rest })
