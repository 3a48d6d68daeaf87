-- What is kept of a version that is being written, from one stage of the leader to the next.
use Rattle.std.specs.Prelude.{◌≡◌, ◌≢◌, ◌⊎◌, ◌+◌, ◌<◌, ◌≤◌, ℕ, Bool, true, false, List, Option}
use Rattle.std.proofs.Common.{◌∙◌, ap, arith, inl, inr, refl, subst, sym}
use Rattle.std.proofs.lemmas.Bool.{cases_eq, cases_lt}
use Rattle.sls_base.specs.declared.limits.TheConstants.{OBJECTS, PAGES}
use Rattle.pmem_model.specs.Words.{Word}
use Rattle.kobj_codec.specs.declared.obj.Obj.{Obj}
use Rattle.durable_state.specs.Parts.{Parts}
use Rattle.alloc_journal.specs.declared.journal.Stage.TheVariants as logs
use Rattle.alloc_journal.specs.Sets.{changes}
use Rattle.alloc_journal.specs.Work.{InUse}
use Rattle.object_root.specs.declared.stage.Phase.{Phase}
use Rattle.object_root.specs.declared.stage.Stage.{Stage as RecordStage}
use Rattle.object_root.specs.Room.{KeepsOthers, Passes, Room, stage_at}
use Rattle.object_root.specs.Steps.{StoresTag, Writes, fenced}
use Rattle.page_store.specs.declared.store.PageStore.{PageStore}
use Rattle.page_store.specs.declared.stage.PageStage.{PageStage}
use Rattle.page_store.specs.Known.{Open, Fenced}
use Rattle.page_store.specs.Stages.{flushed, stage_of, IsFlushed, IsSettled}
use Rattle.version_rooms.specs.declared.rooms.Rooms.{Rooms}
use Rattle.version_rooms.specs.Rooms.{Contents, IsAtRest, RoomsShow}
use Rattle.leader_helper.specs.declared.leader.Leader.{Leader}
use Rattle.leader_helper.specs.declared.stage.Stage.{Stage}
use Rattle.leader_helper.specs.declared.stage.Stage.TheVariants as at
use Rattle.leader_helper.specs.First.{IsFirstFrom, IsNoneFrom}
use Rattle.leader_helper.specs.Stages.{HasCome, HasTag, IsIdle, IsRecordDone, IsStored, IsTagged, IsWritten, is_before_commit}
use Rattle.leader_helper.specs.Leads.{Applied, Applying, Before, Behind, is_changed, IsApplying, IsLeading, IsLedFrom, IsLedTo, IsWriting}
use Rattle.leader_helper.specs.Turns.{is_to_flush}
use Rattle.leader_helper.proofs.LogSteps.{IsOn}
use Rattle.leader_helper.proofs.PageSteps.{flushed_flushed, flushed_settled, settled_flushed}
use Rattle.leader_helper.proofs.RecordSteps.{at_first, at_place, begins, done_on, ends, passes, past, tags_last, tags_more, to_next, writes_last, writes_more}

-- Before the commit, and behind it.

not_applying : {l : Leader} {r : Rooms} {f : ℕ → Word} {v : ℕ} {saved : Parts} {pages : ℕ → Option (ℕ → ℕ)}
    → is_before_commit l.stage ≡ true → IsApplying l r f v saved pages → ⊥
not_applying before (Applying stage committed shows) = let e = ap is_before_commit stage in cc
not_applying before (Applied stage rest) = let e = ap is_before_commit stage in cc

pub is_led_to : {l : Leader} {r : Rooms} {f : ℕ → Word} {objects : ℕ → Option Obj} (stage : Stage) → l.stage ≡ stage
    → is_before_commit stage ≡ true → IsLeading l r f objects → IsLedTo l r f
is_led_to stage e before (Before v c same h) = record { version = v; contents = c; writing = h }
is_led_to stage e before (Behind v saved pages h) = absurd (not_applying (ap is_before_commit e ∙ before) h)

pub is_led_from : {l : Leader} {r : Rooms} {f : ℕ → Word} {objects : ℕ → Option Obj} (stage : Stage) → l.stage ≡ stage
    → is_before_commit stage ≡ false → IsLeading l r f objects → IsLedFrom l r f
is_led_from stage e behind (Before v c same h) =
    let set = h.before in let clear = ap is_before_commit e ∙ behind in absurd (cc)
is_led_from stage e behind (Behind v saved pages h) =
    record { version = v; saved = saved; pages = pages; applying = h }

pub none_applying : {l : Leader} {r : Rooms} {f : ℕ → Word} {v : ℕ} {saved : Parts} {pages : ℕ → Option (ℕ → ℕ)}
    (stage : Stage) → l.stage ≡ stage → is_before_commit stage ≡ true → IsApplying l r f v saved pages → ⊥
none_applying stage e before h = not_applying (ap is_before_commit e ∙ before) h

pub none_writing : {l : Leader} {r : Rooms} {f : ℕ → Word} {v : ℕ} {c : Contents}
    (stage : Stage) → l.stage ≡ stage → is_before_commit stage ≡ false → IsWriting l r f v c → ⊥
none_writing stage e behind h = let set = h.before in let clear = ap is_before_commit e ∙ behind in cc

-- it is said of the stage by its name
pub at_stage : {l : Leader} {r : Rooms} {f : ℕ → Word} {v : ℕ} {c : Contents} (stage : Stage) → l.stage ≡ stage
    → IsWriting l r f v c → IsWriting (record l { stage = stage }) r f v c
at_stage {l} {r} {f} {v} {c} stage e h = subst (λ (s : Stage). IsWriting (record l { stage = s }) r f v c) e h

-- no commit is under way before its stage
pub at_rest : {l : Leader} {r : Rooms} {f : ℕ → Word} {v : ℕ} {c : Contents} (stage : Stage) → l.stage ≡ stage
    → stage ≢ at.Commit → IsWriting l r f v c → IsAtRest r
at_rest stage e other h = h.rest (λ same. other (sym e ∙ same))

-- Pages.

pub page_flushed : {l : Leader} {r : Rooms} {f g : ℕ → Word} {v : ℕ} {c : Contents} (pages : PageStore)
    (first page : ℕ) → l.stage ≡ at.Pages first → IsFirstFrom first PAGES (is_to_flush r) page
    → stage_of pages page ≡ flushed (stage_of r.pages page)
    → ((i : ℕ) → i ≢ page → stage_of pages i ≡ stage_of r.pages i)
    → (RoomsShow r f v c Open → RoomsShow (record r { pages = pages }) g v c Open) → IsWriting l r f v c
    → IsWriting (record l { stage = at.Pages (page + 1) }) (record r { pages = pages }) g v c
page_flushed {l} {r} {f} {g} {v} {c} pages first page e next here others shows h =
    let w = at_stage (at.Pages first) e h in
    let settled : IsSettled (stage_of pages page) =
    subst (λ (s : PageStage). IsSettled s) (sym here) (flushed_settled _ (w.pages page next.inside).0) in
    let flush : IsFlushed (stage_of pages page) =
    subst (λ (s : PageStage). IsFlushed s) (sym here) (flushed_flushed _ next.found) in
    record {
      before = refl;
      in_range = w.in_range;
      shows = shows w.shows;
      rest = λ other. w.rest (λ same. cc);
      pages = λ i lt. elim (cases_eq i page) [
        | inl same ↦ subst (λ (k : ℕ). IsSettled (stage_of pages k) × (k < page + 1 → IsFlushed (stage_of pages k))) (sym same) (settled, λ below. flush)
        | inr other ↦ subst (λ (s : PageStage). IsSettled s × (i < page + 1 → IsFlushed s)) (sym (others i other)) (
          (w.pages i lt).0,
          λ below. elim (cases_lt i first) [
            | inl earlier ↦ (w.pages i lt).1 earlier
            | inr later ↦ settled_flushed _ (next.skipped i later (omega (arith, below, other))) (w.pages i lt).0
          ],
        )
      ];
      phase = w.phase;
      records = w.records;
      log = w.log;
    }

pub pages_fenced : {l : Leader} {r : Rooms} {f g : ℕ → Word} {v : ℕ} {c : Contents} (first : ℕ)
    → l.stage ≡ at.Pages first → IsNoneFrom first PAGES (is_to_flush r)
    → (RoomsShow r f v c Open → RoomsShow r g v c Fenced) → IsWriting l r f v c
    → IsWriting (record l { stage = at.Records 0 }) r g v c
pages_fenced {l} {r} {f} {g} {v} {c} first e none shows h =
    let w = at_stage (at.Pages first) e h in
    record {
      before = refl;
      in_range = w.in_range;
      shows = shows w.shows;
      rest = λ other. w.rest (λ same. cc);
      pages = λ i lt. elim (cases_lt i first) [
        | inl earlier ↦ (w.pages i lt).1 earlier
        | inr later ↦ settled_flushed _ (none i later lt) (w.pages i lt).0
      ];
      phase = w.phase;
      records = λ id lt. done_on (is_changed l id) id (at.Pages first) (at.Records 0) _ _ _ _ (λ set idle. at_first idle) (λ clear. refl) (w.records id lt);
      log = w.log;
    }

-- Records and tags.

changed_done : (b : Bool) (to : Stage) (id : ℕ) (stage : RecordStage) (saved now : Option Obj) → b ≡ true
    → HasCome to id stage → IsRecordDone to b id stage saved now
changed_done true to id stage saved now set h = h
changed_done false to id stage saved now set h = absurd (cc)

pub of_changed : (b : Bool) (from : Stage) (id : ℕ) (stage : RecordStage) (saved now : Option Obj) → b ≡ true
    → IsRecordDone from b id stage saved now → HasCome from id stage
of_changed true from id stage saved now set h = h
of_changed false from id stage saved now set h = absurd (cc)

none_between : {first many one : ℕ} {so : ℕ → Bool} → IsFirstFrom first many so one → (i : ℕ) → so i ≡ true
    → first ≤ i → i < one → ⊥
none_between next i set later earlier = let clear = next.skipped i later earlier in cc

pub none_behind : {first many : ℕ} {so : ℕ → Bool} → IsNoneFrom first many so → (i : ℕ) → i < many → so i ≡ true
    → first ≤ i → ⊥
none_behind none i inside set later = let clear = none i later inside in cc

-- the object that is taken up has come to a stage, and the others are where they were
on_one : (l : Leader) (old new : Room) (from to : Stage) (c : Contents) (id : ℕ) → is_changed l id ≡ true
    → KeepsOthers old new id → HasCome to id (stage_at new id)
    → ((i : ℕ) → i ≢ id → is_changed l i ≡ true → HasCome from i (stage_at old i) → HasCome to i (stage_at old i))
    → ((i : ℕ) → i < OBJECTS
    → IsRecordDone from (is_changed l i) i (stage_at old i) (c.saved.objects i) (c.objects i))
    → (i : ℕ) → i < OBJECTS → IsRecordDone to (is_changed l i) i (stage_at new i) (c.saved.objects i) (c.objects i)
on_one l old new from to c id set others here on h i lt = elim (cases_eq i id) [
  | inl same ↦ subst (λ (k : ℕ). IsRecordDone to (is_changed l k) k (stage_at new k) (c.saved.objects k) (c.objects k)) (sym same) (changed_done (is_changed l id) to id _ _ _ set here)
  | inr other ↦ done_on (is_changed l i) i from to (stage_at old i) (stage_at new i) _ _
      (λ is was. subst (λ (s : RecordStage). HasCome to i s) (sym (others.others i other)) (on i other is was))
      (λ clear. others.others i other) (h i lt)
]

pub record_stored : {l : Leader} {r : Rooms} {f g : ℕ → Word} {v : ℕ} {c : Contents} (roots : Room) (first id : ℕ)
    → l.stage ≡ at.Records first → IsFirstFrom first OBJECTS (is_changed l) id → IsStored (stage_at roots id)
    → KeepsOthers r.roots roots id
    → (RoomsShow r f v c Fenced → RoomsShow (record r { roots = roots }) g v c Fenced) → IsWriting l r f v c
    → IsWriting (record l { stage = at.Records id }) (record r { roots = roots }) g v c
record_stored {l} {r} {f} {g} {v} {c} roots first id e next here others shows h =
    let w = at_stage (at.Records first) e h in
    record {
      before = refl;
      in_range = w.in_range;
      shows = shows w.shows;
      rest = λ other. w.rest (λ same. cc);
      pages = w.pages;
      phase = others.phase ∙ w.phase;
      records = on_one l r.roots roots (at.Records first) (at.Records id) c id next.found others (begins here)
          (λ i other set was. to_next next.from (none_between next i set) was) w.records;
      log = w.log;
    }

pub record_written : {l : Leader} {r : Rooms} {f g : ℕ → Word} {v : ℕ} {c : Contents} (roots : Room) (first id : ℕ)
    → l.stage ≡ at.Records first → IsFirstFrom first OBJECTS (is_changed l) id → IsWritten (stage_at roots id)
    → KeepsOthers r.roots roots id
    → (RoomsShow r f v c Fenced → RoomsShow (record r { roots = roots }) g v c Fenced) → IsWriting l r f v c
    → IsWriting (record l { stage = at.Records (id + 1) }) (record r { roots = roots }) g v c
record_written {l} {r} {f} {g} {v} {c} roots first id e next here others shows h =
    let w = at_stage (at.Records first) e h in
    record {
      before = refl;
      in_range = w.in_range;
      shows = shows w.shows;
      rest = λ other. w.rest (λ same. cc);
      pages = w.pages;
      phase = others.phase ∙ w.phase;
      records = on_one l r.roots roots (at.Records first) (at.Records (id + 1)) c id next.found others (ends here)
          (λ i other set was. passes other (to_next next.from (none_between next i set) was)) w.records;
      log = w.log;
    }

pub log_begun : {l : Leader} {r : Rooms} {f : ℕ → Word} {v : ℕ} {c : Contents} (first : ℕ)
    → l.stage ≡ at.Records first → IsNoneFrom first OBJECTS (is_changed l) → IsWriting l r f v c
    → IsWriting (record l { stage = at.Log }) r f v c
log_begun {l} {r} {f} {v} {c} first e none h =
    let w = at_stage (at.Records first) e h in
    record {
      before = refl;
      in_range = w.in_range;
      shows = w.shows;
      rest = λ other. w.rest (λ same. cc);
      pages = w.pages;
      phase = w.phase;
      records = λ id lt. done_on (is_changed l id) id (at.Records first) at.Log _ _ _ _ (λ set was. past (none_behind none id lt set) was) (λ clear. refl) (w.records id lt);
      log = inl w.log;
    }

pub tag_stored : {l : Leader} {r : Rooms} {f g : ℕ → Word} {v : ℕ} {c : Contents} (roots : Room) (first id : ℕ)
    → l.stage ≡ at.Tags first → IsFirstFrom first OBJECTS (is_changed l) id → HasTag (stage_at roots id)
    → KeepsOthers r.roots roots id
    → (RoomsShow r f v c Fenced → RoomsShow (record r { roots = roots }) g v c Fenced) → IsWriting l r f v c
    → IsWriting (record l { stage = at.Tags id }) (record r { roots = roots }) g v c
tag_stored {l} {r} {f} {g} {v} {c} roots first id e next here others shows h =
    let w = at_stage (at.Tags first) e h in
    record {
      before = refl;
      in_range = w.in_range;
      shows = shows w.shows;
      rest = λ other. w.rest (λ same. cc);
      pages = w.pages;
      phase = others.phase ∙ w.phase;
      records = on_one l r.roots roots (at.Tags first) (at.Tags id) c id next.found others (begins here)
          (λ i other set was. to_next next.from (none_between next i set) was) w.records;
      log = w.log;
    }

pub tag_flushed : {l : Leader} {r : Rooms} {f g : ℕ → Word} {v : ℕ} {c : Contents} (roots : Room) (first id : ℕ)
    → l.stage ≡ at.Tags first → IsFirstFrom first OBJECTS (is_changed l) id → IsTagged (stage_at roots id)
    → KeepsOthers r.roots roots id
    → (RoomsShow r f v c Fenced → RoomsShow (record r { roots = roots }) g v c Fenced) → IsWriting l r f v c
    → IsWriting (record l { stage = at.Tags (id + 1) }) (record r { roots = roots }) g v c
tag_flushed {l} {r} {f} {g} {v} {c} roots first id e next here others shows h =
    let w = at_stage (at.Tags first) e h in
    record {
      before = refl;
      in_range = w.in_range;
      shows = shows w.shows;
      rest = λ other. w.rest (λ same. cc);
      pages = w.pages;
      phase = others.phase ∙ w.phase;
      records = on_one l r.roots roots (at.Tags first) (at.Tags (id + 1)) c id next.found others (ends here)
          (λ i other set was. passes other (to_next next.from (none_between next i set) was)) w.records;
      log = w.log;
    }

-- What a step did to the object that is taken up.

record_now : {l : Leader} {r : Rooms} {f : ℕ → Word} {v : ℕ} {c : Contents} (first id : ℕ)
    → l.stage ≡ at.Records first → IsFirstFrom first OBJECTS (is_changed l) id → IsWriting l r f v c
    → IsIdle (stage_at r.roots id) ⊎ IsStored (stage_at r.roots id)
record_now {l} {r} {f} {v} {c} first id e next h =
    let w = at_stage (at.Records first) e h in
    at_place (to_next next.from (λ later earlier. absurd (omega (arith, earlier)))
    (of_changed (is_changed l id) (at.Records first) id _ _ _ next.found (w.records id next.inside)))

pub record_more : {l : Leader} {r : Rooms} {f : ℕ → Word} {v : ℕ} {c : Contents} (roots : Room) (first id : ℕ)
    (last : Bool) → l.stage ≡ at.Records first → IsFirstFrom first OBJECTS (is_changed l) id → IsWriting l r f v c
    → Writes r.roots.phase (stage_at r.roots id) (stage_at roots id) last → last ≡ false
    → IsIdle (stage_at r.roots id) × IsStored (stage_at roots id)
record_more {l} {r} {f} {v} {c} roots first id last e next h step is =
    let w = at_stage (at.Records first) e h in
    writes_more (stage_at r.roots id) (stage_at roots id) last (record_now first id e next h)
    (subst (λ (p : Phase). Writes p (stage_at r.roots id) (stage_at roots id) last) w.phase step) is

pub record_last : {l : Leader} {r : Rooms} {f : ℕ → Word} {v : ℕ} {c : Contents} (roots : Room) (first id : ℕ)
    (last : Bool) → l.stage ≡ at.Records first → IsFirstFrom first OBJECTS (is_changed l) id → IsWriting l r f v c
    → Writes r.roots.phase (stage_at r.roots id) (stage_at roots id) last → last ≡ true
    → IsStored (stage_at r.roots id) × IsWritten (stage_at roots id)
record_last {l} {r} {f} {v} {c} roots first id last e next h step is =
    let w = at_stage (at.Records first) e h in
    writes_last (stage_at r.roots id) (stage_at roots id) last (record_now first id e next h)
    (subst (λ (p : Phase). Writes p (stage_at r.roots id) (stage_at roots id) last) w.phase step) is

tag_now : {l : Leader} {r : Rooms} {f : ℕ → Word} {v : ℕ} {c : Contents} (first id : ℕ)
    → l.stage ≡ at.Tags first → IsFirstFrom first OBJECTS (is_changed l) id → IsWriting l r f v c
    → IsWritten (stage_at r.roots id) ⊎ HasTag (stage_at r.roots id)
tag_now {l} {r} {f} {v} {c} first id e next h =
    let w = at_stage (at.Tags first) e h in
    at_place (to_next next.from (λ later earlier. absurd (omega (arith, earlier)))
    (of_changed (is_changed l id) (at.Tags first) id _ _ _ next.found (w.records id next.inside)))

pub tag_more : {l : Leader} {r : Rooms} {f : ℕ → Word} {v : ℕ} {c : Contents} (roots : Room) (first id : ℕ)
    (last : Bool) → l.stage ≡ at.Tags first → IsFirstFrom first OBJECTS (is_changed l) id → IsWriting l r f v c
    → StoresTag r.roots.phase (stage_at r.roots id) (stage_at roots id) last → last ≡ false
    → IsWritten (stage_at r.roots id) × HasTag (stage_at roots id)
tag_more {l} {r} {f} {v} {c} roots first id last e next h step is =
    let w = at_stage (at.Tags first) e h in
    tags_more (stage_at r.roots id) (stage_at roots id) last (tag_now first id e next h)
    (subst (λ (p : Phase). StoresTag p (stage_at r.roots id) (stage_at roots id) last) w.phase step) is

pub tag_last : {l : Leader} {r : Rooms} {f : ℕ → Word} {v : ℕ} {c : Contents} (roots : Room) (first id : ℕ)
    (last : Bool) → l.stage ≡ at.Tags first → IsFirstFrom first OBJECTS (is_changed l) id → IsWriting l r f v c
    → StoresTag r.roots.phase (stage_at r.roots id) (stage_at roots id) last → last ≡ true
    → HasTag (stage_at r.roots id) × IsTagged (stage_at roots id)
tag_last {l} {r} {f} {v} {c} roots first id last e next h step is =
    let w = at_stage (at.Tags first) e h in
    tags_last (stage_at r.roots id) (stage_at roots id) last (tag_now first id e next h)
    (subst (λ (p : Phase). StoresTag p (stage_at r.roots id) (stage_at roots id) last) w.phase step) is

-- Fences of all objects.

pub records_fenced : {l : Leader} {r : Rooms} {f g : ℕ → Word} {v : ℕ} {c : Contents} (roots : Room)
    → l.stage ≡ at.Fence → Passes r.roots roots (fenced r.roots.phase)
    → (RoomsShow r f v c Fenced → RoomsShow (record r { roots = roots }) g v c Fenced) → IsWriting l r f v c
    → IsWriting (record l { stage = at.Tags 0 }) (record r { roots = roots }) g v c
records_fenced {l} {r} {f} {g} {v} {c} roots e passed shows h =
    let w = at_stage at.Fence e h in
    record {
      before = refl;
      in_range = w.in_range;
      shows = shows w.shows;
      rest = λ other. w.rest (λ same. cc);
      pages = w.pages;
      phase = passed.phase ∙ ap fenced w.phase;
      records = λ id lt. done_on (is_changed l id) id at.Fence (at.Tags 0) (stage_at r.roots id) (stage_at roots id) _ _
          (λ set was. at_first (subst (λ (s : RecordStage). IsWritten s) (sym (passed.stages id)) was)) (λ clear. passed.stages id) (w.records id lt);
      log = w.log;
    }

pub tags_fenced : {l : Leader} {r : Rooms} {f g : ℕ → Word} {v : ℕ} {c : Contents} (roots : Room) (first : ℕ)
    → l.stage ≡ at.Tags first → IsNoneFrom first OBJECTS (is_changed l)
    → Passes r.roots roots (fenced r.roots.phase)
    → (RoomsShow r f v c Fenced → RoomsShow (record r { roots = roots }) g v c Fenced) → IsWriting l r f v c
    → IsWriting (record l { stage = at.Commit }) (record r { roots = roots }) g v c
tags_fenced {l} {r} {f} {g} {v} {c} roots first e none passed shows h =
    let w = at_stage (at.Tags first) e h in
    record {
      before = refl;
      in_range = w.in_range;
      shows = shows w.shows;
      rest = λ other. w.rest (λ same. cc);
      pages = w.pages;
      phase = passed.phase ∙ ap fenced w.phase;
      records = λ id lt. done_on (is_changed l id) id (at.Tags first) at.Commit (stage_at r.roots id) (stage_at roots id) _ _
          (λ set was. subst (λ (s : RecordStage). IsTagged s) (sym (passed.stages id)) (past (none_behind none id lt set) was)) (λ clear. passed.stages id) (w.records id lt);
      log = w.log;
    }

-- The log.

pub log_stored : {l : Leader} {r : Rooms} {f g : ℕ → Word} {v : ℕ} {c : Contents} (new : InUse) → l.stage ≡ at.Log
    → IsOn r new → new.work.stage ≢ logs.Logged
    → (RoomsShow r f v c Fenced → RoomsShow (record r { numbers = new }) g v c Fenced) → IsWriting l r f v c
    → IsWriting (record l { stage = at.Log }) (record r { numbers = new }) g v c
log_stored {l} {r} {f} {g} {v} {c} new e on more shows h =
    let w = at_stage at.Log e h in
    record {
      before = refl;
      in_range = w.in_range;
      shows = shows w.shows;
      rest = λ other. w.rest (λ same. cc);
      pages = w.pages;
      phase = w.phase;
      records = w.records;
      log = inr (record { stage = on.logging; logged = on.logged; not_yet = more });
    }

pub log_written : {l : Leader} {r : Rooms} {f g : ℕ → Word} {v : ℕ} {c : Contents} (new : InUse) → l.stage ≡ at.Log
    → IsOn r new → new.work.stage ≡ logs.Logged → new.work.entries ≡ changes new.work.committed new.work.logged
    → (RoomsShow r f v c Fenced → RoomsShow (record r { numbers = new }) g v c Fenced) → IsWriting l r f v c
    → IsWriting (record l { stage = at.Fence }) (record r { numbers = new }) g v c
log_written {l} {r} {f} {g} {v} {c} new e on last entries shows h =
    let w = at_stage at.Log e h in
    record {
      before = refl;
      in_range = w.in_range;
      shows = shows w.shows;
      rest = λ other. w.rest (λ same. cc);
      pages = w.pages;
      phase = w.phase;
      records = w.records;
      log = record {
        stage = last;
        logged = on.logged;
        entries = entries ∙ ap (λ (x : List ℕ). changes new.work.committed x) on.logged;
      };
    }
