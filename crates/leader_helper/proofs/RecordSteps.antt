-- How far records come as the leader goes from one object to the next.
use Rattle.std.specs.Prelude.{◌≡◌, ◌≢◌, ◌⊎◌, ◌+◌, ◌<◌, ◌≤◌, ℕ, Bool, true, false, Option}
use Rattle.std.proofs.Common.{◌∙◌, arith, inl, inr, refl, sym}
use Rattle.std.proofs.lemmas.Bool.{cases_eq, cases_lt}
use Rattle.kobj_codec.specs.declared.obj.Obj.{Obj}
use Rattle.object_root.specs.declared.stage.Phase.TheVariants as phases
use Rattle.object_root.specs.declared.stage.Stage.{Stage as RecordStage}
use Rattle.object_root.specs.declared.stage.Stage.TheVariants.{Idle, Stored, Flushed, TagStored, TagFlushed}
use Rattle.object_root.specs.Steps.{StoresTag, Writes}
use Rattle.leader_helper.specs.declared.stage.Stage.{Stage}
use Rattle.leader_helper.specs.Stages.{HasCome, HasTag, IsDoneFrom, IsIdle, IsRecordDone, IsStored, IsTagged, IsWritten}

-- of an object that changed the record comes on, and of the others it stays
pub done_on : (b : Bool) (id : ℕ) (at to : Stage) (old new : RecordStage) (saved now : Option Obj)
    → (b ≡ true → HasCome at id old → HasCome to id new) → (b ≡ false → new ≡ old)
    → IsRecordDone at b id old saved now → IsRecordDone to b id new saved now
done_on true id at to old new saved now on same h = on refl h
done_on false id at to old new saved now on same h = (same refl ∙ h.0, h.1)

-- From one place to a later one, between which no object changed.
pub to_next : {first at id : ℕ} {stage : RecordStage} {todo begun done : RecordStage → Type 0} → first ≤ at
    → (first ≤ id → id < at → ⊥) → IsDoneFrom first todo begun done id stage
    → IsDoneFrom at todo begun done id stage
to_next {first} {at} {id} {stage} {todo} {begun} {done} behind skipped h = record {
  before = λ lt. elim (cases_lt id first) [
    | inl earlier ↦ h.before earlier
    | inr later ↦ absurd (skipped later lt)
  ];
  here = λ e. elim (cases_eq first at) [
    | inl same ↦ h.here (e ∙ sym same)
    | inr other ↦ inl (h.behind (omega (arith, e, other, behind)))
  ];
  behind = λ lt. h.behind (omega (arith, lt, behind));
}

-- behind the last of them all are done
pub past : {first id : ℕ} {stage : RecordStage} {todo begun done : RecordStage → Type 0} → (first ≤ id → ⊥)
    → IsDoneFrom first todo begun done id stage → done stage
past {first} {id} {stage} {todo} {begun} {done} none h = elim (cases_lt id first) [
  | inl earlier ↦ h.before earlier
  | inr later ↦ absurd (none later)
]

-- at the first none is
pub at_first : {id : ℕ} {stage : RecordStage} {todo begun done : RecordStage → Type 0} → todo stage
    → IsDoneFrom 0 todo begun done id stage
at_first {id} {stage} {todo} {begun} {done} h = record {
  before = λ lt. absurd (omega (arith, lt));
  here = λ e. inl h;
  behind = λ lt. h;
}

-- what is done to an object has begun, or is at its end

pub begins : {id : ℕ} {stage : RecordStage} {todo begun done : RecordStage → Type 0} → begun stage
    → IsDoneFrom id todo begun done id stage
begins {id} {stage} {todo} {begun} {done} h = record {
  before = λ lt. absurd (omega (arith, lt));
  here = λ e. inr h;
  behind = λ lt. absurd (omega (arith, lt));
}

pub ends : {id : ℕ} {stage : RecordStage} {todo begun done : RecordStage → Type 0} → done stage
    → IsDoneFrom (id + 1) todo begun done id stage
ends {id} {stage} {todo} {begun} {done} h = record {
  before = λ lt. h;
  here = λ e. absurd (omega (arith, e));
  behind = λ lt. absurd (omega (arith, lt));
}

-- the others are as they were
pub passes : {at id : ℕ} {stage : RecordStage} {todo begun done : RecordStage → Type 0} → id ≢ at
    → IsDoneFrom at todo begun done id stage → IsDoneFrom (at + 1) todo begun done id stage
passes {at} {id} {stage} {todo} {begun} {done} other h = record {
  before = λ lt. h.before (omega (arith, lt, other));
  here = λ e. inl (h.behind (omega (arith, e)));
  behind = λ lt. h.behind (omega (arith, lt));
}

-- at its place an object is still to be done, or has begun
pub at_place : {id : ℕ} {stage : RecordStage} {todo begun done : RecordStage → Type 0}
    → IsDoneFrom id todo begun done id stage → todo stage ⊎ begun stage
at_place h = h.here refl

-- a step of a record

pub writes_more : (old new : RecordStage) (last : Bool) → IsIdle old ⊎ IsStored old
    → Writes phases.Records old new last → last ≡ false → IsIdle old × IsStored new
writes_more Idle new last at step more = (refl, (step.0, step.1))
writes_more (Stored slot) new last at step more = let e : last ≡ true = step.1 in absurd (cc)
writes_more (Flushed slot) new last (inl e) step more = absurd (cc)
writes_more (Flushed slot) new last (inr s) step more = let e = s.1 in absurd (cc)
writes_more (TagStored slot) new last (inl e) step more = absurd (cc)
writes_more (TagStored slot) new last (inr s) step more = let e = s.1 in absurd (cc)
writes_more (TagFlushed slot) new last (inl e) step more = absurd (cc)
writes_more (TagFlushed slot) new last (inr s) step more = let e = s.1 in absurd (cc)

pub writes_last : (old new : RecordStage) (last : Bool) → IsIdle old ⊎ IsStored old
    → Writes phases.Records old new last → last ≡ true → IsStored old × IsWritten new
writes_last Idle new last at step is = let e : last ≡ false = step.2 in absurd (cc)
writes_last (Stored slot) new last at step is = ((slot, refl), (slot, step.0))
writes_last (Flushed slot) new last (inl e) step is = absurd (cc)
writes_last (Flushed slot) new last (inr s) step is = let e = s.1 in absurd (cc)
writes_last (TagStored slot) new last (inl e) step is = absurd (cc)
writes_last (TagStored slot) new last (inr s) step is = let e = s.1 in absurd (cc)
writes_last (TagFlushed slot) new last (inl e) step is = absurd (cc)
writes_last (TagFlushed slot) new last (inr s) step is = let e = s.1 in absurd (cc)

-- a step of a tag

pub tags_more : (old new : RecordStage) (last : Bool) → IsWritten old ⊎ HasTag old
    → StoresTag phases.Tags old new last → last ≡ false → IsWritten old × HasTag new
tags_more (Flushed slot) new last at step more = ((slot, refl), (slot, step.0))
tags_more (TagStored slot) new last at step more = let e : last ≡ true = step.1 in absurd (cc)
tags_more Idle new last (inl s) step more = let e = s.1 in absurd (cc)
tags_more Idle new last (inr s) step more = let e = s.1 in absurd (cc)
tags_more (Stored slot) new last (inl s) step more = let e = s.1 in absurd (cc)
tags_more (Stored slot) new last (inr s) step more = let e = s.1 in absurd (cc)
tags_more (TagFlushed slot) new last (inl s) step more = let e = s.1 in absurd (cc)
tags_more (TagFlushed slot) new last (inr s) step more = let e = s.1 in absurd (cc)

pub tags_last : (old new : RecordStage) (last : Bool) → IsWritten old ⊎ HasTag old
    → StoresTag phases.Tags old new last → last ≡ true → HasTag old × IsTagged new
tags_last (Flushed slot) new last at step is = let e : last ≡ false = step.1 in absurd (cc)
tags_last (TagStored slot) new last at step is = ((slot, refl), (slot, step.0))
tags_last Idle new last (inl s) step is = let e = s.1 in absurd (cc)
tags_last Idle new last (inr s) step is = let e = s.1 in absurd (cc)
tags_last (Stored slot) new last (inl s) step is = let e = s.1 in absurd (cc)
tags_last (Stored slot) new last (inr s) step is = let e = s.1 in absurd (cc)
tags_last (TagFlushed slot) new last (inl s) step is = let e = s.1 in absurd (cc)
tags_last (TagFlushed slot) new last (inr s) step is = let e = s.1 in absurd (cc)
