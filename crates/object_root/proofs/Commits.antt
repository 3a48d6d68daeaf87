-- Where all that turns write has its tag.
use Rattle.std.proofs.Common.{inl, inr, ℕ, ◌<◌, List, Option, subst, sym}
use Rattle.std.specs.Prelude.{All, Any}
use Rattle.sls_base.specs.declared.limits.TheConstants.{OBJECTS}
use Rattle.kobj_codec.specs.declared.obj.Obj.{Obj}
use Rattle.object_root.specs.declared.stage.Stage.{Stage}
use Rattle.object_root.specs.declared.stage.Stage.TheVariants.{Idle, Stored, Flushed, TagStored, TagFlushed}
use Rattle.object_root.specs.declared.play.Turn.{Turn}
use Rattle.object_root.specs.declared.play.Turn.TheVariants as turns
use Rattle.object_root.specs.Room.{Room, stage_at, AllIdle}
use Rattle.object_root.specs.Shows.{IsSettled, AllSettled}
use Rattle.object_root.specs.Turns.{IsWriteOf, IsDone, HasTag, AreAllIdle, WritesAll}

one_done : (r : Room) (id : ℕ) (turn : Turn) → id < OBJECTS → IsWriteOf id turn → HasTag r turn → IsDone (stage_at r id)
one_done r id (turns.Write i words) lt is has =
    subst (λ (k : ℕ). IsDone (stage_at r k)) is (has (subst (λ (k : ℕ). k < OBJECTS) (sym is) lt))
one_done r id (turns.Tag i) lt is has = absurd is
one_done r id turns.Fence lt is has = absurd is
one_done r id turns.Clear lt is has = absurd is
one_done r id (turns.FlushBy core at) lt is has = absurd is
one_done r id (turns.FenceBy core) lt is has = absurd is
one_done r id (turns.WriteBack at) lt is has = absurd is
one_done r id turns.Cut lt is has = absurd is

all_done : (r : Room) (id : ℕ) (list : List Turn) → id < OBJECTS → Any (IsWriteOf id) list → All (HasTag r) list
    → IsDone (stage_at r id)
all_done r id list lt any all =
    one_done r id any.1 lt any.4 (subst (λ (t : Turn). HasTag r t) any.3 (all any.0 any.1 any.2))

settled_of : (stage : Stage) (saved next : Option Obj) → IsDone stage → IsSettled stage saved next
settled_of Idle saved next h = absurd h
settled_of (Stored slot) saved next h = absurd h
settled_of (Flushed slot) saved next h = absurd h
settled_of (TagStored slot) saved next h = absurd h
settled_of (TagFlushed slot) saved next h = tt

pub all_settled : (old new : Room) (list : List Turn) (saved next : ℕ → Option Obj) → AllIdle old
    → AreAllIdle list old new → WritesAll list saved next
    → All (HasTag new) list → AllSettled new saved next
all_settled old new list saved next idle stay writes tags = λ id lt.
    elim (writes id lt) [
      | inl any ↦ settled_of (stage_at new id) (saved id) (next id) (all_done new id list lt any tags)
      | inr off ↦ subst (λ (s : Stage). IsSettled s (saved id) (next id)) (sym (stay id off.0 (idle id))) (inl off.1)
    ]
