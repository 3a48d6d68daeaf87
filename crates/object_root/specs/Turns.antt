-- What the turns between two commits write.
use Rattle.std.specs.Prelude.{◌≡◌, ◌≢◌, ◌⊎◌, ℕ, ◌+◌, ◌<◌, Bool, true, false, Option, List, [], ◌∷◌, ◌++◌, All, Any, slice_index}
use Rattle.sls_base.specs.declared.limits.TheConstants.{CORES, LAST_VERSION, LINE_WORDS, OBJECTS, WORDS}
use Rattle.pmem_model.specs.Words.{Word, is_within, flushes, fences, writes_back, cuts}
use Rattle.pmem_layout.specs.Places.{line_at}
use Rattle.kobj_codec.specs.declared.obj.Obj.{Obj}
use Rattle.object_root.specs.declared.stage.Stage.{Stage}
use Rattle.object_root.specs.declared.stage.Stage.TheVariants as stages
use Rattle.object_root.specs.declared.stage.Stage.TheVariants.{Idle}
use Rattle.object_root.specs.declared.stage.Phase.TheVariants.{Clearing, Tagged}
use Rattle.sls_base.specs.declared.fixed.TheConstants.{LEADER}
use Rattle.object_root.specs.declared.play.Turn.{Turn}
use Rattle.object_root.specs.declared.play.Turn.TheVariants as turns
use Rattle.object_root.specs.Room.{Room, stage_at, KeepsOthers, Passes}
use Rattle.object_root.specs.Steps.{Writes, StoresTag, fenced, steps_left}
use Rattle.object_root.specs.Shows.{IsRecordOf, ObjectsShow}

-- What a turn makes of the room and of the words.
abbrev pub Happens : Turn → Room → (ℕ → Word) → Room → (ℕ → Word) → Type 0
Happens (turns.Write id words) r f p g = id < OBJECTS
    → KeepsOthers r p id × ((last : Bool) × Writes r.phase (stage_at r id) (stage_at p id) last)
Happens (turns.Tag id) r f p g = id < OBJECTS
    → KeepsOthers r p id × ((last : Bool) × StoresTag r.phase (stage_at r id) (stage_at p id) last)
Happens turns.Fence r f p g = Passes r p (fenced r.phase) × ((i : ℕ) → g i ≡ fences LEADER f i)
Happens turns.Clear r f p g = (steps_left p.phase < steps_left r.phase) ⊎ (steps_left r.phase ≡ 0)
Happens (turns.FlushBy core at) r f p g = core < CORES → at < WORDS
    → (p ≡ r) × ((i : ℕ) → g i ≡ flushes core (line_at at) LINE_WORDS f i)
Happens (turns.FenceBy core) r f p g = core < CORES → (p ≡ r) × ((i : ℕ) → g i ≡ fences core f i)
Happens (turns.WriteBack at) r f p g = at < WORDS → (p ≡ r) × ((i : ℕ) → g i ≡ writes_back (is_within at 1) f i)
Happens turns.Cut r f p g = (p.phase ≡ Clearing 0) × (p.version ≡ r.version) × ((i : ℕ) → g i ≡ cuts f i)

-- What turns make of them, one after another.
pub data Plays (r : Room) (f : ℕ → Word) : List Turn → Room → (ℕ → Word) → Type 0 where
  unplayed : Plays r f [] r f
  played : {turns : List Turn} {p q : Room} {g h : ℕ → Word} (turn : Turn) → Plays r f turns p g
      → Happens turn p g q h → Plays r f (turns ++ turn ∷ []) q h

-- the words that a turn writes are the record of the object's next content
abbrev pub Fits : (ℕ → Option Obj) → Turn → Type 0
Fits next (turns.Write id words) = IsRecordOf (next id) (slice_index words)
Fits next turn = Unit {0}

-- the turn is about another object, or about none
abbrev pub IsOff : Turn → ℕ → Type 0
IsOff (turns.Write id words) i = i ≢ id
IsOff (turns.Tag id) i = i ≢ id
IsOff turn i = Unit {0}

-- an object that a turn isn't about stays idle
abbrev pub AreIdle : Turn → Room → Room → Type 0
AreIdle turn old new = (i : ℕ) → IsOff turn i → stage_at old i ≡ Idle → stage_at new i ≡ Idle

abbrev pub AreAllIdle : List Turn → Room → Room → Type 0
AreAllIdle turns old new = (i : ℕ) → All (λ turn. IsOff turn i) turns → stage_at old i ≡ Idle → stage_at new i ≡ Idle

-- the turn writes the object
abbrev pub IsWriteOf : ℕ → Turn → Type 0
IsWriteOf id (turns.Write i words) = i ≡ id
IsWriteOf id turn = ⊥

-- each object is written, or none of the turns is about it and it stays as it is
abbrev pub WritesAll : List Turn → (ℕ → Option Obj) → (ℕ → Option Obj) → Type 0
WritesAll turns saved next = (id : ℕ) → id < OBJECTS
    → Any (IsWriteOf id) turns ⊎ (All (λ turn. IsOff turn id) turns × (next id ≡ saved id))

-- an object has its tag, which is flushed
abbrev pub IsDone : Stage → Type 0
IsDone (stages.TagFlushed slot) = Unit {0}
IsDone stage = ⊥

abbrev pub HasTag : Room → Turn → Type 0
HasTag r (turns.Write id words) = id < OBJECTS → IsDone (stage_at r id)
HasTag r turn = Unit {0}

-- The next version can be committed: it isn't past the last one, tags are fenced, and what turns write has its tag.
abbrev pub CanCommit : Room → List Turn → Type 0
CanCommit r list = (r.version < LAST_VERSION) × (r.phase ≡ Tagged) × All (HasTag r) list

-- After the commit what was written is saved, under the next version; without it what was saved still is.
abbrev pub Outcome : Bool → Room → (ℕ → Word) → ℕ → (ℕ → Option Obj) → (ℕ → Option Obj) → (ℕ → Option Obj) → Type 0
Outcome true r f v saved next after = ObjectsShow r f (v + 1) next after
Outcome false r f v saved next after = ObjectsShow r f v saved after
