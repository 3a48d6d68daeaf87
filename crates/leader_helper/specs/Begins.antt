-- What the leader finds when a checkpoint begins.
use Rattle.std.specs.Prelude.{◌≡◌, ◌≢◌, ◌⊎◌, ℕ, ◌<◌, Bool, true, false, Option, Some, None, is_some}
use Rattle.sls_base.specs.declared.limits.TheConstants.{LAST_VERSION, OBJECTS}
use Rattle.kobj_codec.specs.declared.obj.Obj.{Obj}
use Rattle.pmem_layout.specs.declared.number.Number.TheVariants.{Object}
use Rattle.pmem_layout.specs.Numbers.{index_of}
use Rattle.pmem_model.specs.Words.{Word}
use Rattle.durable_state.specs.Parts.{Parts}
use Rattle.version_rooms.specs.declared.rooms.Rooms.{Rooms}
use Rattle.version_rooms.specs.Rest.{AreAtRest}

-- An object is to be written: it has a record, and what is saved of its number is another one, or none.
pub record IsToWrite (now saved : Option Obj) : Type 0 where
  pub obj : Obj
  pub is : now ≡ Some obj
  pub other : saved ≢ Some obj

-- What is found of a record, whether it is to be written: if not, it is the saved one, or there is none.
abbrev pub IsFound : Bool → Option Obj → Option Obj → Type 0
IsFound true now saved = IsToWrite now saved
IsFound false now saved = (now ≡ saved) ⊎ (now ≡ None)

-- A checkpoint may begin: there is one more version, all is at rest, and the numbers in use of what is saved are those of
-- its objects. Cores may still prepare pages.
pub record MayBegin (r : Rooms) (f : ℕ → Word) (v : ℕ) (saved : Parts) (pages : ℕ → Option (ℕ → ℕ)) : Type 0 where
  pub in_range : v < LAST_VERSION
  pub rest : AreAtRest r f v saved pages
  pub used : (id : ℕ) → id < OBJECTS → saved.numbers (index_of (Object id)) ≡ is_some (saved.objects id)
