-- When durable words stand for objects at a version. This is the format alone: it knows no step.
use Rattle.std.specs.Prelude.{◌≡◌, ◌⊎◌, ℕ, ◌+◌, ◌<◌, ◌≤◌, Option, Some, None}
use Rattle.sls_base.specs.declared.limits.TheConstants.{OBJECTS}
use Rattle.pmem_layout.specs.Places.{object_tag_at, object_slot_at}
use Rattle.kobj_codec.specs.declared.obj.Obj.{Obj}
use Rattle.kobj_codec.specs.Objects.{IsObj}
use Rattle.kobj_codec.specs.Records.{IsRecord}

-- The slot has the greatest of its object's tags that are at most v.
pub record IsChosen (words : ℕ → ℕ) (v id slot : ℕ) : Type 0 where
  pub other : ℕ
  pub slots : slot + other ≡ 1
  pub tagged : 1 ≤ words (object_tag_at id slot)
  pub not_above : words (object_tag_at id slot) ≤ v + 1
  pub greatest : (words (object_tag_at id other) < words (object_tag_at id slot))
      ⊎ (v + 1 < words (object_tag_at id other))

-- The chosen slot has the object's record.
pub record HasObject (words : ℕ → ℕ) (v id : ℕ) (o : Obj) : Type 0 where
  pub slot : ℕ
  pub chosen : IsChosen words v id slot
  pub in_range : IsObj o
  pub record_is : IsRecord (λ j. words (object_slot_at id slot + j)) o

-- Where there is no object of this number, nothing is said of its words.
abbrev pub ObjectStands : (ℕ → ℕ) → ℕ → ℕ → Option Obj → Type 0
ObjectStands words v id None = Unit {0}
ObjectStands words v id (Some o) = HasObject words v id o

-- The words stand for these objects at version v.
pub record ObjectsStand (words : ℕ → ℕ) (v : ℕ) (objects : ℕ → Option Obj) : Type 0 where
  pub each : (id : ℕ) → id < OBJECTS → ObjectStands words v id (objects id)
