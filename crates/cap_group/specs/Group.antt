-- The slots of a group.
use Rattle.std.specs.Prelude.{◌≡◌, ◌≢◌, ℕ, ◌<◌, Option, None, IsSome, IfSome, slice_get}
use Rattle.std.specs.Option.{option_and_then}
use Rattle.sls_base.specs.declared.limits.TheConstants.{GROUP_SLOTS}
use Rattle.cap_group.specs.declared.cap.Cap.{Cap}
use Rattle.cap_group.specs.declared.group.Group.{Group}
use Rattle.cap_group.specs.Cap.{IsCap}

-- what a slot holds; behind the last slot there is nothing
abbrev pub cap_at : Group → ℕ → Option Cap
cap_at group slot = option_and_then (λ held. held) (slice_get group.slots slot)

-- Each capability in it is in form.
abbrev pub IsGroup : Group → Type 0
IsGroup group = (k : ℕ) → IfSome (cap_at group k) IsCap

-- All slots are taken.
abbrev pub IsFull : Group → Type 0
IsFull group = (k : ℕ) → k < GROUP_SLOTS → IsSome (cap_at group k)

-- The slot is empty, and each one below it is taken.
pub record IsLowestFree (group : Group) (slot : ℕ) : Type 0 where
  pub there : slot < GROUP_SLOTS
  pub free : cap_at group slot ≡ None
  pub lowest : (k : ℕ) → k < slot → IsSome (cap_at group k)

-- The slot now holds this, and all others hold what they held.
pub record ChangesSlot (old new : Group) (slot : ℕ) (held : Option Cap) : Type 0 where
  pub changed : cap_at new slot ≡ held
  pub others : (k : ℕ) → k ≢ slot → cap_at new k ≡ cap_at old k
