-- Records that are read from words.
use Rattle.std.proofs.Common.{◌≡◌, ℕ, false, true, Option, None, Some, refl}
use Rattle.std.specs.Prelude.{is_some}
use Rattle.kobj_codec.specs.declared.obj.Obj.{Obj}
use Rattle.object_root.specs.Format.{HasObject, ObjectStands}

-- an object that there is stands in its chosen slot
pub record Standing (left : ℕ → ℕ) (v id : ℕ) (told : Option Obj) : Type 0 where
  pub obj : Obj
  pub is : told ≡ Some obj
  pub has : HasObject left v id obj

pub standing : {left : ℕ → ℕ} {v id : ℕ} (told : Option Obj) → is_some told ≡ true → ObjectStands left v id told → Standing left v id told
standing {left} {v} {id} None there h = absurd (cc)
standing {left} {v} {id} (Some obj) there h = record { obj = obj; is = refl; has = h }

pub no_object : (told : Option Obj) → is_some told ≡ false → told ≡ None
no_object None none = refl
no_object (Some obj) none = absurd (cc)
