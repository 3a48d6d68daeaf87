-- What is found of a record.
use Rattle.std.specs.Prelude.{◌≡◌, ◌↔◌, IsTrue, Bool, true, false, not, Option, Some}
use Rattle.std.proofs.Common.{refl, sym, ◌∙◌, inl, inr}
use Rattle.kobj_codec.specs.declared.obj.Obj.{Obj}
use Rattle.leader_helper.specs.Begins.{IsFound, IsToWrite}

-- it is to be written exactly where that was found
pub found_told : (found : Bool) (now saved : Option Obj) → IsFound found now saved → IsTrue found ↔ IsToWrite now saved
found_told true now saved is = (λ yes. is, λ writes. refl)
found_told false now saved (inl same) = (λ no. absurd (cc), λ (writes : IsToWrite now saved). absurd (writes.other (sym same ∙ writes.is)))
found_told false now saved (inr none) = (λ no. absurd (cc), λ (writes : IsToWrite now saved). (let e = sym none ∙ writes.is in absurd (cc)))

-- of a record it is found by whether it is saved
pub found_by : (has : Bool) (obj : Obj) (saved : Option Obj) → IsTrue has ↔ (saved ≡ Some obj) → IsFound (not has) (Some obj) saved
found_by true obj saved is = inl (sym (is.0 refl))
found_by false obj saved is = record { obj = obj; is = refl; other = λ same. (let e = is.1 same in absurd (cc)) }
