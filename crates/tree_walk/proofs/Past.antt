-- Behind the last slot there is no object.
use Rattle.std.specs.Prelude.{◌≡◌, ℕ, ◌≤◌, false, length}
use Rattle.std.proofs.Common.{refl, arith, inl, inr}
use Rattle.std.proofs.lemmas.Bool.{cases_Bool}
use Rattle.std.proofs.lemmas.List.{get_or_past}
use Rattle.sls_base.specs.declared.limits.TheConstants.{OBJECTS}
use Rattle.plain_model.specs.Sweep.{is_reached, is_swept_otherwise}
use Rattle.kobj_table.specs.declared.slot.Slot.{Slot}
use Rattle.kobj_table.specs.declared.objects.Objects.{Objects}
use Rattle.kobj_table.specs.Objects.{slot_at, Rest, state_of}

pub past_slots : (o : Objects) (i : ℕ) → length o.slots ≡ OBJECTS → OBJECTS ≤ i → slot_at o i ≡ Slot.Empty
past_slots o i whole past = get_or_past o.slots i Slot.Empty (omega arith)

-- where nothing stands the sweep changes nothing
pub nothing_changes : (o : Objects) (rest : Rest) (i : ℕ) → slot_at o i ≡ Slot.Empty → is_swept_otherwise (state_of o rest) i ≡ false
unfolding state_of
nothing_changes o rest i empty = elim (cases_Bool (is_reached (state_of o rest) i)) [
  | inl reached ↦ rw (reached, empty) refl
  | inr gone ↦ rw (gone, empty) refl
]
