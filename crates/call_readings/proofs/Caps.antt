-- Capabilities of a group as the plain machine has them.
use Rattle.std.specs.Prelude.{◌≡◌, ℕ, zero, suc, List, [], ◌∷◌, map, Option, Some, None, option_map, is_none, position, slice_get, slice_index_or, Bool, true, false, not, is_some}
use Rattle.std.specs.Option.{option_and_then}
use Rattle.std.specs.List.{position_or_len}
use Rattle.std.proofs.Common.{refl, arith}
use Rattle.std.proofs.lemmas.List.{length-map}
use Rattle.cap_group.specs.declared.cap.Cap.{Cap}
use Rattle.plain_state.specs.declared.objects.Capability.{Capability}
use Rattle.kobj_table.specs.Slots.{capability_of}

-- the slots as the plain machine has them
abbrev pub plain_slots : List (Option Cap) → List (Option Capability)
plain_slots slots = map (option_map capability_of) slots

pub found_cap : (slots : List (Option Cap)) (k : ℕ)
    → option_map capability_of (option_and_then (λ held. held) (slice_get slots k)) ≡ slice_index_or (plain_slots slots) k None
found_cap [] k = refl
found_cap (None ∷ slots) zero = refl
found_cap (Some cap ∷ slots) zero = refl
found_cap (slot ∷ slots) (suc k) = found_cap slots k

place_of_free : (slots : List (Option Cap)) → position_or_len is_none (plain_slots slots) ≡ position_or_len is_none slots
place_of_free [] = refl
place_of_free (None ∷ slots) = refl
place_of_free (Some cap ∷ slots) = let e = place_of_free slots in omega arith

pub first_free : (slots : List (Option Cap)) → position is_none (plain_slots slots) ≡ position is_none slots
first_free slots = let l = length-map slots (option_map capability_of) in rw (place_of_free slots) (rw l refl)

-- a test that there is nothing, as the code makes it
pub none_by_test : {X : Type 0} → (o : Option X) (b : Bool) → is_some o ≡ not b → b ≡ is_none o
none_by_test None true e = refl
none_by_test None false e = absurd (cc)
none_by_test (Some x) true e = absurd (cc)
none_by_test (Some x) false e = refl

pub none_converted : (o : Option Cap) → is_none (option_map capability_of o) ≡ is_none o
none_converted None = refl
none_converted (Some cap) = refl
