-- Capabilities of running groups as plain ones, and a group that gets one.
use Rattle.std.specs.Prelude.{◌≡◌, ℕ, ◌==◌, List, [], ◌∷◌, map, Option, Some, None, option_map, is_none, true, false, position, slice_set, unwrap_or, bit_and}
use Rattle.std.specs.List.{position_or_len}
use Rattle.std.proofs.Common.{refl, ap, sym, ◌∙◌, arith}
use Rattle.std.proofs.lemmas.Bool.{eqb-true}
use Rattle.std.proofs.lemmas.List.{length-map, map-set}
use Rattle.cap_group.specs.declared.cap.Cap.{Cap}
use Rattle.kobj_table.specs.Slots.{capability_of}
use Rattle.plain_state.specs.declared.objects.Capability.{Capability}
use Rattle.plain_state.specs.Objects.{Group}
use Rattle.plain_state.specs.Calls.{free_slot}
use Rattle.plain_state.specs.CallEffects.{with_cap}

abbrev pub caps_of : List (Option Cap) → List (Option Capability)
caps_of caps = map (option_map capability_of) caps

place_free : (caps : List (Option Cap)) → position_or_len is_none (caps_of caps) ≡ position_or_len is_none caps
place_free [] = refl
place_free (None ∷ caps) = refl
place_free (Some c ∷ caps) = let e = place_free caps in omega arith

pub free_caps : (caps : List (Option Cap)) → position is_none (caps_of caps) ≡ position is_none caps
free_caps caps = let l = length-map caps (option_map capability_of) in rw (place_free caps) (rw l refl)

pub lowest : (caps : List (Option Cap)) (free : Option ℕ) (slot : ℕ) → free ≡ position is_none caps → free ≡ Some slot → unwrap_or (free_slot (caps_of caps)) 0 ≡ slot
lowest caps free slot told is = ap (λ (o : Option ℕ). unwrap_or o 0) (free_caps caps ∙ sym told ∙ is)

-- the group with a capability in the lowest free slot
pub with_cap_is : (caps new : List (Option Cap)) (free : Option ℕ) (slot : ℕ) (cap : Cap) → free ≡ position is_none caps → free ≡ Some slot → new ≡ slice_set caps slot (Some cap) →
    Group (caps_of new) ≡ with_cap (caps_of caps) (capability_of cap)
with_cap_is caps new free slot cap told is e =
    ap (λ (l : List (Option Capability)). Group l)
    (ap (λ (l : List (Option Cap)). caps_of l) e ∙ map-set (option_map capability_of) caps slot (Some cap) ∙ ap (λ (n : ℕ). slice_set (caps_of caps) n (Some (capability_of cap))) (sym (lowest caps free slot told is)))

-- where a group isn't full in the plain state, it isn't
pub not_full : (caps : List (Option Cap)) (free : Option ℕ) → free ≡ position is_none caps → is_none (free_slot (caps_of caps)) ≡ false → free ≡ None → ⊥
not_full caps free told some none =
    let f : is_none (free_slot (caps_of caps)) ≡ true = rw (free_caps caps ∙ sym told ∙ none) refl in cc

-- rights that are all held are those asked for
pub all_held : (had wanted : ℕ) → (bit_and had wanted == wanted) ≡ true → bit_and had wanted ≡ wanted
all_held had wanted e = eqb-true (bit_and had wanted) wanted e
