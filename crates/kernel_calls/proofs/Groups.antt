-- What calls on groups do.
use Rattle.std.specs.Prelude.{◌≡◌, ℕ, List, [], ◌∷◌, Option, Some, None, option_map, is_none, position, slice_set, unwrap_or}
use Rattle.std.specs.Prelude.{◌<◌, nat_le, false}
use Rattle.std.proofs.lemmas.Bool.{leb-false}
use Rattle.sls_base.specs.declared.limits.TheConstants.{GROUP_SLOTS}
use Rattle.plain_state.specs.Objects as plain
use Rattle.plain_state.specs.Calls.{cap_in}
use Rattle.plain_state.specs.CallRefusals.{no_cap_there}
use Rattle.kernel_calls.proofs.Unrefused.{or_false}
use Rattle.std.proofs.Common.{ap, sym, ◌∙◌}
use Rattle.std.proofs.lemmas.List.{map-set}
use Rattle.sls_base.specs.declared.thread.Thread.{Thread as ThreadRecord}
use Rattle.cap_group.specs.declared.cap.Cap.{Cap}
use Rattle.kobj_table.specs.Slots.{capability_of}
use Rattle.plain_state.specs.declared.objects.Capability.{Capability}
use Rattle.plain_state.specs.Objects.{Object, Group, slots_of}
use Rattle.plain_state.specs.States.{State}
use Rattle.plain_state.specs.Effects.{Effect}
use Rattle.plain_state.specs.Calls.{arg, id_named, cap_named, object_of_cap, free_slot}
use Rattle.plain_state.specs.CallEffects.{change, answers_with, with_cap, copy_effect, drop_effect}
use Rattle.kernel_calls.proofs.Caps.{caps_of, lowest, with_cap_is}

-- a group that is the object of a number gets a capability
abbrev gets : ThreadRecord → ℕ → Option Object → Capability → Effect
gets thread id group cap = answers_with thread (unwrap_or (free_slot (slots_of group)) 0) (change id (with_cap (slots_of group) cap) ∷ [])

abbrev copied : Option Capability → ℕ → Capability
copied held rights = record { object = object_of_cap held; rights = rights }

pub copy_is : (s : State) (thread : ThreadRecord) (id slot rights : ℕ) (held : Cap) (caps new : List (Option Cap)) (free : Option ℕ) →
    id_named s thread 1 ≡ id → s.objects id ≡ Some (Group (caps_of caps)) → cap_named s thread 0 ≡ Some (capability_of held) → rights ≡ arg thread 2 →
    free ≡ position is_none caps → free ≡ Some slot → new ≡ slice_set caps slot (Some (record { object = held.object; rights = rights })) →
    copy_effect s thread ≡ answers_with thread slot (change id (Group (caps_of new)) ∷ [])
copy_is s thread id slot rights held caps new free id_is there held_is rights_are told is set =
    ap (λ (n : ℕ). gets thread n (s.objects n) (copied (cap_named s thread 0) (arg thread 2))) id_is
    ∙ ap (λ (o : Option Object). gets thread id o (copied (cap_named s thread 0) (arg thread 2))) there
    ∙ ap (λ (c : Option Capability). gets thread id (Some (Group (caps_of caps))) (copied c (arg thread 2))) held_is
    ∙ ap (λ (n : ℕ). gets thread id (Some (Group (caps_of caps))) (copied (Some (capability_of held)) n)) (sym rights_are)
    ∙ ap (λ (n : ℕ). answers_with thread n (change id (with_cap (caps_of caps) (capability_of (record { object = held.object; rights = rights }))) ∷ [])) (lowest caps free slot told is)
    ∙ ap (λ (o : Object). answers_with thread slot (change id o ∷ [])) (sym (with_cap_is caps new free slot (record { object = held.object; rights = rights }) told is set))

-- a group that is the object of a number loses what a slot has
abbrev dropped : ThreadRecord → ℕ → Option Object → Effect
dropped thread id group = answers_with thread 0 (change id (Group (slice_set (slots_of group) (arg thread 1) None)) ∷ [])

pub drop_is : (s : State) (thread : ThreadRecord) (id : ℕ) (caps new : List (Option Cap)) → id_named s thread 0 ≡ id → s.objects id ≡ Some (Group (caps_of caps)) →
    new ≡ slice_set caps (arg thread 1) None → drop_effect s thread ≡ answers_with thread 0 (change id (Group (caps_of new)) ∷ [])
drop_is s thread id caps new id_is there set =
    ap (λ (n : ℕ). dropped thread n (s.objects n)) id_is ∙ ap (λ (o : Option Object). dropped thread id o) there
    ∙ ap (λ (l : List (Option Capability)). answers_with thread 0 (change id (Group l) ∷ []))
    (sym (ap (λ (l : List (Option Cap)). caps_of l) set ∙ map-set (option_map capability_of) caps (arg thread 1) None))

below : (place : ℕ) → nat_le GROUP_SLOTS place ≡ false → place < GROUP_SLOTS
below place e = leb-false GROUP_SLOTS place e

-- the place that cap_drop names is one that a group has
pub place_known : (o : Option Object) (place : ℕ) → no_cap_there o place ≡ false → place < GROUP_SLOTS
place_known None place e = below place e
place_known (Some (Group slots)) place e = below place (or_false (nat_le GROUP_SLOTS place) (is_none (cap_in slots place)) e).0
place_known (Some (plain.Thread thread)) place e = below place e
place_known (Some (plain.Space regions)) place e = below place e
place_known (Some (plain.Memory pages)) place e = below place e
place_known (Some (plain.Connection server client clients)) place e = below place e
place_known (Some (plain.Notification count waiters)) place e = below place e
place_known (Some (plain.OutputRing channel)) place e = below place e
place_known (Some plain.InputRing) place e = below place e
place_known (Some plain.Scheduler) place e = below place e
