-- What stands at a ring's number is an output ring or the input ring.
use Rattle.std.specs.Prelude.{◌≡◌, ℕ, ◌==◌, Bool, true, false, Some}
use Rattle.std.proofs.Common.{refl, ap, sym, ◌∙◌}
use Rattle.sls_base.specs.declared.limits.TheConstants.{OUTPUT_CHANNELS}
use Rattle.sls_base.specs.declared.thread.Ring.{Ring}
use Rattle.link_lists.specs.Lists.{list_at}
use Rattle.plain_state.specs.declared.objects.Kind.TheVariants.{InputKind, OutputKind}
use Rattle.plain_state.specs.Objects.{is_kind}
use Rattle.kobj_table.specs.declared.objects.Objects.{Objects}
use Rattle.kobj_table.specs.declared.slot.Slot.{Slot}
use Rattle.kobj_table.specs.Slots.{object_of, ring_of}
use Rattle.kobj_table.specs.Objects.{slot_at, IsOtherThan}

of_a_kind : (channel : ℕ) (b : Bool) → (channel == OUTPUT_CHANNELS) ≡ b
    → is_kind OutputKind (Some (ring_of channel)) ≡ false → is_kind InputKind (Some (ring_of channel)) ≡ false → ⊥
of_a_kind channel true e output input = absurd (let never : true ≡ false = rw e at input in cc)
of_a_kind channel false e output input = absurd (let never : true ≡ false = rw e at output in cc)

pub no_ring : (o : Objects) (id : ℕ) (ring : Ring) → IsOtherThan OutputKind o id → IsOtherThan InputKind o id
    → slot_at o id ≡ Slot.Ring ring → ⊥
no_ring o id ring output input is =
    let none : ℕ → ℕ → ℕ = λ page offset. 0 in
    of_a_kind ring.channel (ring.channel == OUTPUT_CHANNELS) refl
    (ap (λ (s : Slot). is_kind OutputKind (object_of none s (list_at o.links id))) (sym is) ∙ output none)
    (ap (λ (s : Slot). is_kind InputKind (object_of none s (list_at o.links id))) (sym is) ∙ input none)
