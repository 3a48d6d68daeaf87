-- What a call keeps: each ring.
use Rattle.std.specs.Prelude.{◌≡◌, ℕ, ◌==◌, Bool, true, false, List, Option, Some, None, slice_index_or}
use Rattle.std.specs.Option.{IfSome, IfNone}
use Rattle.std.proofs.Common.{refl, sym, ap, ◌∙◌}
use Rattle.std.proofs.lemmas.Bool.{eqb-true, eqb-false}
use Rattle.sls_base.specs.declared.thread.Ring.{Ring}
use Rattle.sls_base.specs.declared.thread.Thread.{Thread as ThreadRecord}
use Rattle.kobj_table.specs.declared.objects.Objects.{Objects}
use Rattle.kobj_table.specs.declared.slot.Slot.{Slot}
use Rattle.kobj_table.specs.Objects.{slot_at, Puts}

-- each ring was there before, as it is
abbrev pub KeepsRings : Objects → Objects → Type 0
KeepsRings old new = (id : ℕ) (ring : Ring) → slot_at new id ≡ Slot.Ring ring → slot_at old id ≡ Slot.Ring ring

-- so it is where no slot changes
pub rings_same : (o n : Objects) → n.slots ≡ o.slots → KeepsRings o n
rings_same o n same id ring is = sym (ap (λ (slots : List Slot). slice_index_or slots id Slot.Empty) same) ∙ is

put_by : (o n : Objects) (id : ℕ) (slot : Slot) → Puts o n id slot → ((ring : Ring) → slot ≡ Slot.Ring ring → ⊥) → (i : ℕ) (ring : Ring) (b : Bool) → (i == id) ≡ b →
    slot_at n i ≡ Slot.Ring ring → slot_at o i ≡ Slot.Ring ring
put_by o n id slot p other i ring true same is = absurd (other ring (sym p.there ∙ sym (ap (λ (j : ℕ). slot_at n j) (eqb-true i id same)) ∙ is))
put_by o n id slot p other i ring false apart is = sym (p.others i (eqb-false i id apart)) ∙ is

-- where something else comes to stand at a number
pub rings_put : {o n : Objects} {id : ℕ} {slot : Slot} → Puts o n id slot → ((ring : Ring) → slot ≡ Slot.Ring ring → ⊥) → KeepsRings o n
rings_put {o} {n} {id} {slot} p other i ring is = put_by o n id slot p other i ring (i == id) refl is

-- and where a thread that was lent is given back
pub rings_lent : (o n : Objects) (lent : Option ℕ) (thread : ThreadRecord) → IfSome lent (λ id. Puts o n id (Slot.Thread thread)) → IfNone lent (n ≡ o) → KeepsRings o n
rings_lent o n None thread put same = rings_same o n (ap (λ (x : Objects). x.slots) same)
rings_lent o n (Some id) thread put same = rings_put put (λ ring is. cc)
