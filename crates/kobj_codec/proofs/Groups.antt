-- Groups.
use Rattle.std.proofs.Common.{◌≡◌, ℕ, ◌∙◌, sym, subst, inl, inr, List, length, slice_index, All, Option, None, IfSome}
use Rattle.std.proofs.lemmas.Bool.{cases_lt}
use Rattle.std.proofs.lemmas.List.{get_or_past, get_or_default}
use Rattle.sls_base.specs.declared.limits.TheConstants.{GROUP_SLOTS}
use Rattle.cap_group.specs.declared.cap.Cap.{Cap}
use Rattle.cap_group.specs.declared.group.Group.{Group}
use Rattle.cap_group.specs.Cap.{IsCap}
use Rattle.kobj_codec.specs.declared.obj.Obj.TheVariants as objs
use Rattle.kobj_codec.specs.Objects.{IsGroupRec}
use Rattle.kobj_codec.specs.Records.{IsRecord}
use Rattle.kobj_codec.proofs.Told.{cap_here}

pub group_in_range : (g : Group) → length g.slots ≡ GROUP_SLOTS → All (λ held. IfSome held IsCap) g.slots → IsGroupRec g
group_in_range g size all = record {
  size = size;
  slots = λ k. subst (λ held. IfSome held IsCap) (sym (cap_here g k)) (elim (cases_lt k (length g.slots)) [
    | inl lt ↦ all k None lt
    | inr ge ↦ let past = get_or_past g.slots k None ge in rw past tt
  ]);
}

pub caps_of : (g : Group) → IsGroupRec g → All (λ held. IfSome held IsCap) g.slots
caps_of g i k d lt = subst (λ held. IfSome held IsCap) (cap_here g k ∙ get_or_default g.slots k None d lt) (i.slots k)

-- the slots of a group in range that the words are the record of
abbrev pub SlotsOf : List ℕ → List (Option Cap) → Type 0
SlotsOf words slots = IsGroupRec (record { slots = slots }) × IsRecord (slice_index words) (objs.Group (record { slots = slots }))
