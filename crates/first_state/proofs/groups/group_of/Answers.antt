use Rattle.std.proofs.Common.{◌≡◌, ◌+◌, ◌<◌, ◌≤◌, ◌∙◌, ap, sym, List, length, take, get_or, Option, None, arith}
use Rattle.std.proofs.lemmas.List.{length-set, take_all}
use Rattle.cap_group.specs.declared.cap.Cap.{Cap}
use Rattle.plain_state.specs.Objects.{empty_slots}
use Rattle.kobj_table.specs.Slots.{capability_of}
use Rattle.first_state.proofs.Lists.{none_there, copied_more, array_of}
use Rattle.first_state.proofs.groups.group_of.Goals as goal

pub loop-slot-init : goal.loop-slot-init
loop-slot-init c = record {
  size = ap length c.new-group.ensures.slots;
  same = λ j. ap (λ (l : List (Option Cap)). get_or l j None) c.new-group.ensures.slots ∙ none_there Cap 32 j;
}

pub loop-slot-preserved : goal.loop-slot-preserved
loop-slot-preserved c =
    let items = c.deref-held-items.result.now in
    let same : items ≡ c.args.slots.now.items = c.deref-held-items.ensures.0 in
    let room : length items ≤ 32 = c.deref-held-items.ensures.1 in
    let inside : c.loop-slot.slot < length items = c.loop-slot-test.true in
    let size : length c.loop-slot.group.slots ≡ 32 = c.loop-slot.invariant.size in
    record {
      size = length-set c.loop-slot.group.slots c.loop-slot.slot (get_or items c.loop-slot.slot None) ∙ size;
      same = λ j. copied_more c.loop-slot.group.slots items None c.loop-slot.slot j (omega arith) inside
          (λ j. c.loop-slot.invariant.same j ∙ ap (λ (l : List (Option Cap)). get_or (take c.loop-slot.slot l) j None) (sym same))
          ∙ ap (λ (l : List (Option Cap)). get_or (take (c.loop-slot.slot + 1) l) j None) same;
    }

pub returns : goal.returns
unfolding empty_slots
returns c =
    let items = c.deref-held-items.result.now in
    let same : items ≡ c.args.slots.now.items = c.deref-held-items.ensures.0 in
    let counted = ap length same in
    array_of capability_of 32 c.loop-slot.group.slots c.args.slots.now.items c.loop-slot.invariant.size
    (λ j. c.loop-slot.invariant.same j ∙ ap (λ (l : List (Option Cap)). get_or l j None) (take_all c.loop-slot.slot c.args.slots.now.items (omega arith)))
