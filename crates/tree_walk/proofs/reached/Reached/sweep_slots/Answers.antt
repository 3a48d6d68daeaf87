use Rattle.std.proofs.Common.{◌≢◌, ◌∙◌, ap, arith, inl, inr}
use Rattle.std.specs.Prelude.{if◌then◌else◌}
use Rattle.std.proofs.lemmas.Bool.{cases_eq}
use Rattle.plain_model.specs.Sweep.{is_reached}
use Rattle.kobj_table.specs.declared.slot.Slot.{Slot}
use Rattle.tree_walk.specs.Sweep.{left_in}
use Rattle.tree_walk.proofs.reached.Reached.sweep_slots.Goals as goal

pub loop-id-preserved : goal.loop-id-preserved
loop-id-preserved c =
    let id = c.loop-id.id in
    let so_far = c.loop-id.invariant in
    record {
      left = λ s i tells below. elim (cases_eq i id) [
        | inl here ↦ rw here (c.sweep_slot.ensures.left s tells ∙ ap (λ (slot : Slot). if is_reached s id then left_in s id slot else Slot.Empty) (so_far.past id (omega arith)))
        | inr other ↦ c.sweep_slot.ensures.others i other ∙ so_far.left s i tells (omega arith)
      ];
      past = λ i above.
          let other : i ≢ id = omega arith in
          c.sweep_slot.ensures.others i other ∙ so_far.past i (omega arith);
      links = c.sweep_slot.ensures.links ∙ so_far.links;
    }

pub returns-clause-past : goal.returns-clause-past
returns-clause-past c i past = c.loop-id.invariant.past i (omega (arith, c.loop-id.auto))
