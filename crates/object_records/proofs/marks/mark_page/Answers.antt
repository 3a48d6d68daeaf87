use Rattle.std.proofs.Common.{◌≢◌, ◌∙◌, ap, arith, inl, inr}
use Rattle.std.proofs.lemmas.Bool.{cases_eq}
use Rattle.object_records.specs.Marks.{marked}
use Rattle.object_records.proofs.Marking.{marked_state}
use Rattle.object_records.proofs.marks.mark_page.Goals as goal

pub loop-id-preserved : goal.loop-id-preserved
loop-id-preserved c =
    let id = c.loop-id.id in
    let so_far = c.loop-id.invariant in
    record {
      slots = λ i below. elim (cases_eq i id) [
        | inl here ↦ rw here (c.mark_at.ensures.marked ∙ ap (marked c.args.page c.args.fresh) (so_far.past id (omega arith)))
        | inr other ↦ c.mark_at.ensures.others i other ∙ so_far.slots i (omega arith)
      ];
      past = λ i above.
          let other : i ≢ id = omega arith in
          c.mark_at.ensures.others i other ∙ so_far.past i (omega arith);
      links = c.mark_at.ensures.links ∙ so_far.links;
    }

pub returns-clause-past : goal.returns-clause-past
returns-clause-past c i past = c.loop-id.invariant.past i (omega (arith, c.loop-id.auto))

pub returns-clause-state : goal.returns-clause-state
returns-clause-state c rest zero =
    let done = c.loop-id.invariant in
    marked_state c.args.objects.now c.loop-id.objects rest c.args.page c.args.fresh
    (λ i below. done.slots i (omega (arith, below, c.loop-id.auto))) (λ i past. done.past i (omega (arith, past, c.loop-id.auto))) done.links zero
