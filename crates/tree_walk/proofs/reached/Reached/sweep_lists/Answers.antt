use Rattle.std.proofs.Common.{◌≢◌, ◌∙◌, ap, arith, inl, inr}
use Rattle.std.specs.Prelude.{◌&&◌, filter}
use Rattle.std.proofs.lemmas.Bool.{cases_eq}
use Rattle.tree_walk.specs.Reached.{has}
use Rattle.tree_walk.proofs.SweptLists.{list_swept_left}
use Rattle.tree_walk.proofs.reached.Reached.sweep_lists.Goals as goal

pub loop-list-preserved : goal.loop-list-preserved
loop-list-preserved c =
    let reached = c.args.self.now in
    let list = c.loop-list.list in
    let so_far = c.loop-list.invariant in
    record {
      swept = λ i below. elim (cases_eq i list) [
        | inl here ↦ rw here (c.sweep_list.ensures.swept ∙ ap (filter (λ id. has reached list && has reached id)) (so_far.past list (omega arith)))
        | inr other ↦ c.sweep_list.ensures.others i other ∙ so_far.swept i (omega arith)
      ];
      past = λ i above.
          let other : i ≢ list = omega arith in
          c.sweep_list.ensures.others i other ∙ so_far.past i (omega arith);
      slots = c.sweep_list.ensures.slots ∙ so_far.slots;
    }

pub returns-clause-lists : goal.returns-clause-lists
returns-clause-lists c s i tells below =
    c.loop-list.invariant.swept i (omega (arith, c.loop-list-test.false)) ∙ list_swept_left c.args.self.now s c.args.objects.now i tells

pub returns-clause-past : goal.returns-clause-past
returns-clause-past c i past = c.loop-list.invariant.past i (omega (arith, c.loop-list.auto))
