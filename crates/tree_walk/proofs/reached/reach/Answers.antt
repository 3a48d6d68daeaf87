use Rattle.std.proofs.Common.{◌∙◌, arith, false, inl, inr}
use Rattle.std.proofs.lemmas.Bool.{cases_eq}
use Rattle.std.proofs.lemmas.List.{length-set, get_or-set_same, get_or-set_other}
use Rattle.tree_walk.proofs.reached.reach.Goals as goal

pub loop-id-preserved : goal.loop-id-preserved
loop-id-preserved c = record {
  whole = length-set c.loop-id.is c.loop-id.id _ ∙ c.loop-id.invariant.whole;
  told = λ i below. elim (cases_eq i c.loop-id.id) [
    | inl here ↦ rw here (get_or-set_same c.loop-id.is c.loop-id.id _ false (omega (arith, c.loop-id.invariant.whole)))
    | inr other ↦ get_or-set_other c.loop-id.is c.loop-id.id i _ false other ∙ c.loop-id.invariant.told i (omega arith)
  ];
}
