use Rattle.std.proofs.Common.{◌∙◌, sym, refl, ap, arith}
use Rattle.std.proofs.lemmas.Grind.{common_steps}
use Rattle.plain_model.specs.Initial.{slots_with}
use Rattle.plain_model.proofs.SlowInitial.{slots_with_more, slots_with_all}
use Rattle.plain_model.proofs.initial.padded.Goals as goal

pub loop-init : goal.loop-init
loop-init c = record { count = cc; same = refl }

pub loop-preserved : goal.loop-preserved
loop-preserved c = record {
  count = grind (arith, common_steps);
  same = ap slots_with c.push.ensures.items ∙ slots_with_more c.loop.padded.items ∙ c.loop.invariant.same;
}

pub returns : goal.returns
returns c = sym (slots_with_all c.loop.padded.items (omega arith)) ∙ c.loop.invariant.same
