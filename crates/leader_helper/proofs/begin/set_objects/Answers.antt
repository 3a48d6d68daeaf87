use Rattle.std.proofs.Common.{◌∙◌, arith, inl, inr}
use Rattle.std.proofs.lemmas.Bool.{cases_eq}
use Rattle.leader_helper.proofs.Running.{running_again}
use Rattle.leader_helper.proofs.begin.set_objects.Goals as goal

pub loop-id-preserved : goal.loop-id-preserved
loop-id-preserved c =
    let id = c.loop-id.id in
    let so_far = c.loop-id.invariant in
    record {
      set = λ i below. elim (cases_eq i id) [
        | inl here ↦ rw here (c.set_object.ensures.set.changed ∙ c.uses_object.ensures)
        | inr other ↦ c.set_object.ensures.set.others i (omega arith) other ∙ so_far.set i (omega arith)
      ];
      rest = running_again c.args.rooms.now c.loop-id.rooms c.set_object.new.self so_far.rest c.set_object.ensures.rest;
    }
