use Rattle.std.proofs.Common.{◌+◌, ◌∙◌, arith, inl, inr}
use Rattle.std.proofs.lemmas.Bool.{cases_eq}
use Rattle.leader_helper.proofs.Running.{running_again}
use Rattle.leader_helper.proofs.begin.set_pages.Goals as goal

pub loop-page-preserved : goal.loop-page-preserved
loop-page-preserved c =
    let page = c.loop-page.page in
    let so_far = c.loop-page.invariant in
    record {
      set = λ i below. elim (cases_eq i page) [
        | inl here ↦ rw here (c.set_page.ensures.set.changed ∙ c.uses_page.ensures)
        | inr other ↦ c.set_page.ensures.set.others (128 + i) (omega arith) (omega arith) ∙ so_far.set i (omega arith)
      ];
      objects = λ id inside. c.set_page.ensures.set.others id (omega arith) (omega arith) ∙ so_far.objects id inside;
      rest = running_again c.args.rooms.now c.loop-page.rooms c.set_page.new.self so_far.rest c.set_page.ensures.rest;
    }
