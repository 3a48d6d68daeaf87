use Rattle.std.proofs.Common.{◌∙◌}
use Rattle.leader_helper.proofs.Running.{running_again}
use Rattle.leader_helper.proofs.begin.set_numbers.Goals as goal

pub returns : goal.returns
returns c = record {
  numbers = λ rest. record {
    objects = λ i inside. c.set_pages.ensures.objects i inside ∙ c.set_objects.ensures.set i inside ∙ c.of-used.ensures.objects rest i inside;
    pages = λ page inside. c.set_pages.ensures.set page inside ∙ c.of-used.ensures.pages rest page inside;
  };
  rest = running_again c.args.rooms.now c.set_objects.new.rooms c.set_pages.new.rooms c.set_objects.ensures.rest c.set_pages.ensures.rest;
}
