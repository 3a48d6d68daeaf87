use Rattle.std.proofs.Common.{◌∙◌}
use Rattle.first_format.proofs.formatting.Formatting.step.Goals as goal

pub returns-clause-shows : goal.returns-clause-shows
returns-clause-shows c = λ cores h. record {
  begun = c.go_on.ensures.begun;
  cores_are = c.go_on.ensures.cores ∙ h.cores_are;
  words = c.go_on.ensures.words cores h;
}
