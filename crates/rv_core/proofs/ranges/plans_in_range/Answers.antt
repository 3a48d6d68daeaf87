use Rattle.rv_core.proofs.Fitting.{in_range}
use Rattle.rv_core.proofs.ranges.plans_in_range.Goals as goal

pub returns-clause-in_range : goal.returns-clause-in_range
returns-clause-in_range c = in_range
