use Rattle.plain_laws.proofs.Costs.{cost_bound}
use Rattle.plain_laws.proofs.laws.cost_is_bounded.Goals as goal

pub returns : goal.returns
returns c = cost_bound
