use Rattle.machine_contract.proofs.Falls.{leads_end}
use Rattle.machine_contract.proofs.laws.leader_ends_its_checkpoint.Goals as goal

pub returns : goal.returns
returns g c = let T = g.M.Machine in leads_end T.format T.seen T.shows
