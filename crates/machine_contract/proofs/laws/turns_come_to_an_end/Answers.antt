use Rattle.machine_contract.proofs.Falls.{turns_end}
use Rattle.machine_contract.proofs.laws.turns_come_to_an_end.Goals as goal

pub returns : goal.returns
returns g c = let T = g.M.Machine in turns_end T.format T.seen T.shows
