use Rattle.machine_contract.proofs.Aways.{home_fewer, turn_aways}
use Rattle.machine_contract.proofs.Hands.{waits_owes}
use Rattle.machine_contract.proofs.laws.waits_come_to_an_end.Goals as goal

pub returns-clause-waits : goal.returns-clause-waits
returns-clause-waits c = waits_owes

pub returns-clause-home : goal.returns-clause-home
returns-clause-home c = home_fewer

pub returns-clause-laid : goal.returns-clause-laid
returns-clause-laid c = turn_aways
