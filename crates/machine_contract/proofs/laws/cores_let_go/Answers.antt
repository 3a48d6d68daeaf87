use Rattle.machine_contract.proofs.Hands.{turn_busy, turn_owes}
use Rattle.machine_contract.proofs.laws.cores_let_go.Goals as goal

pub returns-clause-busy : goal.returns-clause-busy
returns-clause-busy c = turn_busy

pub returns-clause-free : goal.returns-clause-free
returns-clause-free c = turn_owes
