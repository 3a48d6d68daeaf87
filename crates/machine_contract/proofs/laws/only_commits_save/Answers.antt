use Rattle.machine_contract.proofs.Labels.{saved_stays}
use Rattle.machine_contract.proofs.laws.only_commits_save.Goals as goal

pub returns : goal.returns
returns c = saved_stays
