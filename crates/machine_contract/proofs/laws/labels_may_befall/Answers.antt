use Rattle.machine_contract.proofs.Labels.{label_may}
use Rattle.machine_contract.proofs.laws.labels_may_befall.Goals as goal

pub returns : goal.returns
returns g c = label_may g.M.Machine.format
