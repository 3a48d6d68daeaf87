use Rattle.plain_laws.proofs.Cores.{stays_with_cores, always_with_cores}
use Rattle.plain_laws.proofs.bounds.cores_stay.Goals as goal

pub returns-clause-kept : goal.returns-clause-kept
returns-clause-kept c = stays_with_cores

pub returns-clause-always : goal.returns-clause-always
returns-clause-always c = always_with_cores
