use Rattle.plain_laws.proofs.Told.{told}
use Rattle.plain_laws.proofs.laws.sweep_is_told.Goals as goal

pub returns : goal.returns
returns c = told
