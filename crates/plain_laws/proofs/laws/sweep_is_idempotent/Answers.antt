use Rattle.plain_laws.proofs.Sweeps.{swept_twice}
use Rattle.plain_laws.proofs.laws.sweep_is_idempotent.Goals as goal

pub returns : goal.returns
returns c = swept_twice
