use Rattle.std.specs.Prelude.{[]}
use Rattle.call_readings.proofs.named.is_kind_at.Goals as goal

pub returns-in-None : goal.returns-in-None
returns-in-None c content = rw c.in-None.ensures.none (c.is_kind-in-None.ensures content [])
