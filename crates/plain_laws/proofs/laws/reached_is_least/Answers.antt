use Rattle.plain_laws.proofs.Reaches.{reached_least, reached_exactly}
use Rattle.plain_laws.proofs.laws.reached_is_least.Goals as goal

pub returns-clause-least : goal.returns-clause-least
returns-clause-least c = reached_least

pub returns-clause-exact : goal.returns-clause-exact
returns-clause-exact c = reached_exactly
