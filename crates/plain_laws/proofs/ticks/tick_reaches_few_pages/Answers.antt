use Rattle.plain_laws.proofs.FewPages.{few_touched, few_stored}
use Rattle.plain_laws.proofs.ticks.tick_reaches_few_pages.Goals as goal

pub returns-clause-touched : goal.returns-clause-touched
returns-clause-touched c = few_touched

pub returns-clause-stored : goal.returns-clause-stored
returns-clause-stored c = few_stored
