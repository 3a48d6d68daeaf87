use Rattle.plain_laws.proofs.PresentLabels.{stays_present}
use Rattle.plain_laws.proofs.PresentImages.{first_present, always_present}
use Rattle.plain_laws.proofs.laws.threads_stand_where_they_say.Goals as goal

pub returns-clause-first : goal.returns-clause-first
returns-clause-first c = first_present

pub returns-clause-kept : goal.returns-clause-kept
returns-clause-kept c = stays_present

pub returns-clause-always : goal.returns-clause-always
returns-clause-always c = always_present
