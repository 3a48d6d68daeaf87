use Rattle.plain_laws.proofs.InRangeLabels.{always_below}
use Rattle.plain_laws.proofs.NamesLabels.{stays_named}
use Rattle.plain_laws.proofs.NamesImages.{first_names, always_names}
use Rattle.plain_laws.proofs.laws.what_is_named_is_there.Goals as goal

pub returns-clause-first : goal.returns-clause-first
returns-clause-first c = first_names

pub returns-clause-kept : goal.returns-clause-kept
returns-clause-kept c = stays_named

pub returns-clause-always : goal.returns-clause-always
returns-clause-always c = λ image cores accepted labels. always_names image cores labels (λ some. (always_below image cores some accepted).0)
