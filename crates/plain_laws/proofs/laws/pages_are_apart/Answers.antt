use Rattle.plain_laws.proofs.ApartLabels.{stays_apart}
use Rattle.plain_laws.proofs.ApartImages.{first_apart, always_apart}
use Rattle.plain_laws.proofs.RunningStates.{tick_apart}
use Rattle.plain_laws.proofs.laws.pages_are_apart.Goals as goal

pub returns-clause-first : goal.returns-clause-first
returns-clause-first c = first_apart

pub returns-clause-kept : goal.returns-clause-kept
returns-clause-kept c = λ w label range apart. stays_apart w label range apart.0 apart.1

pub returns-clause-ticks : goal.returns-clause-ticks
returns-clause-ticks c = tick_apart

pub returns-clause-always : goal.returns-clause-always
returns-clause-always c = λ image cores accepted labels. always_apart image cores labels accepted
