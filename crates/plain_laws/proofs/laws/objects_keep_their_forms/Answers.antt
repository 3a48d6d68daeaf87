use Rattle.plain_laws.proofs.Forms.{stays_formed}
use Rattle.plain_laws.proofs.FormsImages.{first_formed, always_formed}
use Rattle.plain_laws.proofs.RunningStates.{tick_formed}
use Rattle.plain_laws.proofs.laws.objects_keep_their_forms.Goals as goal

pub returns-clause-first : goal.returns-clause-first
returns-clause-first c = first_formed

pub returns-clause-kept : goal.returns-clause-kept
returns-clause-kept c = stays_formed

pub returns-clause-ticks : goal.returns-clause-ticks
returns-clause-ticks c = tick_formed

pub returns-clause-always : goal.returns-clause-always
returns-clause-always c = λ image cores accepted labels. always_formed image cores labels accepted
