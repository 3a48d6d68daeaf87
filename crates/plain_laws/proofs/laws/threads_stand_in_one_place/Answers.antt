use Rattle.plain_laws.proofs.Placed.{one_place}
use Rattle.plain_laws.proofs.PlacedLabels.{stays_placed}
use Rattle.plain_laws.proofs.PlacedImages.{first_placed, always_placed}
use Rattle.plain_laws.proofs.RunningStates.{tick_placed}
use Rattle.plain_laws.proofs.laws.threads_stand_in_one_place.Goals as goal

pub returns-clause-one : goal.returns-clause-one
returns-clause-one c = one_place

pub returns-clause-first : goal.returns-clause-first
returns-clause-first c = first_placed

pub returns-clause-kept : goal.returns-clause-kept
returns-clause-kept c = stays_placed

pub returns-clause-ticks : goal.returns-clause-ticks
returns-clause-ticks c = tick_placed

pub returns-clause-always : goal.returns-clause-always
returns-clause-always c = always_placed
