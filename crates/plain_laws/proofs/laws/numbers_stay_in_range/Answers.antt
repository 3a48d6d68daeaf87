use Rattle.plain_laws.proofs.InRange.{place_has_room}
use Rattle.plain_laws.proofs.InRangeLabels.{first_below, stays_below, always_below}
use Rattle.plain_laws.proofs.RunningStates.{tick_below}
use Rattle.plain_laws.proofs.laws.numbers_stay_in_range.Goals as goal

pub returns-clause-first : goal.returns-clause-first
returns-clause-first c = first_below

pub returns-clause-kept : goal.returns-clause-kept
returns-clause-kept c = stays_below

pub returns-clause-ticks : goal.returns-clause-ticks
returns-clause-ticks c = tick_below

pub returns-clause-always : goal.returns-clause-always
returns-clause-always c = λ image cores accepted labels. always_below image cores labels accepted

pub returns-clause-room : goal.returns-clause-room
returns-clause-room c = place_has_room
