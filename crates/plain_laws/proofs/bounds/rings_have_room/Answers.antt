use Rattle.plain_laws.proofs.Rooms.{first_in_room, stays_in_room, always_in_room}
use Rattle.plain_laws.proofs.bounds.rings_have_room.Goals as goal

pub returns-clause-first : goal.returns-clause-first
returns-clause-first c = first_in_room

pub returns-clause-kept : goal.returns-clause-kept
returns-clause-kept c = stays_in_room

pub returns-clause-always : goal.returns-clause-always
returns-clause-always c = always_in_room
