use Rattle.plain_laws.proofs.PlacesBeside.{places_beside, covered_beside}
use Rattle.plain_laws.proofs.calls.bytes_on_one_page.Goals as goal

pub returns-clause-covered : goal.returns-clause-covered
returns-clause-covered c = covered_beside

pub returns-clause-places : goal.returns-clause-places
returns-clause-places c = places_beside
