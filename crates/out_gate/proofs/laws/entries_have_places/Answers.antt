use Rattle.out_gate.proofs.Places.{one_entry}
use Rattle.out_gate.proofs.laws.entries_have_places.Goals as goal

pub returns-clause-one : goal.returns-clause-one
returns-clause-one c byte number first second a b = one_entry byte number first second a b
