use Rattle.object_records.proofs.Fresh.{same_object, same_state}
use Rattle.object_records.proofs.laws.fresh_pages_are_zero.Goals as goal

pub returns-clause-object : goal.returns-clause-object
returns-clause-object c = same_object

pub returns-clause-state : goal.returns-clause-state
returns-clause-state c = same_state
