use Rattle.object_records.proofs.Stands.{object_stands, state_stands, same_states}
use Rattle.object_records.proofs.laws.records_stand_for_objects.Goals as goal

pub returns-clause-object : goal.returns-clause-object
returns-clause-object c = object_stands

pub returns-clause-state : goal.returns-clause-state
returns-clause-state c = state_stands

pub returns-clause-same : goal.returns-clause-same
returns-clause-same c = same_states
