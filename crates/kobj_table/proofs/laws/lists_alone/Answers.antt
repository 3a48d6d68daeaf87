use Rattle.kobj_table.proofs.States.{same_object, same_but_queue}
use Rattle.kobj_table.proofs.laws.lists_alone.Goals as goal

pub returns-clause-object : goal.returns-clause-object
returns-clause-object c = same_object

pub returns-clause-state : goal.returns-clause-state
returns-clause-state c = same_but_queue
