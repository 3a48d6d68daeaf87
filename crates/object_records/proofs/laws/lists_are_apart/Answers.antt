use Rattle.object_records.proofs.Apart.{lists_apart, scheduler_only}
use Rattle.object_records.proofs.laws.lists_are_apart.Goals as goal

pub returns-clause-apart : goal.returns-clause-apart
returns-clause-apart c = lists_apart

pub returns-clause-scheduler : goal.returns-clause-scheduler
returns-clause-scheduler c = scheduler_only
