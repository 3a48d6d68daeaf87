use Rattle.object_records.proofs.Untold.{slot_kept, joined, all_ranged}
use Rattle.object_records.proofs.laws.untold_is_left_alone.Goals as goal

pub returns-clause-same : goal.returns-clause-same
returns-clause-same c = slot_kept

pub returns-clause-joined : goal.returns-clause-joined
returns-clause-joined c = joined

pub returns-clause-in_range : goal.returns-clause-in_range
returns-clause-in_range c = all_ranged
