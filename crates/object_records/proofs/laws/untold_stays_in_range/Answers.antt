use Rattle.object_records.proofs.Recorded.{decoded_in_range, ran_in_range, others_in_range}
use Rattle.object_records.proofs.laws.untold_stays_in_range.Goals as goal

pub returns-clause-decoded : goal.returns-clause-decoded
returns-clause-decoded c = decoded_in_range

pub returns-clause-ran : goal.returns-clause-ran
returns-clause-ran c = ran_in_range

pub returns-clause-others : goal.returns-clause-others
returns-clause-others c = others_in_range
