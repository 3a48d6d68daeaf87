use Rattle.object_records.proofs.Untold.{slots_same, records_same}
use Rattle.object_records.proofs.laws.told_and_untold_are_all.Goals as goal

pub returns-clause-slot : goal.returns-clause-slot
returns-clause-slot c = slots_same

pub returns-clause-record : goal.returns-clause-record
returns-clause-record c = records_same
