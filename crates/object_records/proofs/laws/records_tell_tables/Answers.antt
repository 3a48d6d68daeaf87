use Rattle.std.proofs.Common.{◌∙◌, sym, ap, refl}
use Rattle.object_records.specs.Records.{list_in, record_at}
use Rattle.object_records.proofs.Told.{owned, no_strays, lists_told, slots_told}
use Rattle.object_records.proofs.laws.records_tell_tables.Goals as goal

pub returns-clause-own : goal.returns-clause-own
returns-clause-own c = owned

pub returns-clause-strays : goal.returns-clause-strays
returns-clause-strays c = no_strays

pub returns-clause-lists : goal.returns-clause-lists
returns-clause-lists c = lists_told

pub returns-clause-slots : goal.returns-clause-slots
returns-clause-slots c = λ a b i same. slots_told a i (record_at a i) refl b same

pub returns-clause-same : goal.returns-clause-same
returns-clause-same c = λ a b i own own' same. lists_told b i own' ∙ ap list_in same ∙ sym (lists_told a i own)
