use Rattle.std.proofs.Common.{ap}
use Rattle.kobj_table.specs.declared.slot.Slot.{Slot}
use Rattle.object_records.specs.Records.{record_of}
use Rattle.object_records.proofs.Told.{none_told, slot_told, threads_told, told_again, own_threads}
use Rattle.object_records.proofs.laws.records_tell_slots.Goals as goal

pub returns-clause-none : goal.returns-clause-none
returns-clause-none c = λ slot threads. (none_told slot threads, λ empty. ap (λ (s : Slot). record_of s threads) empty)

pub returns-clause-slot : goal.returns-clause-slot
returns-clause-slot c = slot_told

pub returns-clause-threads : goal.returns-clause-threads
returns-clause-threads c = threads_told

pub returns-clause-again : goal.returns-clause-again
returns-clause-again c = told_again

pub returns-clause-own : goal.returns-clause-own
returns-clause-own c = own_threads
