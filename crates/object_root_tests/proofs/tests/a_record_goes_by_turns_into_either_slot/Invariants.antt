use Rattle.pmem_model.specs.Memory.{AllHome}
use Rattle.object_root_tests.proofs.tests.a_record_goes_by_turns_into_either_slot.Given as goal

abbrev pub invariant-loop-number : goal.invariant-loop-number
invariant-loop-number g l = AllHome l.nvm
