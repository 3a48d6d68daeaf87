use Rattle.pmem_model.specs.Memory.{AllHome}
use Rattle.cow_fault.proofs.tests.two_cores_prepare_two_pages_turn_by_turn.Given as goal

abbrev pub invariant-loop-number : goal.invariant-loop-number
invariant-loop-number g l = record { home : AllHome l.nvm }
