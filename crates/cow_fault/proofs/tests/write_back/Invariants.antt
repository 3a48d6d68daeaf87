use Rattle.pmem_model.specs.Memory.{AllHome}
use Rattle.cow_fault.proofs.tests.write_back.Given as goal

abbrev pub invariant-loop-number : goal.invariant-loop-number
invariant-loop-number l = record { home : AllHome l.nvm }
