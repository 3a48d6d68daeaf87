use Rattle.pmem_model.specs.Memory.{AllHome}
use Rattle.cow_fault.proofs.tests.fill.Given as goal

abbrev pub invariant-loop-at : goal.invariant-loop-at
invariant-loop-at l = record { home : AllHome l.nvm }
