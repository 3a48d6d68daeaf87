use Rattle.pmem_model.specs.Memory.{AllHome}
use Rattle.pmem_tests.proofs.tests.compare.Given as goal

abbrev pub invariant-loop-event : goal.invariant-loop-event
invariant-loop-event g l = AllHome l.nvm
