use Rattle.pmem_model.specs.Memory.{AllHome}
use Rattle.object_root_tests.proofs.tests.repeat.Given as goal

abbrev pub invariant-loop : goal.invariant-loop
invariant-loop l = AllHome l.nvm
