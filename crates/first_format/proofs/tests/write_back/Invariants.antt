use Rattle.pmem_model.specs.Memory.{AllHome}
use Rattle.first_format.proofs.tests.write_back.Given as goal

abbrev pub invariant-loop-at : goal.invariant-loop-at
invariant-loop-at l = record { home : AllHome l.nvm }
