use Rattle.pmem_model.specs.Memory.{AllHome}
use Rattle.pmem_tests.proofs.tests.more_flushes_than_are_listed_are_fenced.Given as goal

abbrev pub invariant-loop-line : goal.invariant-loop-line
invariant-loop-line g l = AllHome l.nvm
