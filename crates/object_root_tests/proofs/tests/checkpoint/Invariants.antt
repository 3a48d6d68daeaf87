use Rattle.pmem_model.specs.Memory.{AllHome}
use Rattle.object_root_tests.proofs.tests.checkpoint.Given as goal

abbrev pub invariant-loop-round : goal.invariant-loop-round
invariant-loop-round g l = AllHome l.nvm

abbrev pub invariant-loop-k : goal.invariant-loop-k
invariant-loop-k g l = AllHome l.nvm
