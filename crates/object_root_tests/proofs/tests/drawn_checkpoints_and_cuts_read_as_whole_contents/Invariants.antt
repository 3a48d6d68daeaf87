use Rattle.pmem_model.specs.Memory.{AllHome}
use Rattle.object_root_tests.proofs.tests.drawn_checkpoints_and_cuts_read_as_whole_contents.Given as goal

abbrev pub invariant-loop : goal.invariant-loop
invariant-loop g l = AllHome l.nvm
