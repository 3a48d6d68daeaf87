use Rattle.pmem_model.specs.Memory.{AllHome}
use Rattle.version_commit.proofs.tests.compare.Given as goal

abbrev pub invariant-loop-event : goal.invariant-loop-event
invariant-loop-event g l = record { home : AllHome l.nvm }
