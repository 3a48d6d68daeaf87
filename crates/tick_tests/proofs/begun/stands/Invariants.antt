use Rattle.tick_tests.specs.FirstKernel.{StandsBelow}
use Rattle.tick_tests.proofs.begun.stands.Given as goal

abbrev pub invariant-loop-page : goal.invariant-loop-page
invariant-loop-page l = StandsBelow l.image l.nvm l.page
