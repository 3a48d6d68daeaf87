use Rattle.mem_space.specs.Space.{IsSpace}
use Rattle.mem_space.proofs.tests.sixteen_regions_stand_by_rising_base.Given as goal

abbrev pub invariant-loop-turn : goal.invariant-loop-turn
invariant-loop-turn g l = IsSpace l.space
