use Rattle.pmem_model.specs.Memory.{AllHome}
use Rattle.first_format.specs.Shows.{IsBegun}
use Rattle.first_format.proofs.tests.go_on.Given as goal

abbrev pub invariant-loop-turn : goal.invariant-loop-turn
invariant-loop-turn l = record { begun : IsBegun l.formatting l.image; home : AllHome l.nvm }
