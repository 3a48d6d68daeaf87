use Rattle.kernel_calls.specs.Kernel.{IsHeld}
use Rattle.tick_tests.proofs.beside.Beside.drawn.Given as goal

abbrev pub invariant-loop : goal.invariant-loop
invariant-loop g l = IsHeld l.self.kernel.calls l.self.kernel.accepted l.self.kernel.nvm
