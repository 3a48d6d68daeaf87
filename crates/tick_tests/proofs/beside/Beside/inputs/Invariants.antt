use Rattle.kernel_calls.specs.Kernel.{IsHeld}
use Rattle.tick_tests.proofs.beside.Beside.inputs.Given as goal

abbrev pub invariant-loop-number : goal.invariant-loop-number
invariant-loop-number g l = IsHeld l.self.kernel.calls l.self.kernel.accepted l.self.kernel.nvm
