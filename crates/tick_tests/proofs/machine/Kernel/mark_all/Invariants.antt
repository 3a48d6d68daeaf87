use Rattle.kernel_calls.specs.Kernel.{IsHeld}
use Rattle.tick_tests.proofs.machine.Kernel.mark_all.Given as goal

abbrev pub invariant-loop-page : goal.invariant-loop-page
invariant-loop-page l = IsHeld l.self.calls l.self.accepted l.self.nvm
