use Rattle.kernel_calls.specs.Kernel.{IsHeld}
use Rattle.tick_tests.proofs.programs.answers.Given as goal

abbrev pub invariant-loop-i : goal.invariant-loop-i
invariant-loop-i g l = IsHeld l.both.kernel.calls l.both.kernel.accepted l.both.kernel.nvm
