use Rattle.kernel_calls.proofs.Taken.{Taken}
use Rattle.kernel_calls.proofs.memory.take_memory.Given as goal

abbrev pub invariant-loop : goal.invariant-loop
invariant-loop l = Taken l.fn.numbers l.numbers l.memory l.counter
