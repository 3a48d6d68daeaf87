-- The count of faults hasn't fallen, and the writer has the bytes before the rest.
use Rattle.std.proofs.Common.{◌≤◌}
use Rattle.sls_io.proofs.SinkLemmas.{TakesBefore}
use Rattle.sls_io.proofs.standard.StdSinkSink.write.Given as goal

abbrev pub invariant-loop : goal.invariant-loop
invariant-loop g l =
    (l.initial.self.faults ≤ l.self.faults)
    × TakesBefore (g.W.Write.contents l.initial.self.inner) (g.W.Write.contents l.self.inner) l.bytes l.rest
