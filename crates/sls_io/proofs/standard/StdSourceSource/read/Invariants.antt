-- The count of faults hasn't fallen, and the reader has lost nothing.
use Rattle.std.proofs.Common.{◌≤◌}
use Rattle.std.specs.Io.KnownBytes.{Keeps}
use Rattle.sls_io.proofs.standard.StdSourceSource.read.Given as goal

abbrev pub invariant-loop : goal.invariant-loop
invariant-loop g l =
    (l.initial.self.faults ≤ l.self.faults)
    × Keeps (g.R.Read.remaining l.initial.self.inner) (g.R.Read.remaining l.self.inner)
