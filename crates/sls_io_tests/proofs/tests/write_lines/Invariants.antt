-- The lines so far are written.
use Rattle.std.proofs.Common.{◌≡◌, ◌≤◌, take}
use Rattle.std.specs.List.{flat_map}
use Rattle.std.specs.Io.KnownBytes.{append_known}
use Rattle.sls_io_tests.proofs.tests.write_lines.Given as goal

abbrev pub invariant-loop-line : goal.invariant-loop-line
invariant-loop-line g l =
    (g.O.Sink.written l.out ≡ append_known (g.O.Sink.written l.initial.out) (flat_map (λ line. line.now) (take l.line-index l.lines)))
    × (g.O.Sink.faults l.initial.out ≤ g.O.Sink.faults l.out)
    × (g.O.Sink.wants l.out ≡ g.O.Sink.wants l.initial.out)
