use Rattle.std.proofs.Common.{◌≡◌, ◌-◌, ◌≤◌, is_some}
use Rattle.sls_kernel.specs.Plain.{World}
use Rattle.sls_kernel.specs.Shows.{Shows}
use Rattle.sls_kernel.specs.Side.{Running, mode}
use Rattle.job_run.proofs.Writing.{Taking}
use Rattle.job_run.proofs.lines.take.Given as goal

abbrev pub invariant-entries : goal.invariant-entries
invariant-entries g l =
    let written = g.O.Sink.written in
    let faults = g.O.Sink.faults in
    record {
      up : mode l.machine ≡ Running;
      taking : (w : World) → Shows l.fn.machine w → Taking (written l.fn.out) (written l.out) l.machine l.count (l.count - l._i) l.channel w;
      told : is_some (written l.out) ≡ is_some (written l.fn.out);
      falls : faults l.fn.out ≤ faults l.out;
      wants : g.O.Sink.wants l.out ≡ g.O.Sink.wants l.fn.out;
    }
