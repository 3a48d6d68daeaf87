use Rattle.std.proofs.Common.{◌≡◌}
use Rattle.sls_kernel.specs.Plain.{World}
use Rattle.sls_kernel.specs.Shows.{Shows}
use Rattle.sls_kernel.specs.Side.{Running, mode}
use Rattle.job_run.specs.Report.{ticks}
use Rattle.job_run.proofs.drive.run.Given as goal

abbrev pub invariant-ticks : goal.invariant-ticks
invariant-ticks l = record {
  up : mode l.machine ≡ Running;
  shows : (w : World) → Shows l.fn.machine w → Shows l.machine (ticks l._i w);
}
