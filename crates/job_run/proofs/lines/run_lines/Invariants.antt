use Rattle.std.proofs.Common.{◌≡◌, ◌≤◌, is_some, drop}
use Rattle.sls_kernel.specs.Plain.{World}
use Rattle.sls_kernel.specs.Shows.{Shows}
use Rattle.sls_kernel.specs.Side.{Running, mode}
use Rattle.job_run.specs.Report.{all_prints, world_after}
use Rattle.job_run.proofs.Writing.{SoFar}
use Rattle.job_run.proofs.lines.run_lines.Given as goal

abbrev pub invariant-loop-line : goal.invariant-loop-line
invariant-loop-line g l =
    let written = g.O.Sink.written in
    let faults = g.O.Sink.faults in
    record {
      up : mode l.machine ≡ Running;
      running : (w : World) → Shows l.fn.machine w → SoFar (written l.fn.out) (written l.out) l.machine (all_prints (drop l.line-index l.lines)) (world_after (drop l.line-index l.lines)) (all_prints l.lines w) (world_after l.lines w);
      told : is_some (written l.out) ≡ is_some (written l.fn.out);
      falls : faults l.fn.out ≤ faults l.out;
      wants : g.O.Sink.wants l.out ≡ g.O.Sink.wants l.fn.out;
    }
