use Rattle.std.proofs.Common.{◌≡◌, ◌⊎◌}
use Rattle.sls_kernel.specs.Side.{Formatting, Recovering, Running, mode, left}
use Rattle.job_run.specs.Ends.{Keeps}
use Rattle.job_run.proofs.drive.bring_up.Given as goal

abbrev pub invariant-loop-machine : goal.invariant-loop-machine
invariant-loop-machine l = record {
  stage : (mode l.machine ≡ Running) ⊎ ((mode l.machine ≡ Formatting) ⊎ (mode l.machine ≡ Recovering));
  kept : Keeps l.fn.machine l.machine;
}

abbrev pub decreases-loop-machine : goal.decreases-loop-machine
decreases-loop-machine l = left l.machine
