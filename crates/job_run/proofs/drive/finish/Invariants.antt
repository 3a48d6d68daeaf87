use Rattle.std.proofs.Common.{◌≡◌, ◌⊎◌}
use Rattle.sls_kernel.specs.Side.{BeforeCommit, Running, mode, left}
use Rattle.job_run.specs.Ends.{Keeps, Commits}
use Rattle.job_run.proofs.drive.finish.Given as goal

abbrev pub invariant-loop-machine : goal.invariant-loop-machine
invariant-loop-machine l = (mode l.machine ≡ BeforeCommit) × Keeps l.fn.machine l.machine ⊎ (mode l.machine ≡ Running) × Commits l.fn.machine l.machine

abbrev pub decreases-loop-machine : goal.decreases-loop-machine
decreases-loop-machine l = left l.machine
