use Rattle.std.proofs.Common.{◌≡◌, ◌-◌}
use Rattle.sls_base.specs.declared.limits.TheConstants.{WORDS}
use Rattle.pmem_model.specs.Memory.{word_at}
use Rattle.sls_kernel.specs.Side.{Running, mode}
use Rattle.sls_kernel.specs.Shows.{memory_of}
use Rattle.job_run.specs.Ends.{Keeps}
use Rattle.job_run.proofs.Chosen.{IsChosenTo}
use Rattle.job_run.proofs.drive.write_backs.Given as goal

abbrev pub invariant-loop-word : goal.invariant-loop-word
invariant-loop-word l = record {
  up : mode l.machine ≡ Running;
  kept : Keeps l.fn.machine l.machine;
  chosen : IsChosenTo l.fn.seed (word_at (memory_of l.fn.machine)) (word_at (memory_of l.machine)) l.from l.draws.state;
}

abbrev pub decreases-loop-word : goal.decreases-loop-word
decreases-loop-word l = WORDS - l.from
