-- The exit code of the program.
use Rattle.std.specs.Prelude.{ℕ}
use Rattle.job_run.specs.declared.status.Status.{Status}
use Rattle.job_run.specs.declared.status.Status.TheVariants.{Done, Usage, BadJob, ReadFault, WriteFault, Memory}

-- the number that the program ends with
abbrev pub exit_number : Status → ℕ
exit_number Done = 0
exit_number Usage = 2
exit_number BadJob = 3
exit_number ReadFault = 6
exit_number WriteFault = 7
exit_number Memory = 9
