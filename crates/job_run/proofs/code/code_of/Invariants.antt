use Rattle.std.proofs.Common.{◌≡◌, ◌++◌, drop}
use Rattle.job_script.specs.Job.{words_of}
use Rattle.job_run.specs.Report.{code_bytes}
use Rattle.job_run.proofs.code.code_of.Given as goal

abbrev pub invariant-loop-line : goal.invariant-loop-line
invariant-loop-line l = l.code.items ++ code_bytes (words_of (drop l.line-index l.lines)) ≡ code_bytes (words_of l.lines)
