use Rattle.std.proofs.Common.{◌≡◌, ◌+◌, ◌≤◌, length}
use Rattle.std.specs.Str.Lines.{lines}
use Rattle.job_script.specs.declared.section.Section.TheVariants.{Start}
use Rattle.job_script.specs.Grammar.{verdict_from}
use Rattle.job_script.proofs.Progress.{with_front}
use Rattle.job_script.proofs.reading.read_job.Given as goal

-- the lines so far, and what the rest says, are what the text says
abbrev pub invariant-loop-text : goal.invariant-loop-text
invariant-loop-text l = record {
  read : with_front l.lines.items (verdict_from l.number l.section (lines l.rest)) ≡ verdict_from 1 Start (lines l.fn.bytes);
  number : l.number + length l.rest ≤ length l.fn.bytes + 1;
}

abbrev pub decreases-loop-text : goal.decreases-loop-text
decreases-loop-text l = length l.rest
