use Rattle.std.proofs.Common.{ap, ◌∙◌}
use Rattle.job_script.specs.Job.{words_of}
use Rattle.job_run.specs.Ends.{wants_behind}
use Rattle.job_run.specs.Report.{first_of}
use Rattle.job_run.proofs.Jobs.{job_has}
use Rattle.job_run.proofs.Wants.{behind_break}
use Rattle.job_run.proofs.call.run_up.Goals as goal

pub run_lines-requires-clause-channels : goal.run_lines-requires-clause-channels
run_lines-requires-clause-channels g c = job_has c.args.lines.now c.requires.job

pub returns-in-NotLit-clause-wants : goal.returns-in-NotLit-clause-wants
returns-in-NotLit-clause-wants g c =
    let wants = g.O.Sink.wants in
    behind_break _ _ _ _ _ _ _ _ _ _ (c.in-Err.ensures.broke (first_of (words_of c.args.lines.now)) c.requires.first) c.in-NotLit.is
    (c.in-Err.ensures.want ∙ ap (λ cause. wants_behind cause (wants c.args.out.now)) c.in-NotLit.is) c.no_memory.ensures.wants
