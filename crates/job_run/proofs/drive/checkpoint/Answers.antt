use Rattle.std.proofs.Common.{ap, sym, ◌∙◌}
use Rattle.sls_kernel.specs.Plain.{commit}
use Rattle.job_run.specs.declared.report.Printed.TheVariants.{Commit, Spent}
use Rattle.job_run.proofs.Turns.{has_version, has_none}
use Rattle.job_run.proofs.drive.checkpoint.Goals as goal

pub returns-in-Started-clause-shows : goal.returns-in-Started-clause-shows
returns-in-Started-clause-shows c = λ w s.
    let asked = c.in-Started.ensures.world w s in
    let shows = c.finish.ensures.shows w asked.1 in
    let test = has_version w asked.0 in
    rw test (ap Commit (c.version.ensures (commit w) shows), shows)

pub returns-in-VersionSpent-clause-shows : goal.returns-in-VersionSpent-clause-shows
returns-in-VersionSpent-clause-shows c = λ w s.
    let asked = c.in-VersionSpent.ensures.world w s in
    let test = has_none w (sym asked.0.0 ∙ asked.0.1) in
    rw test (ap Spent asked.0.0, asked.1)
