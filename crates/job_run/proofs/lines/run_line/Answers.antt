use Rattle.std.proofs.Common.{sym, subst, refl, ℕ}
use Rattle.sls_kernel.specs.Plain.{cut}
use Rattle.job_script.specs.declared.line.Line.{Line}
use Rattle.job_run.specs.declared.lines.BreakCause.TheVariants.{NotLit}
use Rattle.job_run.specs.declared.report.Printed.{Printed}
use Rattle.job_run.specs.declared.report.Printed.TheVariants.{Up, Done}
use Rattle.job_run.specs.Report.{prints_of, checkpoint_line, checkpointed}
use Rattle.job_run.specs.Ends.{BreaksAt, PartWritten}
use Rattle.job_run.proofs.Writing.{err_both, one_breaks}
use Rattle.job_run.proofs.lines.run_line.Goals as goal

pub returns-in-Checkpoint-clause-broke : goal.returns-in-Checkpoint-clause-broke
returns-in-Checkpoint-clause-broke g c = err_both c.say.result c.say.ensures.part c.say.ensures.stands (λ broken part stands w s.
    let does = c.checkpoint-line.ensures.shows w s in
    let old = g.O.Sink.written c.args.out.now in
    let new = g.O.Sink.written c.say.new.out in
    subst (λ (l : Line). BreaksAt broken.cause old new broken.nvm (prints_of l w)) (sym c.in-Checkpoint.is)
    (one_breaks broken.cause old new broken.nvm (checkpoint_line w) (checkpointed w) (subst (λ (p : Printed). PartWritten broken.cause old new p) does.0 part) (stands (checkpointed w) does.1)))

pub returns-in-Ok-clause-broke : goal.returns-in-Ok-clause-broke
returns-in-Ok-clause-broke g c = err_both c.say-in-Ok.result c.say-in-Ok.ensures.part c.say-in-Ok.ensures.stands (λ broken part stands w s.
    let shows = c.in-Ok.ensures.shows w (c.write_backs.ensures.shows w s) in
    let version = c.version-version.ensures (cut w) shows in
    let old = g.O.Sink.written c.args.out.now in
    let new = g.O.Sink.written c.say-in-Ok.new.out in
    subst (λ (l : Line). BreaksAt broken.cause old new broken.nvm (prints_of l w)) (sym c.in-Cut.is)
    (one_breaks broken.cause old new broken.nvm (Up w.version) (cut w) (subst (λ (v : ℕ). PartWritten broken.cause old new (Up v)) version part) (stands (cut w) shows)))

pub returns-in-Err-clause-broke : goal.returns-in-Err-clause-broke
returns-in-Err-clause-broke g c = λ w s.
    let old = g.O.Sink.written c.args.out.now in
    let stands = c.in-Err.ensures.refused w (c.write_backs.ensures.shows w s) in
    subst (λ (l : Line). BreaksAt NotLit old old c.in-Err.nvm (prints_of l w)) (sym c.in-Cut.is)
    (one_breaks NotLit old old c.in-Err.nvm (Up w.version) (cut w) (w.version, refl, refl) (record { version = stands.version; saved = stands.saved }))

pub returns-in-End-clause-broke : goal.returns-in-End-clause-broke
returns-in-End-clause-broke g c = err_both c.say-in-End.result c.say-in-End.ensures.part c.say-in-End.ensures.stands (λ broken part stands w s.
    let old = g.O.Sink.written c.args.out.now in
    let new = g.O.Sink.written c.say-in-End.new.out in
    subst (λ (l : Line). BreaksAt broken.cause old new broken.nvm (prints_of l w)) (sym c.in-End.is)
    (one_breaks broken.cause old new broken.nvm Done w part (stands w s)))
