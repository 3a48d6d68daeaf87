use Rattle.std.proofs.Common.{sym, subst}
use Rattle.sls_kernel.specs.Plain.{cut}
use Rattle.sls_kernel.specs.Shows.{StandsFor, durable_words}
use Rattle.sls_kernel.specs.declared.machine.Off.{Off}
use Rattle.job_run.proofs.Turns.{cut_stands, not_both}
use Rattle.job_run.proofs.drive.restart.Goals as goal

pub returns-in-Ok-clause-shows : goal.returns-in-Ok-clause-shows
returns-in-Ok-clause-shows c = λ w s.
    c.bring_up.ensures.shows (cut w) (c.in-Ok.ensures.shows (cut w) (c.cut.ensures.shows w s) (λ z. absurd (not_both (c.requires.up) (c.cut.ensures.unformatted w s z))))

pub returns-in-Err-clause-refused : goal.returns-in-Err-clause-refused
returns-in-Err-clause-refused c = λ w s.
    subst (λ (off : Off). StandsFor (durable_words off.nvm) w) (sym c.in-Err.ensures.refused.1)
    (cut_stands c.args.machine c.cut.result w c.requires.up (c.cut.ensures.shows w s) (c.cut.ensures.unformatted w s))
