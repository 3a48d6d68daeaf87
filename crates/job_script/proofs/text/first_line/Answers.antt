use Rattle.job_script.proofs.Parts.{lines_cut}
use Rattle.job_script.proofs.text.first_line.Goals as goal

pub returns-in-Some-clause-lines : goal.returns-in-Some-clause-lines
returns-in-Some-clause-lines c =
    rw c.without_carriage_return.ensures (lines_cut c.args.text.now c.in-Some.line.now c.in-Some.rest.now c.in-Some.ensures.parts)
