use Rattle.std.proofs.Common.{sym, arith}
use Rattle.std.proofs.lemmas.Grind.{common_steps}
use Rattle.job_script.proofs.Parts.{cut_none, cut_some}
use Rattle.job_script.proofs.text.cut_at.Goals as goal

pub returns-in_err-at-clause-parts : goal.returns-in_err-at-clause-parts
returns-in_err-at-clause-parts c =
    rw c.from_residual.ensures (cut_none c.args.mark c.args.text.now (sym c.in_err-at.ensures))

pub returns-clause-parts : goal.returns-clause-parts
returns-clause-parts c =
    let cut = cut_some c.args.mark c.args.text.now c.in_ok-at.at (sym c.in_ok-at.ensures) in
    let parts = cut.1 in
    grind (arith, common_steps)
