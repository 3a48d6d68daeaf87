use Rattle.std.proofs.Common.{◌∙◌, ap, length, ◌∷◌, arith}
use Rattle.job_script.proofs.text.operands_of.Goals as goal

pub returns-in-None : goal.returns-in-None
returns-in-None c =
    let second = c.in-Some-first_field.ensures ∙ ap (λ fields. c.in-Some-first_field.second.now ∷ fields) c.in-None.ensures in
    c.in-Some.ensures ∙ ap (λ fields. c.in-Some.first.now ∷ fields) second

pub returns-in-Some-first_field-2 : goal.returns-in-Some-first_field-2
returns-in-Some-first_field-2 c =
    omega (arith, ap length c.in-Some.ensures, ap length c.in-Some-first_field.ensures, ap length c.in-Some-first_field-2.ensures)
