use Rattle.std.proofs.Common.{sym, ◌∙◌, arith}
use Rattle.job_script.proofs.Numbers.{value_of_word}
use Rattle.job_script.proofs.number.word_of.Goals as goal

pub overflow_cast-result : goal.overflow_cast-result
overflow_cast-result c =
    omega (arith, value_of_word c.args.field.now c.in-Some.value c.if-field-ne-WORD_DIGITS.false (sym c.value_of.ensures ∙ c.in-Some.is))
