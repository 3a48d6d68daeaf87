use Rattle.std.proofs.Common.{ℕ, ◌+◌, ◌*◌, ◌<◌, ◌^◌, min, ap, subst, ◌∙◌, arith}
use Rattle.std.specs.Char.{digit_value}
use Rattle.rv_asm.proofs.Digits.{value_more, digits_more}
use Rattle.rv_asm.proofs.number.magnitude_of.Goals as goal

pub loop-byte-preserved : goal.loop-byte-preserved
loop-byte-preserved c =
    let known = c.in_ok-digit.ensures.value in
    let is_digit : ℕ → Type 0 = λ n. digit_value n < c.args.base in
    record {
      digits = digits_more c.args.base c.args.digits.now c.loop-byte.byte-index c.loop-byte-test.true c.loop-byte.invariant.digits (subst is_digit c.from.ensures known.0);
      value = c.min-magnitude.ensures ∙ ap (λ k. min (c.loop-byte.magnitude * k + c.from-in-loop-byte-2.result) (2 ^ 32)) c.from-in-loop-byte.ensures ∙ value_more c.args.base c.args.digits.now c.loop-byte.byte-index _ _ (2 ^ 32) (omega arith) c.loop-byte-test.true c.loop-byte.invariant.value (c.from-in-loop-byte-2.ensures ∙ known.1 ∙ ap digit_value c.from.ensures);
    }
