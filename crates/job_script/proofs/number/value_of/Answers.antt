use Rattle.std.proofs.Common.{◌≡◌, ◌*◌, ap, sym, ◌∙◌, take, Some, arith}
use Rattle.std.proofs.lemmas.List.{take_all}
use Rattle.job_script.proofs.Numbers.{value_is, not_digit, more_digits, more_value, overflows}
use Rattle.job_script.proofs.number.value_of.Goals as goal

pub returns-in_err-digit : goal.returns-in_err-digit
returns-in_err-digit c =
    c.from_residual.ensures ∙ sym (not_digit c.args.radix c.args.field.now c.loop-byte.byte-index c.from.result (omega arith) c.from.ensures c.in_err-digit.ensures.value)

pub returns-in_err-checked_mul : goal.returns-in_err-checked_mul
returns-in_err-checked_mul c =
    let i = c.loop-byte in
    let digit = c.in_ok-digit.ensures.value in
    c.from_residual-in_err-checked_mul.ensures
    ∙ sym (overflows c.args.radix c.args.field.now i.byte-index c.from.result i.value c.in_ok-digit.digit (omega arith) (omega arith) c.from.ensures digit.1 i.invariant.value (omega (arith, c.in_err-checked_mul.ensures, ap (λ r. i.value * r) c.from-in-loop-byte.ensures)))

pub returns-in_err-value : goal.returns-in_err-value
returns-in_err-value c =
    let i = c.loop-byte in
    let digit = c.in_ok-digit.ensures.value in
    c.from_residual-in_err-value.ensures
    ∙ sym (overflows c.args.radix c.args.field.now i.byte-index c.from.result i.value c.in_ok-digit.digit (omega arith) (omega arith) c.from.ensures digit.1 i.invariant.value (omega (arith, c.in_err-value.ensures, c.in_ok-checked_mul.ensures.1, c.from-in-loop-byte-2.ensures, ap (λ r. i.value * r) c.from-in-loop-byte.ensures)))

pub loop-byte-preserved : goal.loop-byte-preserved
loop-byte-preserved c =
    let i = c.loop-byte in
    let digit = c.in_ok-digit.ensures.value in
    let sum = more_value c.args.radix c.args.field.now i.byte-index c.from.result i.value c.in_ok-digit.digit (omega arith) c.from.ensures digit.1 i.invariant.value in
    record {
      digits = more_digits c.args.radix c.args.field.now i.byte-index c.from.result (omega arith) c.from.ensures digit.0 i.invariant.digits;
      value = omega (arith, sum, c.in_ok-value.ensures.1, c.in_ok-checked_mul.ensures.1, c.from-in-loop-byte-2.ensures, ap (λ r. i.value * r) c.from-in-loop-byte.ensures);
      fits = omega (arith, c.in_ok-value.ensures);
    }

pub returns : goal.returns
returns c =
    let i = c.loop-byte in
    let all : take i.byte-index c.args.field.now ≡ c.args.field.now = take_all _ _ (omega arith) in
    let value = rw all at i.invariant.value in
    ap Some value ∙ sym (value_is c.args.radix c.args.field.now (rw all at i.invariant.digits) (omega (arith, value)))
