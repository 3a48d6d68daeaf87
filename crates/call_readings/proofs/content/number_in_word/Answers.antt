use Rattle.std.proofs.Common.{◌≡◌, ◌-◌, ◌*◌, ◌/◌, ◌%◌, ◌^◌, ◌<◌, ap, ◌∙◌, arith}
use Rattle.std.specs.Prelude.{bit_and}
use Rattle.std.proofs.Math.Nat.{mod-lt}
use Rattle.std.proofs.lemmas.Nat.{and_mask, pow_pos}
use Rattle.std.proofs.lemmas.Nat.Bits.{ones_shr}
use Rattle.call_readings.proofs.Words.{number_of_word, power_of_bytes}
use Rattle.call_readings.proofs.content.number_in_word.Goals as goal

pub overflow_cast-result-3 : goal.overflow_cast-result-3
overflow_cast-result-3 c =
    let a = c.args in
    let shifted = a.word / 2 ^ (8 * a.k) in
    let mask : 18446744073709551615 / 2 ^ (64 - 8 * a.size) ≡ 2 ^ (8 * a.size) - 1 =
    ones_shr 64 (64 - 8 * a.size) (omega arith) ∙ ap (λ k. 2 ^ k - 1) (omega arith) in
    let low : bit_and shifted (18446744073709551615 / 2 ^ (64 - 8 * a.size)) ≡ shifted % 2 ^ (8 * a.size) = rw mask (and_mask shifted (8 * a.size)) in
    let small = power_of_bytes a.size c.requires.size.1 in
    let below : shifted % 2 ^ (8 * a.size) < 2 ^ (8 * a.size) = mod-lt shifted (pow_pos (8 * a.size)) in
    omega (arith, low, small, below)

pub returns : goal.returns
returns c fits =
    let a = c.args in
    let mask : 18446744073709551615 / 2 ^ (64 - 8 * a.size) ≡ 2 ^ (8 * a.size) - 1 =
    ones_shr 64 (64 - 8 * a.size) (omega arith) ∙ ap (λ k. 2 ^ k - 1) (omega arith) in
    rw (number_of_word a.word a.k a.size fits, mask) (and_mask _ _)
