use Rattle.std.proofs.Common.{◌≡◌, ◌-◌, ◌*◌, ◌/◌, ◌^◌, ap, ◌∙◌, arith}
use Rattle.std.proofs.lemmas.Nat.{and_mask}
use Rattle.std.proofs.lemmas.Nat.Bits.{ones_shr}
use Rattle.sls_kernel.proofs.Bytes.{number_in-word}
use Rattle.sls_kernel.proofs.page.number_in.Goals as goal

pub returns : goal.returns
returns c =
    let a = c.args in
    let mask : 18446744073709551615 / 2 ^ (64 - 8 * a.size) ≡ 2 ^ (8 * a.size) - 1 =
    ones_shr 64 (64 - 8 * a.size) (omega arith) ∙ ap (λ k. 2 ^ k - 1) (omega arith) in
    rw (number_in-word a.word a.k a.size c.requires.inside, mask) (and_mask _ _)
