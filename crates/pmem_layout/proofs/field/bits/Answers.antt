use Rattle.std.proofs.Common.{◌≡◌, ◌-◌, ◌/◌, ◌^◌, ap, ◌∙◌, arith}
use Rattle.std.proofs.lemmas.Nat.{and_mask}
use Rattle.std.proofs.lemmas.Nat.Bits.{ones_shr}
use Rattle.pmem_layout.proofs.field.bits.Goals as goal

pub returns : goal.returns
returns c =
    let a = c.args in
    let mask : 18446744073709551615 / 2 ^ (64 - a.count) ≡ 2 ^ a.count - 1 =
    ones_shr 64 (64 - a.count) (omega arith) ∙ ap (λ k. 2 ^ k - 1) (omega arith) in
    rw mask (and_mask _ _)
