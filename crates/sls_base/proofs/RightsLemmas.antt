-- Rights, bit by bit.
use Rattle.std.proofs.Common.{◌≡◌, ℕ, ◌<◌, ◌≤◌, ◌↔◌, IsTrue, bit_and, eq-eqb, sym, ap, ◌∙◌, arith}
use Rattle.std.specs.Int.{bit_at}
use Rattle.std.proofs.Common.{min}
use Rattle.std.proofs.lemmas.Bool.{eqb-true}
use Rattle.std.proofs.lemmas.Nat.{and_le_l}
use Rattle.std.proofs.lemmas.Nat.Bits.{bit_at_and, bit_at-lt, same_from_bits}
use Rattle.sls_base.specs.Rights.{HasRights, has_rights}

-- where all that is wanted is held, each bit of it is
held_by_bits : (held wanted : ℕ) → bit_and held wanted ≡ wanted → HasRights held wanted
held_by_bits held wanted same k is =
    let both : bit_at wanted k ≡ bit_at (bit_and held wanted) k = ap (λ n. bit_at n k) (sym same) in
    omega (arith, bit_at_and held wanted k, bit_at-lt held k)

-- of two bits the lesser is the second, where the first is set with it
min-second : (h w : ℕ) → w < 2 → (w ≡ 1 → h ≡ 1) → min h w ≡ w
min-second h w below with' = grind arith

bits_by_held : (held wanted : ℕ) → HasRights held wanted → bit_and held wanted ≡ wanted
bits_by_held held wanted has =
    same_from_bits (bit_and held wanted) wanted (λ k. bit_at_and held wanted k ∙ min-second (bit_at held k) (bit_at wanted k) (bit_at-lt wanted k) (has k))

pub has_by_bits : (held wanted : ℕ) → IsTrue (has_rights held wanted) ↔ HasRights held wanted
has_by_bits held wanted =
    (λ t. held_by_bits held wanted (eqb-true _ _ t), λ has. eq-eqb _ _ (bits_by_held held wanted has))

-- what is wanted is at most what is held
pub wanted_most : (held wanted most : ℕ) → held ≤ most → HasRights held wanted → wanted ≤ most
wanted_most held wanted most below has =
    let same = bits_by_held held wanted has in
    omega (arith, and_le_l held wanted, same)
