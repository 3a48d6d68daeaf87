-- Numbers in bytes, the lowest first, as the slow form reads them from the memory that a thread sees.
use Rattle.std.specs.Prelude.{◌≡◌, ◌≢◌, ℕ, zero, suc, ◌+◌, ◌-◌, ◌*◌, ◌%◌, ◌^◌, ◌<◌, ◌≤◌, List, Some}
use Rattle.std.proofs.Common.{refl, arith}
use Rattle.plain_state.specs.declared.effect.Place.{Place}
use Rattle.plain_state.specs.declared.objects.Region.{Region}
use Rattle.plain_state.specs.States.{State}
use Rattle.plain_state.specs.Memory.{place_of, places_of, byte_at}
use Rattle.plain_state.specs.Instructions.{value_at}

-- one byte more, below higher ones
pub digit : (count higher byte : ℕ) → count ≢ 0 → count ≤ 4 → higher < 256 ^ (count - 1) → byte < 256 →
    ((higher * 256 % 4294967296 + byte) % 4294967296 ≡ byte + 2 ^ 8 * higher) × (byte + 2 ^ 8 * higher < 256 ^ count)
digit zero higher byte some most small in_range = absurd (some refl)
digit (suc zero) higher byte some most small in_range = (omega arith, omega arith)
digit (suc (suc zero)) higher byte some most small in_range = (omega arith, omega arith)
digit (suc (suc (suc zero))) higher byte some most small in_range = (omega arith, omega arith)
digit (suc (suc (suc (suc zero)))) higher byte some most small in_range = (omega arith, omega arith)
digit (suc (suc (suc (suc (suc n))))) higher byte some most small in_range = absurd (omega arith)

pub no_digit : (count higher : ℕ) → count ≢ 0 → count ≤ 4 → higher < 256 ^ (count - 1) → higher < 256 ^ count
no_digit zero higher some most small = absurd (some refl)
no_digit (suc zero) higher some most small = omega arith
no_digit (suc (suc zero)) higher some most small = omega arith
no_digit (suc (suc (suc zero))) higher some most small = omega arith
no_digit (suc (suc (suc (suc zero)))) higher some most small = omega arith
no_digit (suc (suc (suc (suc (suc n))))) higher some most small = absurd (omega arith)

-- the number at an address, where that has a place
pub value_more : (s : State) (regions : List Region) (right at count : ℕ) (place : Place) → count ≢ 0 → place_of regions right at ≡ Some place →
    value_at s (places_of regions right at count) ≡ byte_at s.objects place + 2 ^ 8 * value_at s (places_of regions right (at + 1) (count - 1))
value_more s regions right at zero place some found = absurd (some refl)
value_more s regions right at (suc n) place some found = let less : suc n - 1 ≡ n = omega arith in rw (less, found) refl
