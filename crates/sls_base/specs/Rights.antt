-- Sets of rights, in which each right is a bit.
use Rattle.std.specs.Prelude.{◌≡◌, ℕ, ◌==◌, Bool, bit_and}
use Rattle.std.specs.Int.{bit_at}

-- Every right that is wanted is held: where one number has a bit, the other has it too.
abbrev pub HasRights : ℕ → ℕ → Type 0
HasRights held wanted = (k : ℕ) → bit_at wanted k ≡ 1 → bit_at held k ≡ 1

-- the same as a test: of what is wanted, all is held
abbrev pub has_rights : ℕ → ℕ → Bool
has_rights held wanted = bit_and held wanted == wanted
