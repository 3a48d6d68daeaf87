-- The first of some numbers that is so.
use Rattle.std.specs.Prelude.{◌≡◌, ℕ, ◌<◌, ◌≤◌, Bool, true, false}

-- it is so, of those from `first` on and below `many`, and none before it is
pub record IsFirstFrom (first many : ℕ) (so : ℕ → Bool) (at : ℕ) : Type 0 where
  pub from : first ≤ at
  pub inside : at < many
  pub found : so at ≡ true
  pub skipped : (i : ℕ) → first ≤ i → i < at → so i ≡ false

-- none of them is so
abbrev pub IsNoneFrom : ℕ → ℕ → (ℕ → Bool) → Type 0
IsNoneFrom first many so = (i : ℕ) → first ≤ i → i < many → so i ≡ false
