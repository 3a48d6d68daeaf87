-- What a walk finds.
use Rattle.std.specs.Prelude.{◌≡◌, ℕ, ◌==◌, Bool, List, ◌++◌}
use Rattle.std.specs.List.{list_any}

-- a number is among these
abbrev pub is_among : List ℕ → ℕ → Bool
is_among numbers i = list_any (λ number. number == i) numbers

-- These are what they were, and then others.
pub record Continues (old new : List ℕ) : Type 0 where
  pub others : List ℕ
  pub is : new ≡ old ++ others
