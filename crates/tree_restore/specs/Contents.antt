-- Pages of which some were looked at.
use Rattle.std.specs.Prelude.{ℕ, nat_lt, if◌then◌else◌, Option}

-- those below a number as one has them, and the others as another does
abbrev pub first_of : ℕ → (ℕ → Option (ℕ → ℕ)) → (ℕ → Option (ℕ → ℕ)) → ℕ → Option (ℕ → ℕ)
first_of count a b page = if nat_lt page count then a page else b page
