-- What a call makes of the lists of threads.
use Rattle.std.specs.Prelude.{◌≡◌, ◌≢◌, ℕ, List, [], ◌∷◌, ◌++◌}
use Rattle.link_lists.specs.Lists.{list_at}

-- A thread came to stand at the end of a list. All other lists are as before.
pub record Appends (old new : List (List ℕ)) (list thread : ℕ) : Type 0 where
  pub last : list_at new list ≡ list_at old list ++ thread ∷ []
  pub others : (i : ℕ) → i ≢ list → list_at new i ≡ list_at old i

-- The first thread of one list went to the end of another. All other lists are as before.
pub record MovesFirst (old new : List (List ℕ)) (from to thread : ℕ) : Type 0 where
  pub first : list_at old from ≡ thread ∷ list_at new from
  pub last : list_at new to ≡ list_at old to ++ thread ∷ []
  pub others : (i : ℕ) → i ≢ from → i ≢ to → list_at new i ≡ list_at old i
