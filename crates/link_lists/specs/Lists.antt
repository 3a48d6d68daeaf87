-- What callers see: a list of lists of numbers.
use Rattle.std.specs.Prelude.{◌≡◌, ◌≢◌, ◌↔◌, ℕ, ◌<◌, List, [], length, slice_index_or, nat_eq, not, filter, Contains}
use Rattle.std.specs.List.{IsDistinct}

-- the numbers of list i, in their order
abbrev pub list_at : List (List ℕ) → ℕ → List ℕ
list_at links i = slice_index_or links i []

-- the number is in a list
abbrev pub IsLinked : List (List ℕ) → ℕ → Type 0
IsLinked links n = (i : ℕ) × Contains (list_at links i) n

-- the number is in no list
abbrev pub IsFree : List (List ℕ) → ℕ → Type 0
IsFree links n = (i : ℕ) → ¬ Contains (list_at links i) n

-- each number but this one is in the same lists as before
abbrev pub KeepsOthers : List (List ℕ) → List (List ℕ) → ℕ → Type 0
KeepsOthers old new n = (i m : ℕ) → m ≢ n → (Contains (list_at new i) m ↔ Contains (list_at old i) m)

-- these numbers without this one, in their order
abbrev pub without : ℕ → List ℕ → List ℕ
without n ns = filter (λ m. not (nat_eq m n)) ns

-- as many lists as `lists`, of numbers below `nodes`, each number in at most one of them and there once
pub record IsLinks (nodes lists : ℕ) (links : List (List ℕ)) : Type 0 where
  pub count : length links ≡ lists
  pub below : (i n : ℕ) → Contains (list_at links i) n → n < nodes
  pub distinct : (i : ℕ) → IsDistinct nat_eq (list_at links i)
  pub apart : (i j n : ℕ) → Contains (list_at links i) n → Contains (list_at links j) n → i ≡ j
