-- Sets of numbers in words, 64 a word.
use Rattle.std.specs.Prelude.{◌≡◌, ◌≢◌, ℕ, zero, suc, ◌+◌, ◌/◌, ◌%◌, ◌<◌, ◌==◌, if◌then◌else◌, Bool, true, false, not, List, slice_index}
use Rattle.std.specs.Int.{bit_at}
use Rattle.pmem_layout.specs.declared.places.TheConstants.{BASE_BITS, NUMBERS}

-- whether the bit of a number is set in its word
abbrev pub bit_of : ℕ → ℕ → Bool
bit_of word n = bit_at word (n % BASE_BITS) == 1

-- whether a set has a number
abbrev pub has : List ℕ → ℕ → Bool
has words n = bit_of (slice_index words (n / BASE_BITS)) n

-- how many numbers below one are so
unfoldable pub count_of : (ℕ → Bool) → ℕ → ℕ
count_of so zero = 0
count_of so (suc n) = count_of so n + (if so n then 1 else 0)

-- whether one of two is so, and not the other
abbrev pub differ : Bool → Bool → Bool
differ true other = not other
differ false other = other

-- Sets that have the same numbers, but perhaps for one.
abbrev pub SameBut : ℕ → List ℕ → List ℕ → Type 0
SameBut number old new = (n : ℕ) → n < NUMBERS → n ≢ number → has new n ≡ has old n

-- how many numbers are in one of two sets, and not in the other
unfoldable pub changes : List ℕ → List ℕ → ℕ
changes a b = count_of (λ n. differ (has a n) (has b n)) NUMBERS

-- the least number of a set
pub record IsLeast (words : List ℕ) (number : ℕ) : Type 0 where
  pub inside : number < NUMBERS
  pub found : has words number ≡ true
  pub below : (n : ℕ) → n < number → has words n ≡ false

abbrev pub IsEmpty : List ℕ → Type 0
IsEmpty words = (n : ℕ) → n < NUMBERS → has words n ≡ false

-- A number is put into a set, or taken out.
pub record Puts (number : ℕ) (in_set : Bool) (old new : List ℕ) : Type 0 where
  pub changed : has new number ≡ in_set
  pub others : SameBut number old new
