-- Which numbers durable words tell at a version: those of the base, changed by the log where its head names the
-- version.
use Rattle.std.specs.Prelude.{◌≡◌, ℕ, zero, suc, ◌/◌, ◌%◌, ◌<◌, ◌≤◌, ◌==◌, if◌then◌else◌, Bool}
use Rattle.pmem_layout.specs.declared.places.TheConstants.{LOG_HEAD_AT, NUMBERS}
use Rattle.pmem_layout.specs.Places.{log_entry_at}
use Rattle.pmem_layout.specs.Numbers.{in_base}
use Rattle.pmem_layout.specs.Fields.{log_count}

-- what an entry of the log says: its number, and whether that is in use from then on
abbrev pub number_of : ℕ → ℕ
number_of entry = entry / 2

abbrev pub comes : ℕ → Bool
comes entry = entry % 2 == 1

-- what the base says of a number
abbrev pub base_bit : (ℕ → ℕ) → ℕ → Bool
base_bit words n = in_base words n == 1

-- whether a number is in use after the first entries, from what was said before them
abbrev pub redone : (ℕ → ℕ) → ℕ → Bool → ℕ → Bool
redone entry n before zero = before
redone entry n before (suc i) = if number_of (entry i) == n then comes (entry i) else redone entry n before i

-- the entries of the log, and how many of them count at a version
abbrev pub entries : (ℕ → ℕ) → ℕ → ℕ
entries words i = words (log_entry_at i)

abbrev pub count_at : (ℕ → ℕ) → ℕ → ℕ
count_at words v = log_count (words LOG_HEAD_AT) v

-- whether a number is in use at a version
abbrev pub in_use : (ℕ → ℕ) → ℕ → ℕ → Bool
in_use words v n = redone (entries words) n (base_bit words n) (count_at words v)

-- The first entries are of numbers that there are, and rise by number.
pub record AreEntries (entry : ℕ → ℕ) (count : ℕ) : Type 0 where
  pub most : count ≤ NUMBERS
  pub in_range : (i : ℕ) → i < count → number_of (entry i) < NUMBERS
  pub rising : (i j : ℕ) → i < j → j < count → number_of (entry i) < number_of (entry j)

-- The words tell these numbers at a version.
pub record NumbersStand (words : ℕ → ℕ) (v : ℕ) (numbers : ℕ → Bool) : Type 0 where
  pub log : AreEntries (entries words) (count_at words v)
  pub each : (n : ℕ) → n < NUMBERS → in_use words v n ≡ numbers n
