-- Sets of numbers.
use Rattle.std.specs.Prelude.{ℕ, ◌/◌, ◌%◌, ◌==◌, Bool, List, slice_index_or}
use Rattle.std.specs.Int.{bit_at}
use Rattle.pmem_layout.specs.declared.places.TheConstants.{BASE_BITS}
use Rattle.call_readings.specs.declared.numbers.NumbersInUse.{NumbersInUse}

-- a set has a bit for each number, in words
unfoldable pub is_in : List ℕ → ℕ → Bool
is_in words number = bit_at (slice_index_or words (number / BASE_BITS) 0) (number % BASE_BITS) == 1

-- the number of an object, or of a page, is in use

abbrev pub uses_object : NumbersInUse → ℕ → Bool
uses_object numbers id = is_in numbers.objects id

abbrev pub uses_page : NumbersInUse → ℕ → Bool
uses_page numbers page = is_in numbers.pages page
