-- The numbers of objects and pages.
use Rattle.std.specs.Prelude.{ℕ, ◌+◌, ◌/◌, ◌%◌, ◌<◌}
use Rattle.std.specs.Int.{bit_at}
use Rattle.sls_base.specs.declared.limits.TheConstants.{OBJECTS, PAGES}
use Rattle.pmem_layout.specs.declared.places.TheConstants.{BASE_BITS, OBJECT_BASE_AT}
use Rattle.pmem_layout.specs.declared.number.Number.{Number}
use Rattle.pmem_layout.specs.declared.number.Number.TheVariants.{Object, Page}

-- there is such a number
abbrev pub IsNumber : Number → Type 0
IsNumber (Object id) = id < OBJECTS
IsNumber (Page page) = page < PAGES

-- its index among all: the objects', and then the pages'
abbrev pub index_of : Number → ℕ
index_of (Object id) = id
index_of (Page page) = OBJECTS + page

-- The allocation base has a bit for each: the word of a number, by its index, the bit there, and its value.

abbrev pub base_at : ℕ → ℕ
base_at index = OBJECT_BASE_AT + index / BASE_BITS

abbrev pub base_bit : ℕ → ℕ
base_bit index = index % BASE_BITS

abbrev pub in_base : (ℕ → ℕ) → ℕ → ℕ
in_base words index = bit_at (words (base_at index)) (base_bit index)
