-- The numbers of pages that a new memory object gets.
use Rattle.std.specs.Prelude.{ℕ, ◌==◌, not, Bool, List, filter}
use Rattle.std.specs.List.{list_any}
use Rattle.plain_state.specs.Objects.{every_page}
use Rattle.call_readings.specs.declared.numbers.NumbersInUse.{NumbersInUse}
use Rattle.call_readings.specs.NumberSets.{uses_page}

-- the free numbers of pages, rising
abbrev pub free_in : NumbersInUse → List ℕ
free_in numbers = filter (λ page. not (uses_page numbers page)) every_page

-- a page is one of these
abbrev pub is_among : List ℕ → ℕ → Bool
is_among pages page = list_any (λ number. number == page) pages
