-- Memory objects.
use Rattle.std.specs.Prelude.{◌≡◌, ◌≢◌, ℕ, Bool, List, length, map, slice_get}
use Rattle.std.specs.Option.{option_map}
use Rattle.mem_space.specs.declared.memory.MemPage.{MemPage}
use Rattle.mem_space.specs.declared.memory.Memory.{Memory}

-- the numbers of its pages, by their indices
abbrev pub numbers_of : Memory → List ℕ
numbers_of memory = map (λ page. page.page) memory.pages.items

-- the page with this mark
abbrev pub marked : MemPage → Bool → MemPage
marked page fresh = record page { fresh = fresh }

-- The page at this index has the mark, and is the page that it was. All others are as before.
pub record MarksPage (old new : Memory) (index : ℕ) (fresh : Bool) : Type 0 where
  pub page : slice_get new.pages.items index ≡ option_map (λ page. marked page fresh) (slice_get old.pages.items index)
  pub others : (k : ℕ) → k ≢ index → slice_get new.pages.items k ≡ slice_get old.pages.items k
  pub count : length new.pages.items ≡ length old.pages.items
