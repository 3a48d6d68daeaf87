-- The pages that the next tick of a core needs.
use Rattle.std.specs.Prelude.{◌≡◌, ℕ, ◌<◌, ◌==◌, ◌||◌, Bool, true, List, Option, Some, None, option_map}
use Rattle.std.specs.List.{list_any}
use Rattle.sls_base.specs.declared.limits.TheConstants.{PAGES}
use Rattle.sls_base.specs.declared.rights.TheConstants.{EXECUTE}
use Rattle.sls_base.specs.declared.thread.Thread.{Thread as ThreadRecord}
use Rattle.pmem_model.specs.Memory.{Memory}
use Rattle.plain_state.specs.declared.objects.Region.{Region}
use Rattle.plain_model.specs.Objects.{Object}
use Rattle.plain_model.specs.States.{State, thread_at}
use Rattle.plain_model.specs.Memory.{page_at, place_of}
use Rattle.plain_model.specs.Instructions.{seen_by}
use Rattle.plain_model.specs.Effects.{Effect}
use Rattle.plain_model.specs.Ticks.{Chosen, chosen, loads_from, stores_to}
use Rattle.call_readings.specs.Content.{is_page_home}

-- a list of pages has a page
abbrev pub has_page : List ℕ → ℕ → Bool
has_page pages page = list_any (λ other. other == page) pages

-- the number of the page on which the byte at an address stands, for a right, if it is there
abbrev pub page_seen : (ℕ → Option Object) → List Region → ℕ → ℕ → Option ℕ
page_seen objects regions right at = option_map (λ place. (page_at objects place).number) (place_of regions right at)

-- that of the page from which a thread's instruction is fetched
abbrev pub page_of_pc : State → ThreadRecord → Option ℕ
page_of_pc s thread = page_seen s.objects (seen_by s thread) EXECUTE thread.pc

-- the same of the thread that a core runs next
abbrev pub fetched_of : State → Option Chosen → Option ℕ
fetched_of s None = None
fetched_of s (Some c) = page_of_pc s (thread_at s c.occupant.thread)

abbrev pub page_fetched : State → ℕ → Option ℕ
page_fetched s core = fetched_of s (chosen s core)

-- that page is at home, if there is one
abbrev pub IsAtHome : Memory → Option ℕ → Type 0
IsAtHome m from = (page : ℕ) → from ≡ Some page → page < PAGES → is_page_home m page ≡ true

-- an effect loads from a page or stores to it
abbrev pub reaches_page : State → Effect → ℕ → Bool
reaches_page s e page = loads_from s e page || stores_to s e page
