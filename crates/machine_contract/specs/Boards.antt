-- Which pages may be stored to after a commit, which pages are hot, and what is laid on a board.
use Rattle.std.specs.Prelude.{◌≡◌, ◌≢◌, ◌⊎◌, ◌↔◌, ℕ, ◌+◌, ◌<◌, ◌==◌, ◌&&◌, not, nat_lt, Bool, true, false, if◌then◌else◌, List, [], length, map, filter, take, All, AllPairs, Contains, Option, Some, None}
use Rattle.std.specs.List.{list_all, list_any, range_with_len}
use Rattle.sls_base.specs.declared.limits.TheConstants.{LAST_VERSION}
use Rattle.sls_base.specs.declared.fixed.TheConstants.{FIRST_PROGRAM_PAGE}
use Rattle.pmem_layout.specs.declared.places.TheConstants.{SPARES}
use Rattle.plain_model.specs.Objects.{every_page}
use Rattle.plain_model.specs.Worlds.{World, has_page}
use Rattle.plain_model.specs.Sweep.{swept}
use Rattle.machine_contract.specs.declared.bounds.TheConstants.{HOT_EPOCHS, HOT_PAGES}
use Rattle.machine_contract.specs.Side.{BoardEntry, Side}
use Rattle.machine_contract.specs.Courses.{Course}
use Rattle.machine_contract.specs.Shown.{Seen, Format, durable_of}

-- After a commit, and when a machine comes up, the pages that may be stored to are those of the running state that
-- aren't fresh and have a slot of the version.
abbrev pub IsRenewed : Format → Seen → World → Type 0
IsRenewed format m w =
    (page : ℕ) → (m.side.writable page ≡ true)
    ↔ ((has_page w.now page ≡ true) × format.Tagged (durable_of m.words) w.version page)

-- Hot pages.

-- a program's page that was stored to in each of the last epochs that ended
abbrev pub is_hot : List (ℕ → Bool) → ℕ → Bool
is_hot ended page =
    not (nat_lt page FIRST_PROGRAM_PAGE) && list_all (λ stored. stored page) (take HOT_EPOCHS ended)

-- the first of them by number; none where too few epochs have ended
abbrev pub hot_list : List (ℕ → Bool) → List ℕ
hot_list ended =
    if nat_lt (length ended) HOT_EPOCHS then [] else take HOT_PAGES (filter (is_hot ended) every_page)

-- Spares.

-- what a spare is given to is this page
abbrev pub is_to : ℕ → Option ℕ → Bool
is_to page None = false
is_to page (Some other) = other == page

-- a spare is given to the page
abbrev pub is_given : Side → ℕ → Bool
is_given side page = list_any (λ spare. is_to page (side.given spare)) (range_with_len 0 SPARES)

-- the spare is given to a hot page
abbrev pub is_given_to_hot : Side → ℕ → Bool
is_given_to_hot side spare = list_any (λ page. is_to page (side.given spare)) side.hot

-- a spare may be given to another page: it has no content of the version, and isn't given to a hot page
pub record IsToGive (format : Format) (m : Seen) (w : World) (spare : ℕ) : Type 0 where
  pub unused : format.spare_has (durable_of m.words) w.version spare ≡ false
  pub not_hot : is_given_to_hot m.side spare ≡ false

-- The board.

-- the hot pages with a spare that were stored to in this epoch and stay; none where the version will be the last one
abbrev pub to_lay : World → Side → List ℕ
to_lay w side =
    if w.version + 1 == LAST_VERSION then []
    else filter (λ page. w.stored page && (has_page (swept w.now) page && is_given side page)) side.hot

-- an entry as it was laid
abbrev pub IsNewlyLaid : BoardEntry → Type 0
IsNewlyLaid entry = (entry.drawn ≡ false) × (entry.home ≡ false)

-- What a board has when it is opened: exactly these pages, each once. A hot page lacks a spare only where each spare is
-- given to another hot page or has content of the version, and a spare of either kind keeps its page.
pub record LaysHotPages (format : Format) (old : Seen) (c : Course) (new : Seen) : Type 0 where
  pub hot : new.side.hot ≡ hot_list c.ended
  pub pages : (page : ℕ) → Contains (map (λ entry. entry.page) new.side.board) page
      ↔ Contains (to_lay c.world new.side) page
  pub once : AllPairs (λ a b. a.page ≢ b.page) new.side.board
  pub laid : All IsNewlyLaid new.side.board
  pub lacks : (page spare : ℕ) → Contains new.side.hot page → is_given new.side page ≡ false → spare < SPARES
      → (is_given_to_hot new.side spare ≡ true)
      ⊎ (format.spare_has (durable_of new.words) c.world.version spare ≡ true)
  pub given : (spare : ℕ) → new.side.given spare ≢ old.side.given spare → IsToGive format old c.world spare

-- where a turn opened the board
abbrev pub IfOpened : Format → Seen → Course → Seen → Type 0
IfOpened format old c new =
    old.side.is_open ≡ false → new.side.is_open ≡ true → LaysHotPages format old c new
