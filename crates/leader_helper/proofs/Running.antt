-- Rooms with other numbers in use.
use Rattle.std.specs.Prelude.{◌≡◌, ℕ, List}
use Rattle.std.proofs.Common.{ap, ◌∙◌}
use Rattle.pmem_model.specs.Words.{Word}
use Rattle.page_store.specs.Known.{Phase}
use Rattle.version_rooms.specs.declared.rooms.Rooms.{Rooms}
use Rattle.version_rooms.specs.Rooms.{Contents, RoomsShow}

abbrev pub with_running : Rooms → List ℕ → Rooms
with_running r running = record r { numbers = record r.numbers { running = running } }

pub running_again : (a b c : Rooms) → b ≡ with_running a b.numbers.running → c ≡ with_running b c.numbers.running
    → c ≡ with_running a c.numbers.running
running_again a b c first then = then ∙ ap (λ (r : Rooms). with_running r c.numbers.running) first

-- The words show the same, whichever numbers run.
pub running_shows : (r : Rooms) (running : List ℕ) (f : ℕ → Word) (v : ℕ) (c : Contents) (phase : Phase)
    → RoomsShow r f v c phase → RoomsShow (with_running r running) f v c phase
running_shows r running f v c phase shows = record {
  version = shows.version;
  keep = record {
    in_range = shows.keep.in_range;
    fixed = shows.keep.fixed;
    numbers = shows.keep.numbers;
    objects = shows.keep.objects;
    pages = shows.keep.pages;
  };
}
