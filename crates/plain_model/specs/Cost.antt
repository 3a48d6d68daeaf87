-- What a checkpoint of a world may cost, in operations on the memory; those by which a core prepares a page to be stored to
-- aren't counted.
use Rattle.std.specs.Prelude.{ℕ, ◌+◌, ◌*◌, ◌||◌, not, Bool, true, false, List, length, filter, is_some}
use Rattle.plain_state.specs.Objects.{every_object, every_page}
use Rattle.plain_state.specs.Worlds.{World, has_page}
use Rattle.plain_state.specs.Sweep.{swept, is_swept_otherwise}

-- how many numbers pass a test
abbrev pub count_of : List ℕ → (ℕ → Bool) → ℕ
count_of numbers test = length (filter test numbers)

-- one of them holds and the other doesn't
abbrev pub differ : Bool → Bool → Bool
differ true b = not b
differ false b = b

-- an object is written by the checkpoint: it was changed, or the sweep makes it another
abbrev pub is_written : World → ℕ → Bool
is_written w i = w.changed i || is_swept_otherwise w.now i

-- a number comes into use or goes: exactly one of the saved state and the one that will be saved has it

abbrev pub object_turns : World → ℕ → Bool
object_turns w i = differ (is_some (w.saved.objects i)) (is_some ((swept w.now).objects i))

abbrev pub page_turns : World → ℕ → Bool
page_turns w page = differ (has_page w.saved page) (has_page (swept w.now) page)

-- Eight for each page stored to, each object written and each number that comes into use or goes, and 64 for the rest.
abbrev pub cost : World → ℕ
cost w =
    8 * (count_of every_page w.stored + count_of every_object (is_written w) + count_of every_object (object_turns w)
    + count_of every_page (page_turns w)) + 64
