-- The operations that a machine may still do for what it is at, and those that answers allow beside.
use Rattle.std.specs.Prelude.{ℕ, ◌+◌, ◌*◌, not, is_some, if◌then◌else◌, List, ◌∷◌, count_by, sum_by}
use Rattle.plain_model.specs.Worlds.{World}
use Rattle.plain_model.specs.Cost.{cost}
use Rattle.machine_contract.specs.declared.bounds.TheConstants.{COPY_TURNS, START_TURNS}
use Rattle.machine_contract.specs.declared.answers.Event.{Event}
use Rattle.machine_contract.specs.declared.answers.Answer.{Answer}
use Rattle.machine_contract.specs.declared.answers.Answer.TheVariants as told
use Rattle.machine_contract.specs.declared.answers.Did.{Did}
use Rattle.machine_contract.specs.declared.answers.Did.TheVariants as did
use Rattle.machine_contract.specs.declared.answers.Why.TheVariants as why
use Rattle.machine_contract.specs.declared.answers.Asked.{Asked}
use Rattle.machine_contract.specs.declared.answers.Asked.TheVariants as asked
use Rattle.machine_contract.specs.Side.{BoardEntry, CoreSide, Side}
use Rattle.machine_contract.specs.Courses.{Course, label_of, after}

-- The budget of a side.

-- the turns that are due of a core's helper for the entry that it holds
abbrev pub copy_due : CoreSide → ℕ
copy_due core = if is_some core.holds then core.due else 0

-- how many entries of a board may still be drawn
abbrev pub undrawn_count : List BoardEntry → ℕ
undrawn_count board = count_by (λ entry. not entry.drawn) board

-- the turns of helpers for these
abbrev pub draw_due : Side → ℕ
draw_due side = if side.is_open then COPY_TURNS * undrawn_count side.board else 0

-- The turns that are left to the leader, those that are due of helpers, and those for what they may still draw. In each
-- of these at most one operation is done.
abbrev pub budget : Side → ℕ
budget side = side.left + sum_by copy_due side.cores + draw_due side

-- What an answer allows beside.

-- two operations for a retired tick, one for a turn of preparing a page
abbrev pub did_allows : Did → ℕ
did_allows did.Retired = 2
did_allows (did.Inner (why.Prepare page)) = 1
did_allows _ = 0

-- the cost of a checkpoint that begins
abbrev pub asked_allows : World → Asked → ℕ
asked_allows w asked.Started = cost w
asked_allows w _ = 0

-- these, and the turns of formatting or recovery after a cut
abbrev pub allows : World → Answer → ℕ
allows w (told.Did did) = did_allows did
allows w (told.Asked asked) = asked_allows w asked
allows w (told.Restarted version) = START_TURNS
allows w _ = 0

-- what all answers of a play allow
abbrev pub allowed : List Event → List Answer → Course → ℕ
allowed (event ∷ events) (answer ∷ answers) c =
    allows c.world answer + allowed events answers (after c (label_of event answer))
allowed events answers c = 0
