-- Which answers a machine may give in a world, and how its side goes on with each. The last field of each row, `rest`,
-- is one equation: nothing else of the side is other afterwards.
use Rattle.std.specs.Prelude.{◌≡◌, ◌≢◌, ◌⊎◌, ℕ, ◌+◌, ◌*◌, ◌<◌, ◌≤◌, ◌==◌, ◌||◌, Bool, true, false, if◌then◌else◌, List, length, map, All, Option, Some, None, slice_set}
use Rattle.sls_base.specs.declared.limits.TheConstants.{LAST_VERSION}
use Rattle.sls_base.specs.declared.fixed.TheConstants.{LEADER}
use Rattle.plain_state.specs.declared.label.Reply.{Reply}
use Rattle.plain_state.specs.declared.label.Reply.TheVariants as reply
use Rattle.plain_model.specs.Worlds.{World, has_page}
use Rattle.plain_model.specs.Ticks.{tick_reply, touches, must_store}
use Rattle.plain_model.specs.Cost.{cost}
use Rattle.machine_contract.specs.declared.bounds.TheConstants.{MOST_DUE, COPY_TURNS, MOST_PREPARES}
use Rattle.machine_contract.specs.declared.answers.Did.{Did}
use Rattle.machine_contract.specs.declared.answers.Did.TheVariants as did
use Rattle.machine_contract.specs.declared.answers.Why.{Why}
use Rattle.machine_contract.specs.declared.answers.Why.TheVariants as why
use Rattle.machine_contract.specs.declared.answers.Asked.{Asked}
use Rattle.machine_contract.specs.declared.answers.Asked.TheVariants as asked
use Rattle.machine_contract.specs.Side.{Mode, Formatting, Recovering, Running, BeforeCommit, AfterCommit, IsStarting, InCheckpoint, CoreSide, IsFree, BoardEntry, Side, core_at, entry_at, none_spent, with_at}

-- Words of the rows: cores.

-- this core may be other, and no other core is
abbrev pub cores_but : Side → ℕ → Side → List CoreSide
cores_but old core new = slice_set old.cores core (core_at new core)

-- none, or this number
abbrev pub IsOrNone : Option ℕ → ℕ → Type 0
IsOrNone named k = (named ≡ None) ⊎ (named ≡ Some k)

-- fewer turns are due of the core
abbrev pub OwesLess : Side → ℕ → Side → Type 0
OwesLess old core new = (core_at new core).due < (core_at old core).due

-- no core prepares a page
abbrev pub NonePrepares : Side → Type 0
NonePrepares side = (core : ℕ) → (core_at side core).prepares ≡ None

-- the machine runs, and the core has nothing in hand: its next turn is a tick, unless something stands in its way
pub record IsAtTick (side : Side) (core : ℕ) : Type 0 where
  pub runs : side.mode ≡ Running
  pub free : IsFree (core_at side core)

-- Words of the rows: the board.

-- an entry is home
abbrev pub IsHome : BoardEntry → Type 0
IsHome entry = entry.home ≡ true

-- an entry was drawn by a helper
abbrev pub IsDrawn : BoardEntry → Type 0
IsDrawn entry = entry.drawn ≡ true

-- a page is away: an entry of it is
abbrev pub IsAway : List BoardEntry → ℕ → Type 0
IsAway board page =
    (entry : ℕ) × (entry < length board) × ((entry_at board entry).page ≡ page)
    × ((entry_at board entry).home ≡ false)

-- the core's helper holds an entry of the page
abbrev pub HoldsPage : Side → ℕ → ℕ → Type 0
HoldsPage side core page =
    (entry : ℕ) × ((core_at side core).holds ≡ Some entry) × ((entry_at side.board entry).page ≡ page)

-- a page is at hand: it isn't away, and no core prepares it
pub record IsAtHand (side : Side) (page : ℕ) : Type 0 where
  pub home : IsAway side.board page → ⊥
  pub unprepared : (core : ℕ) → (core_at side core).prepares ≢ Some page

-- entries of a board came home, and nothing else happened to it
pub record OnlyComeHome (old new : List BoardEntry) : Type 0 where
  pub count : length new ≡ length old
  pub page : (i : ℕ) → (entry_at new i).page ≡ (entry_at old i).page
  pub drawn : (i : ℕ) → (entry_at new i).drawn ≡ (entry_at old i).drawn
  pub home : (i : ℕ) → (entry_at old i).home ≡ true → (entry_at new i).home ≡ true

-- an entry, at home if it is of the page
abbrev pub homed : ℕ → BoardEntry → BoardEntry
homed page entry = if entry.page == page then record entry { home = true } else entry

-- the board with the page at home
abbrev pub brought_home : List BoardEntry → ℕ → List BoardEntry
brought_home board page = map (homed page) board

-- the board with one more entry drawn
abbrev pub with_drawn : List BoardEntry → ℕ → List BoardEntry
with_drawn board entry = slice_set board entry (record (entry_at board entry) { drawn = true })

-- who draws an entry holds it, unless it is home already
abbrev pub held_if_away : BoardEntry → ℕ → Option ℕ
held_if_away drawn entry = if drawn.home then None else Some entry

-- Rows of the running machine.

-- Nothing stands in the way of a tick: each page that it touches is at hand, and each page of the running state that it
-- must store to may be stored to.
pub record MayTick (w : World) (side : Side) (core : ℕ) : Type 0 where
  pub touched : (page : ℕ) → touches w core page ≡ true → IsAtHand side page
  pub stored : (page : ℕ) → must_store w core page ≡ true → has_page w.now page ≡ true → side.writable page ≡ true

-- the tick was one of a retired call that wishes for a checkpoint
abbrev pub is_wished : Reply → Bool
is_wished reply.Wished = true
is_wished _ = false

-- Retired: a tick, whole
pub record Retires (w : World) (old : Side) (core : ℕ) (new : Side) : Type 0 where
  pub at_tick : IsAtTick old core
  pub may : MayTick w old core
  pub reply : (tick_reply w core ≡ reply.Retired) ⊎ (tick_reply w core ≡ reply.Wished)
  pub rest : new ≡ record old { wish = old.wish || is_wished (tick_reply w core) }

-- Idle: a tick for which there is no thread
pub record Idles (w : World) (old : Side) (core : ℕ) (new : Side) : Type 0 where
  pub at_tick : IsAtTick old core
  pub reply : tick_reply w core ≡ reply.Idle
  pub rest : new ≡ old

-- the core's helper goes on with the entry that it holds, and may let go of it
pub record GoesOn (old : Side) (core entry : ℕ) (new : Side) : Type 0 where
  pub holds : (core_at old core).holds ≡ Some entry
  pub prepares : (core_at new core).prepares ≡ (core_at old core).prepares
  pub holds_then : IsOrNone (core_at new core).holds entry
  pub due : OwesLess old core new
  pub rest : new ≡ record old { cores = cores_but old core new }

-- Inner(Copy): the core's helper goes on with its entry, by one turn of those that are due
pub record Copies (old : Side) (core entry : ℕ) (new : Side) : Type 0 where
  pub runs : old.mode ≡ Running
  pub step : GoesOn old core entry new
  pub by_one : (core_at new core).due + 1 ≡ (core_at old core).due

-- the core begins to prepare a page of the running state that is at hand, to which its tick must store and may not yet
pub record BeginsPage (w : World) (old : Side) (core page : ℕ) : Type 0 where
  pub at_tick : IsAtTick old core
  pub there : has_page w.now page ≡ true
  pub stores : must_store w core page ≡ true
  pub not_yet : old.writable page ≡ false
  pub at_hand : IsAtHand old page

-- where no turn is due then, the page may be stored to
abbrev pub writable_if_done : Side → ℕ → ℕ → ℕ → Bool
writable_if_done old page due = if due == 0 then with_at old.writable page true else old.writable

-- Inner(Prepare): a turn of preparing a page, the first or a further one
pub record Prepares (w : World) (old : Side) (core page : ℕ) (new : Side) : Type 0 where
  pub up : (old.mode ≡ Running) ⊎ InCheckpoint old.mode
  pub why : ((core_at old core).prepares ≡ Some page) ⊎ BeginsPage w old core page
  pub spent : old.spent page < MOST_PREPARES
  pub due : (core_at old core).prepares ≡ Some page → OwesLess old core new
  pub prepares : IsOrNone (core_at new core).prepares page
  pub holds : (core_at new core).holds ≡ (core_at old core).holds
  pub rest : new ≡ record old {
    cores = cores_but old core new;
    spent = with_at old.spent page (old.spent page + 1);
    writable = writable_if_done old page (core_at new core).due;
  }

-- Inner(Home): a page that the tick touches comes home from the board; where the tick must store to it, the core may
-- prepare it from then on
pub record ComesHome (w : World) (old : Side) (core page : ℕ) (new : Side) : Type 0 where
  pub at_tick : IsAtTick old core
  pub touched : touches w core page ≡ true
  pub away : IsAway old.board page
  pub prepares : IsOrNone (core_at new core).prepares page
  pub stores : (core_at new core).prepares ≡ Some page → must_store w core page ≡ true
  pub holds : (core_at new core).holds ≡ None
  pub rest : new ≡ record old { cores = cores_but old core new; board = brought_home old.board page }

-- Inner(Wait): a page that the tick touches is in another core's hands
pub record Waits (w : World) (old : Side) (core page other : ℕ) (new : Side) : Type 0 where
  pub at_tick : IsAtTick old core
  pub touched : touches w core page ≡ true
  pub why : ((core_at old other).prepares ≡ Some page) ⊎ HoldsPage old other page
  pub rest : new ≡ old

-- Rows of a checkpoint.

-- the leader waits for another core that has something in hand; no board is open yet
pub record WaitsForCore (old new : Side) : Type 0 where
  pub left : new.left ≡ old.left
  pub closed : new.is_open ≡ false
  pub due : (other : ℕ) × (other ≢ LEADER) × (0 < (core_at old other).due)

-- the leader keeps the mode, or ends a checkpoint that has committed
abbrev pub LeaderGoes : Mode → Mode → Type 0
LeaderGoes old new = (new ≡ old) ⊎ (old ≡ AfterCommit) × (new ≡ Running)

-- the leader brings entries home
pub record KeepsBoard (old new : Side) : Type 0 where
  pub is_open : new.is_open ≡ old.is_open
  pub given : new.given ≡ old.given
  pub board : OnlyComeHome old.board new.board

-- The leader opens the board of this checkpoint, before its commit, when all cores are free and all entries of the
-- board before it are home. The turns of the helpers that copy the new entries are turns less for the leader.
pub record Opens (old new : Side) : Type 0 where
  pub before : old.mode ≡ BeforeCommit
  pub closed : old.is_open ≡ false
  pub opened : new.is_open ≡ true
  pub free : (core : ℕ) → IsFree (core_at old core)
  pub home : All IsHome old.board
  pub left : new.left + COPY_TURNS * length new.board < old.left

-- Inner(Lead): a turn of the leader
pub record Leads (old : Side) (core : ℕ) (new : Side) : Type 0 where
  pub mode : InCheckpoint old.mode
  pub leader : core ≡ LEADER
  pub prepares : (core_at old core).prepares ≡ None
  pub left : (new.left < old.left) ⊎ WaitsForCore old new
  pub goes : LeaderGoes old.mode new.mode
  pub board : KeepsBoard old new ⊎ Opens old new
  pub rest : new ≡ record old {
    mode = new.mode;
    left = new.left;
    board = new.board;
    is_open = new.is_open;
    given = new.given;
  }

-- A helper with nothing in hand draws an entry of the open board, and holds it then unless it is home.
pub record Draws (old : Side) (core entry : ℕ) (new : Side) : Type 0 where
  pub none : (core_at old core).holds ≡ None
  pub is_open : old.is_open ≡ true
  pub in_range : entry < length old.board
  pub undrawn : (entry_at old.board entry).drawn ≡ false
  pub prepares : (core_at new core).prepares ≡ None
  pub holds : (core_at new core).holds ≡ held_if_away (entry_at old.board entry) entry
  pub rest : new ≡ record old { cores = cores_but old core new; board = with_drawn old.board entry }

-- it finds none: all are drawn, or the board isn't open
pub record FindsNone (old : Side) (core : ℕ) (new : Side) : Type 0 where
  pub none : (core_at old core).holds ≡ None
  pub why : All IsDrawn old.board ⊎ (old.is_open ≡ false)
  pub rest : new ≡ old

-- a step of the core's helper
abbrev pub HelperSteps : Side → ℕ → Side → Type 0
HelperSteps old core new =
    ((entry : ℕ) × GoesOn old core entry new) ⊎ (((entry : ℕ) × Draws old core entry new) ⊎ FindsNone old core new)

-- Inner(Help): a step of the helper of a core
pub record Helps (old : Side) (core : ℕ) (new : Side) : Type 0 where
  pub mode : InCheckpoint old.mode
  pub other : core ≢ LEADER
  pub prepares : (core_at old core).prepares ≡ None
  pub step : HelperSteps old core new

-- an entry that gives a helper nothing to do
abbrev pub IsDrawnOrHome : BoardEntry → Type 0
IsDrawnOrHome entry = IsDrawn entry ⊎ IsHome entry

-- the leader alone has something to do, or the core is free in a checkpoint that gives helpers nothing to do
abbrev pub HasNothingToDo : Side → ℕ → Type 0
HasNothingToDo side core =
    IsStarting side.mode ⊎ InCheckpoint side.mode × IsFree (core_at side core) × All IsDrawnOrHome side.board

-- Inner(Paused): there is nothing to do for the core
pub record Pauses (old : Side) (core : ℕ) (new : Side) : Type 0 where
  pub other : core ≢ LEADER
  pub why : HasNothingToDo old core
  pub rest : new ≡ old

-- the version that a checkpoint makes is the next one, and there is one more
pub record IsNext (w : World) (version : ℕ) : Type 0 where
  pub next : version ≡ w.version + 1
  pub in_range : version ≤ LAST_VERSION

-- Committed: the leader's fence commits, and may end the checkpoint
pub record Commits (w : World) (old : Side) (core version : ℕ) (new : Side) : Type 0 where
  pub mode : old.mode ≡ BeforeCommit
  pub leader : core ≡ LEADER
  pub prepares : NonePrepares old
  pub next : IsNext w version
  pub left : new.left < old.left
  pub goes : (new.mode ≡ AfterCommit) ⊎ (new.mode ≡ Running)
  pub rest : new ≡ record old {
    mode = new.mode;
    left = new.left;
    spent = none_spent;
    writable = new.writable;
    hot = new.hot;
  }

-- Rows of formatting and recovery.

-- spares are given anew by recovery alone
abbrev pub GivenAnew : Side → Side → Type 0
GivenAnew old new = (old.mode ≡ Recovering) ⊎ (new.given ≡ old.given)

-- Inner(Format), Inner(Recover): a turn of the leader
pub record Starts (mode : Mode) (old : Side) (core : ℕ) (new : Side) : Type 0 where
  pub mode_is : old.mode ≡ mode
  pub leader : core ≡ LEADER
  pub left : new.left < old.left
  pub given : GivenAnew old new
  pub rest : new ≡ record old { left = new.left; given = new.given }

-- Up: the leader's last turn
pub record GoesUp (w : World) (old : Side) (core version : ℕ) (new : Side) : Type 0 where
  pub mode : IsStarting old.mode
  pub leader : core ≡ LEADER
  pub version_is : version ≡ w.version
  pub left : 0 < old.left
  pub given : GivenAnew old new
  pub rest : new ≡ record old {
    mode = Running;
    left = 0;
    spent = none_spent;
    writable = new.writable;
    given = new.given;
  }

-- Turns.

-- what a turn may do of which a program sees nothing
abbrev pub IsLawfulInner : World → Side → ℕ → Why → Side → Type 0
IsLawfulInner w old core (why.Copy entry) new = Copies old core entry new
IsLawfulInner w old core (why.Prepare page) new = Prepares w old core page new
IsLawfulInner w old core (why.Home page) new = ComesHome w old core page new
IsLawfulInner w old core (why.Wait page other) new = Waits w old core page other new
IsLawfulInner w old core why.Lead new = Leads old core new
IsLawfulInner w old core why.Help new = Helps old core new
IsLawfulInner w old core why.Paused new = Pauses old core new
IsLawfulInner w old core why.Format new = Starts Formatting old core new
IsLawfulInner w old core why.Recover new = Starts Recovering old core new

-- The answers that a turn of a core may have, by the world and the side before it, and how the side goes on.
abbrev pub IsLawful : World → Side → ℕ → Did → Side → Type 0
IsLawful w old core did.Retired new = Retires w old core new
IsLawful w old core did.Idle new = Idles w old core new
IsLawful w old core (did.Inner why) new = IsLawfulInner w old core why new
IsLawful w old core (did.Committed version) new = Commits w old core version new
IsLawful w old core (did.Up version) new = GoesUp w old core version new

-- Other calls.

-- the entry is home afterwards, or a helper holds it
abbrev pub IsHomeOrHeld : Side → Side → ℕ → Type 0
IsHomeOrHeld old new entry =
    ((entry_at new.board entry).home ≡ true) ⊎ ((core : ℕ) × ((core_at old core).holds ≡ Some entry))

-- Started: a checkpoint begins. Each entry that no helper holds is home. The turns of the leader to come, and those by
-- which other cores let go of what they have in hand, are no more than the cost.
pub record Begins (w : World) (old new : Side) : Type 0 where
  pub runs : old.mode ≡ Running
  pub in_range : w.version < LAST_VERSION
  pub left : new.left + MOST_DUE ≤ cost w
  pub board : OnlyComeHome old.board new.board
  pub home : (entry : ℕ) → entry < length old.board → IsHomeOrHeld old new entry
  pub rest : new ≡ record old {
    mode = BeforeCommit;
    left = new.left;
    board = new.board;
    is_open = false;
    wish = false;
  }

-- VersionSpent: the version is the last one, and no checkpoint is in flight
pub record IsSpent (w : World) (old : Side) (version : ℕ) (new : Side) : Type 0 where
  pub runs : old.mode ≡ Running
  pub version_is : version ≡ w.version
  pub last : version ≡ LAST_VERSION
  pub rest : new ≡ old

-- the answers that an ask for a checkpoint may have
abbrev pub IsLawfulAsked : World → Side → Asked → Side → Type 0
IsLawfulAsked w old asked.Started new = Begins w old new
IsLawfulAsked w old asked.InFlight new = InCheckpoint old.mode × (new ≡ old)
IsLawfulAsked w old (asked.VersionSpent version) new = IsSpent w old version new
IsLawfulAsked w old asked.Memory new = new ≡ old

-- a write-back commits, and the leader goes on
pub record CommitsBack (w : World) (old : Side) (version : ℕ) (new : Side) : Type 0 where
  pub mode : old.mode ≡ BeforeCommit
  pub prepares : NonePrepares old
  pub next : IsNext w version
  pub rest : new ≡ record old { mode = AfterCommit; spent = none_spent; writable = new.writable; hot = new.hot }

-- the answers that a write-back may have
abbrev pub IsLawfulBack : World → Side → Option ℕ → Side → Type 0
IsLawfulBack w old None new = new ≡ old
IsLawfulBack w old (Some version) new = CommitsBack w old version new

-- the wish is told, and forgotten
pub record ForgetsWish (old : Side) (wish : Bool) (new : Side) : Type 0 where
  pub told : wish ≡ old.wish
  pub rest : new ≡ record old { wish = false }
