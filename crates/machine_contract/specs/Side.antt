-- The side: what a machine keeps beside the words of its memory, as plain data.
use Rattle.std.specs.Prelude.{◌≡◌, ◌⊎◌, ◌↔◌, ℕ, ◌<◌, ◌≤◌, ◌==◌, Bool, true, false, if◌then◌else◌, List, [], length, replicate, Option, Some, None, slice_index_or}
use Rattle.sls_base.specs.declared.fixed.TheConstants.{LEADER}
use Rattle.machine_contract.specs.declared.bounds.TheConstants.{MOST_DUE, COPY_TURNS}

-- What a machine does: it formats, it recovers, or it is up; then it runs, or a checkpoint is in flight that hasn't
-- committed yet or has.
pub data Mode : Type 0 where
  Formatting : Mode
  Recovering : Mode
  Running : Mode
  BeforeCommit : Mode
  AfterCommit : Mode

-- it is on its way up
abbrev pub IsStarting : Mode → Type 0
IsStarting mode = (mode ≡ Formatting) ⊎ (mode ≡ Recovering)

-- a checkpoint is in flight
abbrev pub InCheckpoint : Mode → Type 0
InCheckpoint mode = (mode ≡ BeforeCommit) ⊎ (mode ≡ AfterCommit)

-- it is up, in a checkpoint or not
abbrev pub IsUp : Mode → Type 0
IsUp mode = (mode ≡ Running) ⊎ InCheckpoint mode

-- Of a core: the page that it prepares, the entry of the board that its helper holds, and a bound on the turns that it
-- still needs until it lets go of that.
pub record CoreSide : Type 0 where
  pub prepares : Option ℕ
  pub holds : Option ℕ
  pub due : ℕ

-- a core that has nothing in hand
abbrev pub free_core : CoreSide
free_core = record { prepares = None; holds = None; due = 0 }

-- it prepares no page, and its helper holds no entry
abbrev pub IsFree : CoreSide → Type 0
IsFree core = (core.prepares ≡ None) × (core.holds ≡ None)

-- Of an entry of the board: its page, whether a helper drew it, and whether it is home.
pub record BoardEntry : Type 0 where
  pub page : ℕ
  pub drawn : Bool
  pub home : Bool

-- what is read behind the end of a board
abbrev pub no_entry : BoardEntry
no_entry = record { page = 0; drawn = false; home = false }

-- The side: what the machine does, and a bound on the turns of the leader that this still takes; what each core has in
-- hand; by how many turns each page was prepared since the last commit, cut or start, and which pages may be stored to;
-- the entries of the board, and whether the board of this checkpoint is open; the hot pages, and the page that each
-- spare is given to; and whether a checkpoint is wished for.
pub record Side : Type 0 where
  pub mode : Mode
  pub left : ℕ
  pub cores : List CoreSide
  pub spent : ℕ → ℕ
  pub writable : ℕ → Bool
  pub board : List BoardEntry
  pub is_open : Bool
  pub hot : List ℕ
  pub given : ℕ → Option ℕ
  pub wish : Bool

-- what a core has in hand; nothing where there is no such core
abbrev pub core_at : Side → ℕ → CoreSide
core_at side core = slice_index_or side.cores core free_core

-- an entry of a board
abbrev pub entry_at : List BoardEntry → ℕ → BoardEntry
entry_at board entry = slice_index_or board entry no_entry

-- no page was prepared
abbrev pub none_spent : ℕ → ℕ
none_spent page = 0

-- no page may be stored to
abbrev pub none_writable : ℕ → Bool
none_writable page = false

-- no spare is given to a page
abbrev pub none_given : ℕ → Option ℕ
none_given spare = None

-- a function with another value at one number
abbrev pub with_at : {A : Type 0} → (ℕ → A) → ℕ → A → ℕ → A
with_at f k x i = if i == k then x else f i

-- The side of a machine that begins to format or to recover: all cores are free, and there is no board.
abbrev pub begun : Mode → ℕ → ℕ → (ℕ → Option ℕ) → Side
begun mode left cores given = record {
  mode = mode;
  left = left;
  cores = replicate cores free_core;
  spent = none_spent;
  writable = none_writable;
  board = [];
  is_open = false;
  hot = [];
  given = given;
  wish = false;
}

-- What is so of each core at every moment: turns are due exactly where it has something in hand, and no more than the
-- bounds. It prepares a page or its helper holds an entry, never both.
pub record IsSoundCore (core : CoreSide) : Type 0 where
  pub due : (core.due ≡ 0) ↔ IsFree core
  pub most : core.due ≤ MOST_DUE
  pub copies : (entry : ℕ) → core.holds ≡ Some entry → core.due ≤ COPY_TURNS
  pub one : (core.prepares ≡ None) ⊎ (core.holds ≡ None)

-- What a helper holds was drawn, and is away.
pub record IsHeld (board : List BoardEntry) (entry : ℕ) : Type 0 where
  pub in_range : entry < length board
  pub drawn : (entry_at board entry).drawn ≡ true
  pub away : (entry_at board entry).home ≡ false

-- What is so of the side at every moment: the leader has no turn left exactly where the machine runs, in no checkpoint,
-- and it has no helper.
pub record IsSound (side : Side) : Type 0 where
  pub left : (side.left ≡ 0) ↔ (side.mode ≡ Running)
  pub cores : (core : ℕ) → IsSoundCore (core_at side core)
  pub leader : (core_at side LEADER).holds ≡ None
  pub held : (core entry : ℕ) → (core_at side core).holds ≡ Some entry → IsHeld side.board entry
