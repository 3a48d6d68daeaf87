-- What contracts see of the numbers in use, and how far the work on the memory has come.
use Rattle.std.specs.Prelude.{◌≡◌, ℕ, ◌+◌, ◌-◌, ◌<◌, ◌≤◌, ◌||◌, Bool, true, false, if◌then◌else◌, List}
use Rattle.sls_base.specs.declared.limits.TheConstants.{LAST_VERSION}
use Rattle.pmem_layout.specs.declared.places.TheConstants.{NUMBERS}
use Rattle.alloc_journal.specs.declared.journal.Stage.{Stage}
use Rattle.alloc_journal.specs.declared.journal.Stage.TheVariants.{Unformatted, FirstStored, FirstInFlight, StoringEntries, EntriesInFlight, EntriesDurable, HeadStored, HeadInFlight, Logged, Redoing, BaseInFlight, BaseDurable, HeadCleared, ClearInFlight}
use Rattle.alloc_journal.specs.declared.journal.Journal.{Journal}
use Rattle.alloc_journal.specs.Sets.{has, count_of, changes}

-- the committed version; the numbers that are in use at it, those that are to be in use at the next one, and those that
-- an entry is still to be stored for; the stage; how many entries the log has, and how many of them are redone
pub record Work : Type 0 where
  pub version : ℕ
  pub committed : List ℕ
  pub logged : List ℕ
  pub pending : List ℕ
  pub stage : Stage
  pub entries : ℕ
  pub redone : ℕ

abbrev pub work_of : Journal → Work
work_of j = record {
  version = j.version;
  committed = j.committed;
  logged = j.logged;
  pending = j.pending;
  stage = j.stage;
  entries = j.entries;
  redone = j.redone;
}

-- the numbers in use in the running state, and the work
pub record InUse : Type 0 where
  pub running : List ℕ
  pub work : Work

-- whether a number is in use, in the running or the committed state
abbrev pub is_used : InUse → ℕ → Bool
is_used u n = has u.running n || has u.work.committed n

-- The memory is formatted.
abbrev pub is_formatting : Stage → Bool
is_formatting Unformatted = true
is_formatting FirstStored = true
is_formatting FirstInFlight = true
is_formatting _ = false

-- The log of the committed version is redone: its head may name that version.
abbrev pub is_redo : Stage → Bool
is_redo Redoing = true
is_redo BaseInFlight = true
is_redo BaseDurable = true
is_redo HeadCleared = true
is_redo ClearInFlight = true
is_redo _ = false

-- The log of the next version is written.
abbrev pub is_logging : Stage → Bool
is_logging StoringEntries = true
is_logging EntriesInFlight = true
is_logging EntriesDurable = true
is_logging HeadStored = true
is_logging HeadInFlight = true
is_logging Logged = true
is_logging _ = false

abbrev pub is_logged : Stage → Bool
is_logged Logged = true
is_logged _ = false

-- How many steps are left: one for each entry that is still to be stored or redone, and five that flush, fence, and
-- store or clear the head.

abbrev pub log_left_at : Stage → ℕ → ℕ
log_left_at StoringEntries pending = pending + 5
log_left_at EntriesInFlight pending = 4
log_left_at EntriesDurable pending = 3
log_left_at HeadStored pending = 2
log_left_at HeadInFlight pending = 1
log_left_at _ pending = 0

abbrev pub log_left : Work → ℕ
log_left w = log_left_at w.stage (count_of (has w.pending) NUMBERS)

abbrev pub redo_left_at : Stage → ℕ → ℕ
redo_left_at Redoing entries = entries + 5
redo_left_at BaseInFlight entries = 4
redo_left_at BaseDurable entries = 3
redo_left_at HeadCleared entries = 2
redo_left_at ClearInFlight entries = 1
redo_left_at _ entries = 0

abbrev pub redo_left : Work → ℕ
redo_left w = redo_left_at w.stage (w.entries - w.redone)

-- each number that changes has an entry, stored or still to be stored
abbrev pub HasEntries : Stage → Work → Type 0
HasEntries StoringEntries w = w.entries + count_of (has w.pending) NUMBERS ≡ changes w.committed w.logged
HasEntries EntriesInFlight w = w.entries ≡ changes w.committed w.logged
HasEntries EntriesDurable w = w.entries ≡ changes w.committed w.logged
HasEntries HeadStored w = w.entries ≡ changes w.committed w.logged
HasEntries HeadInFlight w = w.entries ≡ changes w.committed w.logged
HasEntries Logged w = w.entries ≡ changes w.committed w.logged
HasEntries _ w = Unit {0}

-- what the private fields keep
pub record IsKept (w : Work) : Type 0 where
  pub most : w.entries ≤ NUMBERS
  pub room : w.stage ≡ StoringEntries → (n : ℕ) → n < NUMBERS → has w.pending n ≡ true → w.entries ≤ n
  pub has_entries : HasEntries w.stage w
  pub version : w.version ≤ LAST_VERSION
  pub next_version : is_logging w.stage ≡ true → w.version < LAST_VERSION

-- the work once the version that was logged is the committed one
abbrev pub as_committed : Work → Work
as_committed w = record {
  version = w.version + 1;
  committed = w.logged;
  logged = w.logged;
  pending = w.pending;
  stage = Redoing;
  entries = w.entries;
  redone = 0;
}

-- the same where it is logged, and else as it is
abbrev pub once_committed : Work → Work
once_committed w = if is_logged w.stage then as_committed w else w

-- The committed numbers are known.
abbrev pub IsExact : Work → (ℕ → Bool) → Type 0
IsExact w saved = (n : ℕ) → n < NUMBERS → has w.committed n ≡ saved n
