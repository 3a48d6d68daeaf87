-- What a step makes of the work, and of all words of the memory.
use Rattle.std.specs.Prelude.{◌≡◌, ◌⊎◌, ℕ, ◌+◌, ◌-◌, ◌*◌, ◌/◌, ◌^◌, ◌<◌, ◌≤◌, false, min, List, slice_index}
use Rattle.sls_base.specs.declared.limits.TheConstants.{LINE_WORDS}
use Rattle.sls_base.specs.declared.fixed.TheConstants.{LEADER}
use Rattle.pmem_model.specs.Words.{Word}
use Rattle.pmem_layout.specs.declared.format.TheConstants.{EMPTY_WORD}
use Rattle.pmem_layout.specs.declared.places.TheConstants.{LOG_HEAD_AT, LOG_ENTRIES_AT, OBJECT_BASE_AT, BASE_BITS, NUMBERS}
use Rattle.pmem_layout.specs.Places.{log_entry_at}
use Rattle.pmem_layout.specs.Numbers.{base_at}
use Rattle.alloc_journal.specs.declared.journal.TheConstants.{BASE_LINES}
use Rattle.alloc_journal.specs.declared.journal.Stage.{Stage}
use Rattle.alloc_journal.specs.declared.journal.Stage.TheVariants.{Rest, StoringEntries, EntriesInFlight, EntriesDurable, HeadStored, HeadInFlight, Logged, Redoing, BaseInFlight, BaseDurable, HeadCleared, ClearInFlight}
use Rattle.alloc_journal.specs.Sets.{has, differ, IsLeast, IsEmpty, Puts}
use Rattle.alloc_journal.specs.Format.{number_of, comes, base_bit, count_at}
use Rattle.alloc_journal.specs.Work.{Work}
use Rattle.alloc_journal.specs.Operations.{Stores, Flushes, Fences, SameWords}

-- Writing the log of the next version.

-- It is begun: these numbers are to be in use at that version, and those that change are pending.
pub record Begins (running : List ℕ) (w new : Work) : Type 0 where
  pub pending : (n : ℕ) → n < NUMBERS → has new.pending n ≡ differ (has w.committed n) (has running n)
  pub work : new ≡ record w { logged = running; pending = new.pending; stage = StoringEntries; entries = 0 }

-- The entry of the least number that is pending is stored behind the others.
pub record StoresEntry (w : Work) (f : ℕ → Word) (new : Work) (g : ℕ → Word) : Type 0 where
  pub entry : ℕ
  pub least : IsLeast w.pending (number_of entry)
  pub says : comes entry ≡ has w.logged (number_of entry)
  pub stored : Stores (log_entry_at w.entries) entry f g
  pub pending : Puts (number_of entry) false w.pending new.pending
  pub work : new ≡ record w { pending = new.pending; entries = w.entries + 1 }

-- how many lines some entries stand in, at least one
abbrev pub lines_of : ℕ → ℕ
lines_of entries = (entries - 1) / LINE_WORDS + 1

-- No number is pending, and the entries are flushed.
pub record FlushesEntries (w : Work) (f : ℕ → Word) (new : Work) (g : ℕ → Word) : Type 0 where
  pub none : IsEmpty w.pending
  pub flushed : Flushes LEADER LOG_ENTRIES_AT (lines_of w.entries) f g
  pub work : new ≡ record w { stage = EntriesInFlight }

abbrev pub StoresOrFlushes : Work → (ℕ → Word) → Work → (ℕ → Word) → Type 0
StoresOrFlushes w f new g = StoresEntry w f new g ⊎ FlushesEntries w f new g

-- Redoing the log of the committed version.

-- The next entry is redone: the committed numbers are as it says, and the word of the base for its number is stored.
pub record RedoesEntry (entry : ℕ) (w : Work) (f : ℕ → Word) (new : Work) (g : ℕ → Word) : Type 0 where
  pub some : w.redone < w.entries
  pub inside : number_of entry < NUMBERS
  pub committed : Puts (number_of entry) (comes entry) w.committed new.committed
  pub stored : Stores (base_at (number_of entry)) (slice_index new.committed (number_of entry / BASE_BITS)) f g
  pub work : new ≡ record w { committed = new.committed; redone = w.redone + 1 }

-- It is passed over, since there is no such number.
pub record PassesEntry (entry : ℕ) (w : Work) (f : ℕ → Word) (new : Work) (g : ℕ → Word) : Type 0 where
  pub some : w.redone < w.entries
  pub outside : NUMBERS ≤ number_of entry
  pub words : SameWords f g
  pub work : new ≡ record w { redone = w.redone + 1 }

-- All entries are redone, and the base is flushed.
pub record FlushesBase (w : Work) (f : ℕ → Word) (new : Work) (g : ℕ → Word) : Type 0 where
  pub all : w.entries ≤ w.redone
  pub flushed : Flushes LEADER OBJECT_BASE_AT BASE_LINES f g
  pub work : new ≡ record w { stage = BaseInFlight }

abbrev pub next_entry : Work → (ℕ → Word) → ℕ
next_entry w f = (f (log_entry_at w.redone)).cached

abbrev pub RedoesOrFlushes : Work → (ℕ → Word) → Work → (ℕ → Word) → Type 0
RedoesOrFlushes w f new g =
    RedoesEntry (next_entry w f) w f new g ⊎ (PassesEntry (next_entry w f) w f new g ⊎ FlushesBase w f new g)

-- A step at each stage. Where nothing is left to do, it does nothing.

abbrev pub RedoesAt : Stage → Work → (ℕ → Word) → Work → (ℕ → Word) → Type 0
RedoesAt Redoing w f new g = RedoesOrFlushes w f new g
RedoesAt BaseInFlight w f new g = (new ≡ record w { stage = BaseDurable }) × Fences LEADER f g
RedoesAt BaseDurable w f new g = (new ≡ record w { stage = HeadCleared }) × Stores LOG_HEAD_AT EMPTY_WORD f g
RedoesAt HeadCleared w f new g = (new ≡ record w { stage = ClearInFlight }) × Flushes LEADER LOG_HEAD_AT 1 f g
RedoesAt ClearInFlight w f new g = (new ≡ record w { stage = Rest; entries = 0 }) × Fences LEADER f g
RedoesAt stage w f new g = (new ≡ w) × SameWords f g

abbrev pub Redoes : Work → (ℕ → Word) → Work → (ℕ → Word) → Type 0
Redoes w f new g = RedoesAt w.stage w f new g

-- where a log is still to be redone, the log of the next version waits for that
abbrev pub LogsAt : Stage → List ℕ → Work → (ℕ → Word) → Work → (ℕ → Word) → Type 0
LogsAt Rest running w f new g = (begun : Work) × Begins running w begun × StoresOrFlushes begun f new g
LogsAt StoringEntries running w f new g = StoresOrFlushes w f new g
LogsAt EntriesInFlight running w f new g = (new ≡ record w { stage = EntriesDurable }) × Fences LEADER f g
LogsAt EntriesDurable running w f new g =
    (new ≡ record w { stage = HeadStored }) × Stores LOG_HEAD_AT ((w.version + 1) * 2 ^ 16 + w.entries) f g
LogsAt HeadStored running w f new g = (new ≡ record w { stage = HeadInFlight }) × Flushes LEADER LOG_HEAD_AT 1 f g
LogsAt HeadInFlight running w f new g = (new ≡ record w { stage = Logged }) × Fences LEADER f g
LogsAt stage running w f new g = RedoesAt stage w f new g

abbrev pub Logs : List ℕ → Work → (ℕ → Word) → Work → (ℕ → Word) → Type 0
Logs running w f new g = LogsAt w.stage running w f new g

-- What is known behind a cut: the committed numbers are the base's, and the entries that count are to be redone.
pub record Recovers (version : ℕ) (f : ℕ → Word) (w : Work) : Type 0 where
  pub version_is : w.version ≡ version
  pub committed : (n : ℕ) → n < NUMBERS → has w.committed n ≡ base_bit (λ i. (f i).cached) n
  pub stage : w.stage ≡ Redoing
  pub entries : w.entries ≡ min (count_at (λ i. (f i).cached) version) NUMBERS
  pub redone : w.redone ≡ 0
