-- How the work on the numbers agrees with the words of the memory.
use Rattle.std.specs.Prelude.{◌≡◌, ◌≢◌, ℕ, ◌+◌, ◌*◌, ◌/◌, ◌^◌, ◌<◌, ◌≤◌, if◌then◌else◌, Bool, true, false}
use Rattle.pmem_model.specs.Words.{Word}
use Rattle.pmem_model.specs.Events.{Kind, Cached, Ready, Clean, Over, ReadyOver, WordIs}
use Rattle.pmem_layout.specs.declared.places.TheConstants.{LOG_HEAD_AT, OBJECT_BASE_AT, BASE_BITS, NUMBERS}
use Rattle.pmem_layout.specs.Places.{log_entry_at}
use Rattle.pmem_layout.specs.Numbers.{base_at}
use Rattle.pmem_layout.specs.Fields.{log_count}
use Rattle.alloc_journal.specs.declared.bits.TheConstants.{BASE_WORDS}
use Rattle.sls_base.specs.declared.fixed.TheConstants.{LEADER}
use Rattle.alloc_journal.specs.declared.journal.Stage.{Stage}
use Rattle.alloc_journal.specs.declared.journal.Stage.TheVariants.{Rest, StoringEntries, EntriesInFlight, EntriesDurable, HeadStored, HeadInFlight, Logged, Redoing, BaseInFlight, BaseDurable, HeadCleared, ClearInFlight}
use Rattle.alloc_journal.specs.Sets.{bit_of, has}
use Rattle.alloc_journal.specs.Format.{number_of, comes, AreEntries}
use Rattle.alloc_journal.specs.Work.{Work, is_redo}

-- What is known of words at each stage, for the core that does the work.

-- the head of the log, where the head that is stored, or that is to be cleared, is this one
abbrev pub head_kind : Stage → ℕ → Kind
head_kind HeadStored head = Over 0
head_kind HeadInFlight head = ReadyOver 0
head_kind HeadCleared head = Over head
head_kind ClearInFlight head = ReadyOver head
head_kind _ head = Clean

abbrev pub head_value : Stage → ℕ → ℕ
head_value HeadStored head = head
head_value HeadInFlight head = head
head_value Logged head = head
head_value Redoing head = head
head_value BaseInFlight head = head
head_value BaseDurable head = head
head_value _ head = 0

-- the entries of the log
abbrev pub entry_kind : Stage → Kind
entry_kind StoringEntries = Cached
entry_kind EntriesInFlight = Ready
entry_kind _ = Clean

-- the words of the base
abbrev pub base_kind : Stage → Kind
base_kind Redoing = Cached
base_kind BaseInFlight = Ready
base_kind _ = Clean

-- What is known of numbers.

-- no entry from the first to the past one is of the number
abbrev pub IsUnnamed : (ℕ → ℕ) → ℕ → ℕ → ℕ → Type 0
IsUnnamed entry first past n = (i : ℕ) → first ≤ i → i < past → number_of (entry i) ≢ n

-- how many entries count at the committed version, and how many of these are redone
abbrev pub counted : Work → ℕ
counted w = if is_redo w.stage then w.entries else 0

abbrev pub redone_at : Stage → Work → ℕ
redone_at Redoing w = w.redone
redone_at _ w = w.entries

-- what the entries tell: the next version's numbers while its log is written, and the committed ones while it is redone
abbrev pub told : Work → (ℕ → Bool) → ℕ → Bool
told w saved n = if is_redo w.stage then saved n else has w.logged n

-- the head that is stored names the next version, and the one that is to be cleared counts the entries
abbrev pub IsHeadAt : Stage → Work → ℕ → Type 0
IsHeadAt HeadStored w head = head ≡ (w.version + 1) * 2 ^ 16 + w.entries
IsHeadAt HeadInFlight w head = head ≡ (w.version + 1) * 2 ^ 16 + w.entries
IsHeadAt Logged w head = head ≡ (w.version + 1) * 2 ^ 16 + w.entries
IsHeadAt Redoing w head = log_count head w.version ≡ w.entries
IsHeadAt BaseInFlight w head = log_count head w.version ≡ w.entries
IsHeadAt BaseDurable w head = log_count head w.version ≡ w.entries
IsHeadAt HeadCleared w head = log_count head w.version ≡ w.entries
IsHeadAt ClearInFlight w head = log_count head w.version ≡ w.entries
IsHeadAt _ w head = Unit {0}

-- A number that no entry is of stays as it was committed; of a pending one the entry is yet to come.
pub record IsBegun (w : Work) (entry : ℕ → ℕ) : Type 0 where
  pub to_come : (i n : ℕ) → i < w.entries → n < NUMBERS → has w.pending n ≡ true → number_of (entry i) < n
  pub others : (n : ℕ) → n < NUMBERS → has w.pending n ≡ false → IsUnnamed entry 0 w.entries n
      → has w.committed n ≡ has w.logged n

abbrev pub IsWhole : Work → (ℕ → ℕ) → Type 0
IsWhole w entry = (n : ℕ) → n < NUMBERS → IsUnnamed entry 0 w.entries n → has w.committed n ≡ has w.logged n

abbrev pub IsLogAt : Stage → Work → (ℕ → ℕ) → Type 0
IsLogAt Rest w entry = w.entries ≡ 0
IsLogAt StoringEntries w entry = IsBegun w entry
IsLogAt EntriesInFlight w entry = IsWhole w entry
IsLogAt EntriesDurable w entry = IsWhole w entry
IsLogAt HeadStored w entry = IsWhole w entry
IsLogAt HeadInFlight w entry = IsWhole w entry
IsLogAt Logged w entry = IsWhole w entry
IsLogAt _ w entry = Unit {0}

-- The words `f` show the work on the numbers `saved`, which are in use at the committed version v.
pub record NumbersShow (w : Work) (f : ℕ → Word) (v : ℕ) (saved : ℕ → Bool) : Type 0 where
  pub version_is : w.version ≡ v
  -- the entries of the log, its head, and the words of the base
  pub entry : ℕ → ℕ
  pub head : ℕ
  pub base : ℕ → ℕ
  pub entry_words : (i : ℕ) → i < w.entries → WordIs LEADER (entry_kind w.stage) (f (log_entry_at i)) (entry i)
  pub head_word : WordIs LEADER (head_kind w.stage head) (f LOG_HEAD_AT) (head_value w.stage head)
  pub base_words : (k : ℕ) → k < BASE_WORDS → WordIs LEADER (base_kind w.stage) (f (OBJECT_BASE_AT + k)) (base k)
  -- what they tell
  pub are_entries : AreEntries entry w.entries
  pub tell : (i : ℕ) → i < w.entries → told w saved (number_of (entry i)) ≡ comes (entry i)
  pub log_is : IsLogAt w.stage w entry
  pub head_is : IsHeadAt w.stage w head
  -- Where no entry is still to be redone, the base and the committed set have the numbers that are saved; and where no
  -- entry counts, so has what is durable of the base.
  pub base_has : (n : ℕ) → n < NUMBERS → IsUnnamed entry (redone_at w.stage w) (counted w) n
      → bit_of (base (n / BASE_BITS)) n ≡ saved n
  pub committed_has : (n : ℕ) → n < NUMBERS → IsUnnamed entry (redone_at w.stage w) (counted w) n
      → has w.committed n ≡ saved n
  pub durable_has : (n : ℕ) → n < NUMBERS → IsUnnamed entry 0 (counted w) n
      → bit_of ((f (base_at n)).durable) n ≡ saved n
