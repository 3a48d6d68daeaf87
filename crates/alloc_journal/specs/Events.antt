-- What may befall the numbers and the memory between two commits, and what each event makes of them.
use Rattle.std.specs.Prelude.{◌≡◌, ◌≢◌, ◌⊎◌, ℕ, ◌<◌, ◌≤◌, true, false, List, [], ◌∷◌}
use Rattle.sls_base.specs.declared.limits.TheConstants.{CORES, LAST_VERSION, OBJECTS, PAGES, WORDS}
use Rattle.pmem_model.specs.Words.{Word, is_within, writes_back, cuts}
use Rattle.pmem_layout.specs.declared.number.Number.{Number}
use Rattle.pmem_layout.specs.declared.number.Number.TheVariants.{Object, Page}
use Rattle.pmem_layout.specs.Numbers.{index_of}
use Rattle.pmem_layout.specs.Owners.{Numbers, owner}
use Rattle.pmem_layout.specs.Places.{line_at}
use Rattle.alloc_journal.specs.declared.history.Event.{Event}
use Rattle.alloc_journal.specs.declared.history.Event.TheVariants.{TakeObject, TakePage, FreeObject, FreePage, Log, Apply, Redo, WriteBack, Flush, Fence, Store, Cut}
use Rattle.alloc_journal.specs.Sets.{Puts}
use Rattle.alloc_journal.specs.Operations.{Stores, Flushes, Fences, SameWords}
use Rattle.alloc_journal.specs.Work.{InUse, is_used}
use Rattle.alloc_journal.specs.Steps.{Logs, Redoes, Recovers}

-- it names a number, a word and a core that there are, and stores in no word of the numbers
abbrev pub IsPossible : Event → Type 0
IsPossible TakeObject = Unit {0}
IsPossible TakePage = Unit {0}
IsPossible (FreeObject id) = id < OBJECTS
IsPossible (FreePage page) = page < PAGES
IsPossible Log = Unit {0}
IsPossible Apply = Unit {0}
IsPossible Redo = Unit {0}
IsPossible (WriteBack at) = at < WORDS
IsPossible (Flush core at) = (core < CORES) × (at < WORDS)
IsPossible (Fence core) = core < CORES
IsPossible (Store at value) = (at < WORDS) × (owner at ≢ Numbers)
IsPossible Cut = Unit {0}

-- in the running state a number comes into use, or goes out of it, and no other one does
abbrev pub ComesIntoUse : Number → InUse → InUse → Type 0
ComesIntoUse number old new = Puts (index_of number) true old.running new.running × (new.work ≡ old.work)

abbrev pub GoesOutOfUse : Number → InUse → InUse → Type 0
GoesOutOfUse number old new = Puts (index_of number) false old.running new.running × (new.work ≡ old.work)

-- The numbers of a kind are the first ones, up to a limit.

-- the least that is free
pub record IsLeastFree (old : InUse) (kind : ℕ → Number) (limit number : ℕ) : Type 0 where
  pub inside : number < limit
  pub free : is_used old (index_of (kind number)) ≡ false
  pub below : (other : ℕ) → other < number → is_used old (index_of (kind other)) ≡ true

abbrev pub AreAllUsed : InUse → (ℕ → Number) → ℕ → Type 0
AreAllUsed old kind limit = (number : ℕ) → number < limit → is_used old (index_of (kind number)) ≡ true

-- the least that is free comes into use, and nothing changes where none is
abbrev pub TakesLeast : (ℕ → Number) → ℕ → InUse → InUse → Type 0
TakesLeast kind limit old new =
    ((number : ℕ) × IsLeastFree old kind limit number × ComesIntoUse (kind number) old new)
    ⊎ (AreAllUsed old kind limit × (new ≡ old))

-- a step of the log; nothing changes where there is no next version
abbrev pub LogsNext : InUse → (ℕ → Word) → InUse → (ℕ → Word) → Type 0
LogsNext old f new g =
    (old.work.version < LAST_VERSION) × (new.running ≡ old.running) × Logs old.running old.work f new.work g
    ⊎ (LAST_VERSION ≤ old.work.version) × (new ≡ old) × SameWords f g

-- What an event makes of the numbers, and of all words.
abbrev pub Happens : Event → InUse → (ℕ → Word) → InUse → (ℕ → Word) → Type 0
Happens TakeObject old f new g = TakesLeast Object OBJECTS old new × SameWords f g
Happens TakePage old f new g = TakesLeast Page PAGES old new × SameWords f g
Happens (FreeObject id) old f new g = GoesOutOfUse (Object id) old new × SameWords f g
Happens (FreePage page) old f new g = GoesOutOfUse (Page page) old new × SameWords f g
Happens Log old f new g = LogsNext old f new g
Happens Apply old f new g = (new.running ≡ old.running) × Redoes old.work f new.work g
Happens Redo old f new g = (new.running ≡ new.work.committed) × Redoes old.work f new.work g
Happens (WriteBack at) old f new g = (new ≡ old) × ((i : ℕ) → g i ≡ writes_back (is_within at 1) f i)
Happens (Flush core at) old f new g = (new ≡ old) × Flushes core (line_at at) 1 f g
Happens (Fence core) old f new g = (new ≡ old) × Fences core f g
Happens (Store at value) old f new g = (new ≡ old) × Stores at value f g
Happens Cut old f new g =
    (new.running ≡ new.work.committed) × Recovers old.work.version g new.work × ((i : ℕ) → g i ≡ cuts f i)

-- the events happen one behind another
abbrev pub Plays : List Event → InUse → (ℕ → Word) → InUse → (ℕ → Word) → Type 0
Plays [] old f new g = (new ≡ old) × ◌≡◌ {A = ℕ → Word} g f
Plays (event ∷ events) old f new g =
    (between : InUse) × (words : ℕ → Word) × Happens event old f between words × Plays events between words new g
