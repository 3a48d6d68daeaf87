-- What may befall a memory while a version is being committed.
use Rattle.std.specs.Prelude.{◌≡◌, ◌≢◌, ◌<◌, ℕ, List, [], ◌∷◌, slice_index}
use Rattle.pmem_model.specs.Words.{Word, is_within, bursts, flushes, fences, writes_back, cuts}
use Rattle.pmem_layout.specs.Places.{line_at}
use Rattle.version_commit.specs.OnWay.{next, words_after}
use Rattle.version_commit.specs.declared.step.Step.{Step as CommitStep}
use Rattle.version_commit.specs.declared.step.Step.TheVariants as steps
use Rattle.sls_base.specs.declared.limits.TheConstants.{CORES, LINE_WORDS, VERSION_AT, WORDS}
use Rattle.version_commit.specs.declared.history.Event.{Event}
use Rattle.version_commit.specs.declared.history.Event.TheVariants.{Step, WriteBack, Flush, Fence, Store, Cut}

-- it names a word and a core that there are, and stores elsewhere than in the version word
abbrev pub IsPossible : Event → Type 0
IsPossible Step = Unit {0}
IsPossible (WriteBack at) = at < WORDS
IsPossible (Flush core at) = (core < CORES) × (at < WORDS)
IsPossible (Fence core) = core < CORES
IsPossible (Store at value) = (at < WORDS) × (at ≢ VERSION_AT)
IsPossible Cut = Unit {0}

-- What an event makes of the next step of the commit of `to`, and of all words.

abbrev pub step_behind : Event → CommitStep → CommitStep
step_behind Step step = next step
step_behind (WriteBack at) step = step
step_behind (Flush core at) step = step
step_behind (Fence core) step = step
step_behind (Store at value) step = step
step_behind Cut step = steps.Store

abbrev pub words_behind : Event → ℕ → CommitStep → (ℕ → Word) → ℕ → Word
words_behind Step to step f = words_after step VERSION_AT to f
words_behind (WriteBack at) to step f = writes_back (is_within at 1) f
words_behind (Flush core at) to step f = flushes core (line_at at) LINE_WORDS f
words_behind (Fence core) to step f = fences core f
words_behind (Store at value) to step f = bursts at 1 (slice_index (value ∷ [])) f
words_behind Cut to step f = cuts f

pub record Happens (event : Event) (to : ℕ) (old : CommitStep) (f : ℕ → Word) (new : CommitStep) (g : ℕ → Word)
    : Type 0 where
  pub step : new ≡ step_behind event old
  pub words : (i : ℕ) → g i ≡ words_behind event to old f i

-- the events happen one behind another
abbrev pub Plays : List Event → ℕ → CommitStep → (ℕ → Word) → CommitStep → (ℕ → Word) → Type 0
Plays [] to old f new g = (new ≡ old) × ◌≡◌ {A = ℕ → Word} g f
Plays (event ∷ events) to old f new g =
    (step : CommitStep) × (words : ℕ → Word) × Happens event to old f step words × Plays events to step words new g
