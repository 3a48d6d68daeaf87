-- What a step does to the memory: how many operations there are, and what one makes of all words.
use Rattle.std.specs.Prelude.{◌≡◌, ◌⊎◌, ℕ, ◌*◌, [], ◌∷◌, slice_index}
use Rattle.sls_base.specs.declared.limits.TheConstants.{LINE_WORDS}
use Rattle.pmem_model.specs.Words.{Word, bursts, flushes, fences}
use Rattle.pmem_model.specs.Memory.{Memory, count_up}

-- There was one, or none.
abbrev pub AtMostOne : Memory → Memory → Type 0
AtMostOne old new = (new.ops ≡ count_up old.ops) ⊎ (new.ops ≡ old.ops)

-- a value is stored in a word
abbrev pub Stores : ℕ → ℕ → (ℕ → Word) → (ℕ → Word) → Type 0
Stores at value f g = (i : ℕ) → g i ≡ bursts at 1 (slice_index (value ∷ [])) f i

-- a core flushes lines from a word on
abbrev pub Flushes : ℕ → ℕ → ℕ → (ℕ → Word) → (ℕ → Word) → Type 0
Flushes core at lines f g = (i : ℕ) → g i ≡ flushes core at (LINE_WORDS * lines) f i

-- a core fences
abbrev pub Fences : ℕ → (ℕ → Word) → (ℕ → Word) → Type 0
Fences core f g = (i : ℕ) → g i ≡ fences core f i

-- all words stay
abbrev pub SameWords : (ℕ → Word) → (ℕ → Word) → Type 0
SameWords f g = (i : ℕ) → g i ≡ f i
