-- Operations on the memory, and what a core may do to its words by so many of them.
use Rattle.std.specs.Prelude.{◌≡◌, ◌⊎◌, ℕ, zero, suc, ◌+◌, ◌*◌, ◌<◌, ◌≤◌, Bool, if◌then◌else◌}
use Rattle.sls_base.specs.declared.limits.TheConstants.{WORDS, FRAME_WORDS, LINE_WORDS}
use Rattle.pmem_model.specs.Words.{Word, bursts, flushes, fenced}
use Rattle.pmem_model.specs.Places.{bank_of, offset_of, bank_size}

-- words from a place on that stay inside the table or one frame
abbrev pub IsInside : ℕ → ℕ → Type 0
IsInside at count = (at < WORDS) × (offset_of at + count ≤ bank_size (bank_of at))

-- at most a frame's words are stored
pub record IsBurst (f g : ℕ → Word) : Type 0 where
  pub at : ℕ
  pub count : ℕ
  pub value : ℕ → ℕ
  pub most : count ≤ FRAME_WORDS
  pub inside : IsInside at count
  pub words : (i : ℕ) → g i ≡ bursts at count value f i

-- whole lines are put in flight for the core
pub record IsFlush (core : ℕ) (f g : ℕ → Word) : Type 0 where
  pub at : ℕ
  pub lines : ℕ
  pub inside : IsInside at (LINE_WORDS * lines)
  pub words : (i : ℕ) → g i ≡ flushes core at (LINE_WORDS * lines) f i

-- what is in flight for the core becomes durable, as far as the fence reaches: in the memory at home, or in a frame
-- that is lent
pub record IsFence (core : ℕ) (f g : ℕ → Word) : Type 0 where
  pub reached : ℕ → Bool
  pub words : (i : ℕ) → g i ≡ (if reached i then fenced core (f i) else f i)

-- a burst, or a flush or a fence by the core
abbrev pub IsOperation : ℕ → (ℕ → Word) → (ℕ → Word) → Type 0
IsOperation core f g = IsBurst f g ⊎ (IsFlush core f g ⊎ IsFence core f g)

-- nothing, or one operation by the core
abbrev pub IsAtMostOne : ℕ → (ℕ → Word) → (ℕ → Word) → Type 0
IsAtMostOne core f g = ((i : ℕ) → g i ≡ f i) ⊎ IsOperation core f g

-- at most so many operations by the core, one after another
abbrev pub AreOperations : ℕ → ℕ → (ℕ → Word) → (ℕ → Word) → Type 0
AreOperations core zero f g = (i : ℕ) → g i ≡ f i
AreOperations core (suc n) f g =
    AreOperations core n f g ⊎ ((h : ℕ → Word) × IsOperation core f h × AreOperations core n h g)
