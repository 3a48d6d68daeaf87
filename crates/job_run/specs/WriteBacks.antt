-- The words that are written back before a power cut. The dirty words take one draw each, in rising order, and a word
-- is written back where bit 33 of its draw is 1.
use Rattle.std.specs.Prelude.{◌≡◌, ℕ, zero, suc, ◌<◌, Bool, true, false, ◌&&◌, ◌==◌, if◌then◌else◌}
use Rattle.std.specs.Int.{bit_at}
use Rattle.sls_base.specs.Lcg.{next_state}
use Rattle.sls_base.specs.declared.limits.TheConstants.{WORDS}
use Rattle.pmem_model.specs.Words.{Word, writes_back}
use Rattle.pmem_model.specs.Memory.{word_at}
use Rattle.sls_kernel.specs.Shows.{memory_of}
use Rattle.sls_kernel.specs.declared.machine.Machine.{Machine}

-- the generator's state after so many draws
unfoldable pub state_after : ℕ → ℕ → ℕ
state_after zero seed = seed
state_after (suc draws) seed = next_state (state_after draws seed)

-- a draw has its word written back
abbrev pub chooses : ℕ → Bool
chooses draw = bit_at draw 33 == 1

-- a word is dirty: its values differ
abbrev pub is_dirty : Word → Bool
is_dirty w = if w.cached == w.durable then false else true

-- how many words below a place are dirty
unfoldable pub dirty_below : (ℕ → Word) → ℕ → ℕ
dirty_below f zero = 0
dirty_below f (suc i) = if is_dirty (f i) then suc (dirty_below f i) else dirty_below f i

-- a seed has the word at a place written back
unfoldable pub is_chosen : ℕ → (ℕ → Word) → ℕ → Bool
is_chosen seed f i = is_dirty (f i) && chooses (state_after (suc (dirty_below f i)) seed)

-- a machine's words afterwards
abbrev pub WritesBack : ℕ → Machine → Machine → Type 0
WritesBack seed old new =
    (i : ℕ) → i < WORDS
    → word_at (memory_of new) i ≡ writes_back (is_chosen seed (word_at (memory_of old))) (word_at (memory_of old)) i
