-- A word that is made durable by a store, a flush and a fence.
use Rattle.std.specs.Prelude.{◌≡◌, ℕ, [], ◌∷◌, slice_index}
use Rattle.pmem_model.specs.Words.{Word, bursts, flushes, fences}
use Rattle.pmem_layout.specs.Places.{line_at}
use Rattle.sls_base.specs.declared.limits.TheConstants.{LINE_WORDS}
use Rattle.pmem_model.specs.Events.{Kind, Clean, Over, ReadyOver, WordIs}
use Rattle.sls_base.specs.declared.fixed.TheConstants.{LEADER}
use Rattle.version_commit.specs.declared.step.Step.{Step}
use Rattle.version_commit.specs.declared.step.Step.TheVariants.{Store, Flush, Fence}

abbrev pub next : Step → Step
next Store = Flush
next Flush = Fence
next Fence = Store

-- how many operations there still are, with this one
abbrev pub turns_of : Step → ℕ
turns_of Store = 3
turns_of Flush = 2
turns_of Fence = 1

-- what is known of it before the step: before the store it is clean, and before the fence in flight
abbrev pub kind_before : Step → ℕ → Kind
kind_before Store was = Clean
kind_before Flush was = Over was
kind_before Fence was = ReadyOver was

-- The word came as far as to this step. Its durable value is `was`, and it reads `reads`.
pub record IsOnWay (step : Step) (word : Word) (was reads : ℕ) : Type 0 where
  pub durable : word.durable ≡ was
  pub known : WordIs LEADER (kind_before step was) word reads

-- its durable value after the step
abbrev pub durable_after : Step → ℕ → ℕ → ℕ
durable_after Store was reads = was
durable_after Flush was reads = was
durable_after Fence was reads = reads

-- what it reads after the step, which may store a value
abbrev pub reads_after : Step → ℕ → ℕ → ℕ
reads_after Store value reads = value
reads_after Flush value reads = reads
reads_after Fence value reads = reads

-- all words after the step on the word at a place, which may store a value
abbrev pub words_after : Step → ℕ → ℕ → (ℕ → Word) → ℕ → Word
words_after Store at value f = bursts at 1 (slice_index (value ∷ [])) f
words_after Flush at value f = flushes LEADER (line_at at) LINE_WORDS f
words_after Fence at value f = fences LEADER f
