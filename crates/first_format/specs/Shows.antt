-- How formatting agrees with the words of the memory, and how many turns it still takes.
use Rattle.std.specs.Prelude.{◌≡◌, ◌≢◌, ◌⊎◌, ℕ, ◌+◌, ◌-◌, ◌*◌, ◌<◌, ◌≤◌, ◌==◌, nat_lt, if◌then◌else◌}
use Rattle.sls_base.specs.declared.limits.TheConstants.{CORES}
use Rattle.sls_base.specs.declared.fixed.TheConstants.{LEADER}
use Rattle.sls_base.specs.declared.image.Image.{Image}
use Rattle.pmem_model.specs.Words.{Word}
use Rattle.pmem_model.specs.Events.{Kind, Any, Clean, Over, ReadyOver, WordIs}
use Rattle.pmem_layout.specs.declared.format.TheConstants.{FORMAT_WORD}
use Rattle.pmem_layout.specs.declared.places.TheConstants.{FORMAT_AT}
use Rattle.plain_model.specs.Worlds.{has_page}
use Rattle.plain_model.specs.Initial.{IsAccepted, initial}
use Rattle.object_records.specs.Records.{record_at}
use Rattle.durable_state.specs.Parts.{Parts}
use Rattle.version_commit.specs.declared.step.Step.{Step}
use Rattle.version_commit.specs.declared.step.Step.TheVariants as steps
use Rattle.version_commit.specs.OnWay.{kind_before}
use Rattle.first_format.specs.declared.pieces.TheConstants.{PIECES}
use Rattle.first_format.specs.declared.stage.Stage.{Stage}
use Rattle.first_format.specs.declared.stage.Stage.TheVariants.{Store, Flush, Fence, FormatWord, Done}
use Rattle.first_format.specs.declared.formatting.Formatting.{Formatting}
use Rattle.first_format.specs.Parts.{first_parts, first_records}
use Rattle.first_format.specs.Formatted.{content_word}
use Rattle.first_format.specs.Pieces.{piece_of, place_of, count_of}

-- Turns.

abbrev pub word_turns : Step → ℕ
word_turns steps.Store = 3
word_turns steps.Flush = 2
word_turns steps.Fence = 1

-- two for each piece that is left, one for the fence, and three for the format word
abbrev pub turns_at : Stage → Step → ℕ
turns_at (Store n) step = 2 * (PIECES - n) + 4
turns_at (Flush n) step = 2 * (PIECES - n) + 3
turns_at Fence step = 4
turns_at FormatWord step = word_turns step
turns_at Done step = 0

abbrev pub turns_left : Formatting → ℕ
turns_left s = turns_at s.stage s.committer.format

-- what comes behind piece n
abbrev pub stage_behind : ℕ → Stage
stage_behind n = if nat_lt (n + 1) PIECES then Store (n + 1) else Fence

-- What is known of words.

-- it is 0 or the value, cached and durable
pub record IsBlankOr (value : ℕ) (word : Word) : Type 0 where
  pub cached : (word.cached ≡ 0) ⊎ (word.cached ≡ value)
  pub durable : (word.durable ≡ 0) ⊎ (word.durable ≡ value)

-- of the words of piece n: each that was passed was stored over 0 and flushed, until the fence makes all durable
abbrev pub piece_kind : Stage → ℕ → Kind
piece_kind (Store m) n = if nat_lt n m then ReadyOver 0 else Any
piece_kind (Flush m) n = if nat_lt n m then ReadyOver 0 else if n == m then Over 0 else Any
piece_kind Fence n = ReadyOver 0
piece_kind FormatWord n = Clean
piece_kind Done n = Clean

-- of the format word, which is 0 until it is stored

abbrev pub format_kind : Stage → Step → Kind
format_kind FormatWord step = kind_before step 0
format_kind _ step = Clean

abbrev pub stored_by : Step → ℕ
stored_by steps.Store = 0
stored_by steps.Flush = FORMAT_WORD
stored_by steps.Fence = FORMAT_WORD

abbrev pub format_value : Stage → Step → ℕ
format_value FormatWord step = stored_by step
format_value Done step = FORMAT_WORD
format_value _ step = 0

-- the format word's turn is yet to come
abbrev pub IsWaiting : Stage → Step → Type 0
IsWaiting FormatWord step = Unit {0}
IsWaiting Done step = Unit {0}
IsWaiting _ step = step ≡ steps.Store

-- The words are on their way to be formatted with these parts.
pub record AreOnWay (p : Parts) (stage : Stage) (step : Step) (f : ℕ → Word) : Type 0 where
  pub each : (i : ℕ) → i ≢ FORMAT_AT → IsBlankOr (content_word p i) (f i)
  pub pieces : (n j : ℕ) → n < PIECES → j < count_of (piece_of n)
      → WordIs LEADER (piece_kind stage n) (f (place_of (piece_of n) + j)) (content_word p (place_of (piece_of n) + j))
  pub format : WordIs LEADER (format_kind stage step) (f FORMAT_AT) (format_value stage step)
  pub waiting : IsWaiting stage step

-- What formatting keeps by itself.

abbrev pub IsStage : Stage → Type 0
IsStage (Store n) = n < PIECES
IsStage (Flush n) = n < PIECES
IsStage _ = Unit {0}

-- It is of an accepted image, on 1 to 8 cores: it has the objects that the image begins with, and knows how many pages
-- they have.
pub record IsBegun (s : Formatting) (image : Image) : Type 0 where
  pub accepted : IsAccepted image
  pub some : 1 ≤ s.cores
  pub most : s.cores ≤ CORES
  pub records : (i : ℕ) → record_at s.objects i ≡ first_records image s.cores i
  pub pages : (page : ℕ) → has_page (initial image s.cores) page ≡ nat_lt page s.pages
  pub in_range : IsStage s.stage

-- It agrees with the words of the memory.
pub record FormattingShows (s : Formatting) (f : ℕ → Word) (image : Image) (cores : ℕ) : Type 0 where
  pub begun : IsBegun s image
  pub cores_are : s.cores ≡ cores
  pub words : AreOnWay (first_parts image cores) s.stage s.committer.format f
