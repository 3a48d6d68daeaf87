-- The words of an area while it is written.
use Rattle.std.specs.Prelude.{◌≡◌, ◌⊎◌, ℕ, ◌+◌, ◌*◌, ◌<◌, ◌≤◌, List, slice_index}
use Rattle.sls_base.specs.declared.limits.TheConstants.{FRAME_WORDS}
use Rattle.pmem_model.specs.Words.{Word}
use Rattle.pmem_model.specs.Events.{Kind, WordIs, WordCalm}
use Rattle.sls_kernel.specs.Words.{frame_place, running_place, area_place, part_words, record_word}
use Rattle.sls_kernel.specs.declared.thread.RunThread.{RunThread}
use Rattle.sls_kernel.specs.declared.area.TheConstants.{FIRST_AREA, AREA_FRAMES, RECORD_PART}
use Rattle.sls_kernel.specs.declared.record.TheConstants.{RECORD_WORDS}
use Rattle.sls_kernel.specs.declared.stage.TheConstants.{STATE_PAGES, PARTS}

-- these words stand in each part, known as the part's kind says
abbrev pub PartsAre : (ℕ → Kind) → (ℕ → Word) → (ℕ → ℕ → ℕ) → (ℕ → ℕ → ℕ) → Type 0
PartsAre kind f place words =
    (part i : ℕ) → part < PARTS → i < part_words part → WordIs 0 (kind part) (f (place part i)) (words part i)

-- a place that is in no part of an area
abbrev pub IsOffArea : ℕ → ℕ → Type 0
IsOffArea area i =
    (i < frame_place (FIRST_AREA + AREA_FRAMES * area)) ⊎ (frame_place (FIRST_AREA + AREA_FRAMES * area + PARTS) ≤ i)

-- the running pages read so
abbrev pub AreRunningWords : (ℕ → ℕ → ℕ) → (ℕ → Word) → Type 0
AreRunningWords words f =
    (page i : ℕ) → page < STATE_PAGES → i < FRAME_WORDS → (f (running_place page i)).cached ≡ words page i

-- the last part is the record of a thread and of the counts of entries put
abbrev pub IsRecordOf : (ℕ → ℕ → ℕ) → RunThread → List ℕ → Type 0
IsRecordOf words thread put = (i : ℕ) → i < RECORD_WORDS → words RECORD_PART i ≡ record_word thread (slice_index put) i

-- a word of a part that now reads as it should, and was not made durable
pub record IsStored (area : ℕ) (words : ℕ → ℕ → ℕ) (w u : Word) (i : ℕ) : Type 0 where
  pub part : ℕ
  pub place : ℕ
  pub is_part : part < PARTS
  pub inside : place < part_words part
  pub at : i ≡ area_place area part place
  pub cached : u.cached ≡ words part place
  pub durable : u.durable ≡ w.durable

-- nothing was stored to a word, or what its part has there
abbrev pub StoresPart : ℕ → (ℕ → ℕ → ℕ) → (ℕ → Word) → (ℕ → Word) → ℕ → Type 0
StoresPart area words f g i = WordCalm (f i) (g i) ⊎ IsStored area words (f i) (g i) i
