-- When a machine, or a memory without power, shows a world of the plain machine.
use Rattle.std.specs.Prelude.{◌≡◌, ◌⊎◌, ℕ, ◌+◌, ◌^◌, ◌<◌, ◌≤◌, ◌==◌, if◌then◌else◌, List, ◌++◌, length, slice_index}
use Rattle.sls_base.specs.declared.limits.TheConstants.{TABLE_WORDS, FRAME_WORDS, LAST_VERSION}
use Rattle.pmem_model.specs.Words.{Word}
use Rattle.pmem_model.specs.Memory.{Memory, word_at}
use Rattle.pmem_model.specs.Events.{Kind, Clean, WordIs}
use Rattle.sls_kernel.specs.Plain.{State, World, initial, first, accepted_count}
use Rattle.sls_kernel.specs.Words.{Holds, Tells, record_word, running_place, area_place, area_of, part_words}
use Rattle.sls_kernel.specs.Areas.{PartsAre}
use Rattle.sls_kernel.specs.Program.{page_bytes}
use Rattle.sls_kernel.specs.Stages.{saved_kind, other_kind, running_kind, format_kind, format_value, version_kind, version_value, format_word}
use Rattle.sls_kernel.specs.declared.area.TheConstants.{RECORD_PART}
use Rattle.sls_kernel.specs.declared.machine.TheConstants.{PROGRAM_PAGE}
use Rattle.sls_kernel.specs.declared.record.TheConstants.{RECORD_WORDS}
use Rattle.sls_kernel.specs.declared.stage.TheConstants.{STATE_PAGES, PARTS}
use Rattle.sls_kernel.specs.declared.stage.Stage.{Stage}
use Rattle.sls_kernel.specs.declared.stage.Stage.TheVariants.{Format, Recover, Up, Checkpoint}
use Rattle.sls_kernel.specs.declared.stage.CheckpointStep.{CheckpointStep}
use Rattle.sls_kernel.specs.declared.stage.CheckpointStep.TheVariants.{Save, StoreVersion, FlushVersion, FenceVersion, FlushAgain, FenceAgain}
use Rattle.sls_kernel.specs.declared.thread.RunThread.{RunThread}
use Rattle.sls_kernel.specs.declared.machine.Machine.{Machine}
use Rattle.sls_kernel.specs.declared.machine.Off.{Off}

-- What is durable.

-- how many entries a state has put on a channel
abbrev pub put_count : State → ℕ → ℕ
put_count s channel = length (s.out channel)

-- six parts of words are a state, to a device that accepted so many entries
pub record AreState (words : ℕ → ℕ → ℕ) (accepted : ℕ → ℕ) (s : State) : Type 0 where
  pub holds : Holds words accepted s
  pub thread_record : (i : ℕ) → i < RECORD_WORDS → words RECORD_PART i ≡ record_word s.thread (put_count s) i

-- the words of an area
abbrev pub area_words : (ℕ → ℕ) → ℕ → ℕ → ℕ → ℕ
area_words durable area part i = durable (area_place area part i)

-- Durable words stand for a state: they are formatted, and the area of the version in word 1 is the state, with zeros
-- behind the record in its frame. The device accepted no more entries than were put.
pub record Stands (durable : ℕ → ℕ) (accepted : ℕ → ℕ) (s : State) : Type 0 where
  pub formatted : durable 0 ≡ format_word
  pub in_range : durable 1 ≤ LAST_VERSION
  pub table : (i : ℕ) → 2 ≤ i → i < TABLE_WORDS → durable i ≡ 0
  pub area : AreState (area_words durable (area_of (durable 1))) accepted s
  pub record_rest : (i : ℕ) → RECORD_WORDS ≤ i → i < FRAME_WORDS
      → durable (area_place (area_of (durable 1)) RECORD_PART i) ≡ 0
  pub accepted_put : (channel : ℕ) → channel < 4 → accepted channel ≤ put_count s channel

-- durable words stand for the state that a world has saved, and word 1 is the world's version
pub record StandsFor (durable : ℕ → ℕ) (w : World) : Type 0 where
  pub version : durable 1 ≡ w.version
  pub saved : Stands durable (accepted_count w) w.saved

-- the durable words of a memory
abbrev pub durable_words : Memory → ℕ → ℕ
durable_words m i = (word_at m i).durable

-- a word reads zero, and zero is durable
abbrev pub IsZero : Word → Type 0
IsZero w = (w.cached ≡ 0) × (w.durable ≡ 0)

-- Formatting.

-- the words that a program begins with: its page, the record of its thread, and empty rings
abbrev pub first_words : List ℕ → ℕ → ℕ → ℕ
first_words program part i =
    if part == PROGRAM_PAGE then slice_index program i
    else (if part == RECORD_PART then record_word (initial (λ a. 0)).thread (λ channel. 0) i else 0)

-- a word may be x within formatting: it is zero, or what formatting stores there
abbrev pub MayBeFormatted : List ℕ → ℕ → ℕ → Type 0
MayBeFormatted program i x =
    (x ≡ 0)
    ⊎ (((i ≡ 0) × (x ≡ format_word))
    ⊎ (((o : ℕ) × (o < FRAME_WORDS) × (i ≡ running_place PROGRAM_PAGE o) × (x ≡ first_words program PROGRAM_PAGE o))
    ⊎ ((part : ℕ) × (o : ℕ) × (part < PARTS) × (o < part_words part)
    × (i ≡ area_place 0 part o) × (x ≡ first_words program part o))))

pub record IsFormatting (program : List ℕ) (f : ℕ → Word) : Type 0 where
  pub cached : (i : ℕ) → MayBeFormatted program i (f i).cached
  pub durable : (i : ℕ) → MayBeFormatted program i (f i).durable

-- What every world keeps.

abbrev pub IsPrefixOf : List (List ℕ) → List (List ℕ) → Type 0
IsPrefixOf xs ys = (rest : List (List ℕ)) × (xs ++ rest ≡ ys)

-- the device has the first of what the saved copy put, and this is the first of what the running state put
pub record IsCounted (accepted : List ℕ) (w : World) : Type 0 where
  pub count : Tells accepted (accepted_count w)
  pub released : (channel : ℕ) → IsPrefixOf (w.released channel) (w.saved.out channel)
  pub saved : (channel : ℕ) → IsPrefixOf (w.saved.out channel) (w.now.out channel)
  pub version : w.version ≤ LAST_VERSION

-- the memory counted the commits and the cuts
pub record HasCounts (m : Memory) (w : World) : Type 0 where
  pub commits : m.commits ≡ w.commits
  pub cuts : m.cuts ≡ w.cuts

-- The machine.

-- What is known of the words of a memory, whatever is written back: of the format word, of the version word, of the
-- area of the version, of the other area, and of the running pages. The other words of the table are zero, and so are
-- those behind the records of both areas in their frames.
pub record WordsAre
    (format_is : Kind) (format_reads : ℕ) (version_is : Kind) (version_reads : ℕ)
    (saved_are other_are running_are : ℕ → Kind) (f : ℕ → Word) (v : ℕ) (now saved : ℕ → ℕ → ℕ) : Type 0 where
  pub format : WordIs 0 format_is (f 0) format_reads
  pub version : WordIs 0 version_is (f 1) version_reads
  pub version_durable : (f 1).durable ≡ v
  pub table : (i : ℕ) → 2 ≤ i → i < TABLE_WORDS → WordIs 0 Clean (f i) 0
  pub saved_area : PartsAre saved_are f (area_place (area_of v)) saved
  pub other_area : PartsAre other_are f (area_place (area_of (v + 1))) now
  pub running : (page i : ℕ) → page < STATE_PAGES → i < FRAME_WORDS
      → WordIs 0 (running_are page) (f (running_place page i)) (now page i)
  pub record_rest : (area i : ℕ) → area < 2 → RECORD_WORDS ≤ i → i < FRAME_WORDS
      → WordIs 0 Clean (f (area_place area RECORD_PART i)) 0

-- what is known of them in a stage
abbrev pub WordsShow : Stage → (ℕ → Word) → ℕ → (ℕ → ℕ → ℕ) → (ℕ → ℕ → ℕ) → Type 0
WordsShow stage f v now saved =
    WordsAre (format_kind stage) (format_value stage) (version_kind stage) (version_value stage v)
    (saved_kind stage) (other_kind stage) (running_kind stage) f v now saved

-- the thread, and the counts of entries put, are those of a state
pub record IsRunning (thread : RunThread) (put : List ℕ) (s : State) : Type 0 where
  pub thread_is : thread ≡ s.thread
  pub put_is : Tells put (put_count s)

-- before its commit, the version that a checkpoint makes is the next one, and there is one more
pub record IsNext (v next : ℕ) : Type 0 where
  pub next_is : next ≡ v + 1
  pub in_range : next ≤ LAST_VERSION

abbrev pub LeadsTo : CheckpointStep → ℕ → ℕ → Type 0
LeadsTo (Save step) v next = IsNext v next
LeadsTo StoreVersion v next = IsNext v next
LeadsTo FlushVersion v next = IsNext v next
LeadsTo FenceVersion v next = IsNext v next
LeadsTo FlushAgain v next = Unit {0}
LeadsTo FenceAgain v next = Unit {0}

-- while a program is formatted, the world is its first one
pub record IsFirst (m : Machine) (w : World) (now saved : ℕ → ℕ → ℕ) : Type 0 where
  pub now_is : now ≡ first_words m.program.items
  pub saved_is : saved ≡ first_words m.program.items
  pub world : w ≡ first (page_bytes m.program.items) w.commits w.cuts
  pub in_range : (i : ℕ) → slice_index m.program.items i < 2 ^ 64
  pub formatting : IsFormatting m.program.items (word_at m.nvm)
  pub running : IsRunning m.thread m.put w.now

-- while the saved state is copied back, it is the running one
pub record IsRecovering (w : World) (now saved : ℕ → ℕ → ℕ) : Type 0 where
  pub words : now ≡ saved
  pub world : w.now ≡ w.saved

-- what else is known, by the stage
abbrev pub AtStage : Stage → Machine → World → (ℕ → ℕ → ℕ) → (ℕ → ℕ → ℕ) → Type 0
AtStage (Format step) m w now saved = IsFirst m w now saved
AtStage (Recover page) m w now saved = IsRecovering w now saved
AtStage Up m w now saved = IsRunning m.thread m.put w.now
AtStage (Checkpoint step) m w now saved = IsRunning m.thread m.put w.now × LeadsTo step w.version m.next

-- The machine shows the world: some words are the running state and some the saved one, the words of the memory are
-- these as far as the stage has them there, and the device and the memory have counted as the world has.
pub record Shows (m : Machine) (w : World) : Type 0 where
  pub now_words : ℕ → ℕ → ℕ
  pub saved_words : ℕ → ℕ → ℕ
  pub now_is : AreState now_words (accepted_count w) w.now
  pub saved_is : AreState saved_words (accepted_count w) w.saved
  pub words : WordsShow m.stage (word_at m.nvm) w.version now_words saved_words
  pub counted : IsCounted m.accepted w
  pub counts : HasCounts m.nvm w
  pub stage : AtStage m.stage m w now_words saved_words

-- the program that a machine was made with, by the bytes of its page
unfoldable pub image_of : Machine → ℕ → ℕ
image_of m = page_bytes m.program.items

-- the memory of a machine, and the device's counts
unfoldable pub memory_of : Machine → Memory
memory_of m = m.nvm

unfoldable pub accepted_of : Machine → List ℕ
accepted_of m = m.accepted

-- Without power.

-- a memory that was cut within formatting: it has no format word, and no word but what formatting stores
pub record IsUnformatted (durable : ℕ → ℕ) (w : World) : Type 0 where
  pub unformatted : durable 0 ≡ 0
  pub version : durable 1 ≡ 0
  pub program : List ℕ
  pub in_range : (i : ℕ) → slice_index program i < 2 ^ 64
  pub words : (i : ℕ) → MayBeFormatted program i (durable i)
  pub world : w ≡ first (page_bytes program) w.commits w.cuts

-- The memory shows the world: each word is durable, and stands for the saved state, or for the first one where it was
-- cut within formatting; and the running state is the saved one. In both areas zeros stand behind the record.
pub record ShowsOff (off : Off) (w : World) : Type 0 where
  pub clean : (i : ℕ) → (word_at off.nvm i).cached ≡ (word_at off.nvm i).durable
  pub version : durable_words off.nvm 1 ≡ w.version
  pub words : Stands (durable_words off.nvm) (accepted_count w) w.saved ⊎ IsUnformatted (durable_words off.nvm) w
  pub counted : IsCounted off.accepted w
  pub counts : HasCounts off.nvm w
  pub now : w.now ≡ w.saved
  pub record_rest : (area i : ℕ) → area < 2 → RECORD_WORDS ≤ i → i < FRAME_WORDS
      → durable_words off.nvm (area_place area RECORD_PART i) ≡ 0
