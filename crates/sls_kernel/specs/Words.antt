-- How words stand for a state of the plain machine, and where they stand in the memory.
use Rattle.std.specs.Prelude.{◌≡◌, ◌⊎◌, ℕ, ◌+◌, ◌-◌, ◌*◌, ◌/◌, ◌%◌, ◌^◌, ◌<◌, ◌≤◌, ◌==◌, nat_lt, if◌then◌else◌, List, [], length, slice_index, slice_index_or}
use Rattle.std.specs.Int.{w64, to_le_bytes}
use Rattle.sls_base.specs.declared.limits.TheConstants.{TABLE_WORDS, FRAME_WORDS, PAGE_BYTES, RING_ENTRIES, ENTRY_BYTES, CORE_SLICE}
use Rattle.pmem_model.specs.Words.{Word}
use Rattle.sls_kernel.specs.Plain.{State}
use Rattle.sls_kernel.specs.declared.thread.Status.{Status}
use Rattle.sls_kernel.specs.declared.thread.Status.TheVariants.{Ready, Running, Stopped}
use Rattle.sls_kernel.specs.declared.thread.RunThread.{RunThread}
use Rattle.sls_kernel.specs.declared.area.TheConstants.{FIRST_AREA, AREA_FRAMES, RECORD_PART}
use Rattle.sls_kernel.specs.declared.record.TheConstants.{RECORD_WORDS, STATUS_WORD, PUT_WORD}

-- Places. The state has six frames of words: pages 0 to 3, which are the rings of channels 0 to 3, page 4, which is the
-- program's, and the thread's record. The running pages stand in one set of frames, and two areas have all six.

-- where a frame begins
abbrev pub frame_place : ℕ → ℕ
frame_place frame = TABLE_WORDS + FRAME_WORDS * frame

-- word i of a running page
abbrev pub running_place : ℕ → ℕ → ℕ
running_place page i = frame_place (2 * page) + i

-- word i of a frame of an area
abbrev pub area_place : ℕ → ℕ → ℕ → ℕ
area_place area part i = frame_place (FIRST_AREA + AREA_FRAMES * area + part) + i

-- the area that has the state of a version
abbrev pub area_of : ℕ → ℕ
area_of version = version % 2

-- the words of a part: a record's, and for a page all of its frame
abbrev pub part_words : ℕ → ℕ
part_words part = (if part == RECORD_PART then RECORD_WORDS else FRAME_WORDS)

-- Pages.

-- byte k of a word, from the lowest
abbrev pub byte_of : ℕ → ℕ → ℕ
byte_of word k = slice_index (to_le_bytes w64 word) k

-- these words have these bytes in a page
abbrev pub IsPage : (ℕ → ℕ) → (ℕ → ℕ) → Type 0
IsPage words byte = (a : ℕ) → a < PAGE_BYTES → byte a ≡ byte_of (words (a / 8)) (a % 8)

-- entry n of a channel stands on the ring's page, in 64 bytes at 64 * (n mod 64): its length of 1 to 56 in a word, then
-- its bytes, then zeros
pub record IsEntry (words : ℕ → ℕ) (number : ℕ) (entry : List ℕ) : Type 0 where
  pub some : 1 ≤ length entry
  pub most : length entry ≤ ENTRY_BYTES
  pub size : words (8 * (number % RING_ENTRIES)) ≡ length entry
  pub bytes : (k : ℕ) → k < ENTRY_BYTES
      → byte_of (words (8 * (number % RING_ENTRIES) + 1 + k / 8)) (k % 8) ≡ slice_index entry k

-- a ring's page has each entry that the device hasn't accepted
pub record IsRing (words : ℕ → ℕ) (accepted : ℕ) (out : List (List ℕ)) : Type 0 where
  pub entries : (number : ℕ) → accepted ≤ number → number < length out
      → IsEntry words number (slice_index_or out number [])
  pub room : length out ≤ accepted + RING_ENTRIES
  pub number : length out < 2 ^ 64

-- what is left of a slice and the causes are in their range
abbrev pub IsStatus : Status → Type 0
IsStatus Ready = Unit {0}
IsStatus (Running slice) = (1 ≤ slice) × (slice ≤ CORE_SLICE)
IsStatus (Stopped cause) = cause ≤ 6

-- what every thread keeps
pub record IsThread (t : RunThread) : Type 0 where
  pub registers : length t.regs.x ≡ 32
  pub zero_register : slice_index t.regs.x 0 ≡ 0
  pub in_range : (i : ℕ) → slice_index t.regs.x i < 2 ^ 32
  pub pc : t.regs.pc < 2 ^ 32
  pub aligned : t.regs.pc % 4 ≡ 0
  pub status : IsStatus t.status

-- the pages say a state to a device that accepted so many entries of each channel
pub record Holds (words : ℕ → ℕ → ℕ) (accepted : ℕ → ℕ) (s : State) : Type 0 where
  pub page : IsPage (words 4) s.byte
  pub rings : (channel : ℕ) → channel < 4 → IsRing (words channel) (accepted channel) (s.out channel)
  pub thread : IsThread s.thread

-- The record.

-- a thread's state as a word: its number in bits 0 to 7, the cause in 8 to 15, the slice in 16 to 23
abbrev pub status_word : Status → ℕ
status_word Ready = 0
status_word (Running slice) = 1 + 2 ^ 16 * slice
status_word (Stopped cause) = 6 + 2 ^ 8 * cause

-- half 0 is pc, and half j is register j
abbrev pub half_of : RunThread → ℕ → ℕ
half_of t j = (if j == 0 then t.regs.pc else slice_index t.regs.x j)

-- word i of the record: two halves each, then the thread's state, then the entries put on channels 0 to 3
abbrev pub record_word : RunThread → (ℕ → ℕ) → ℕ → ℕ
record_word t put i =
    if nat_lt i STATUS_WORD then half_of t (2 * i) + 2 ^ 32 * half_of t (2 * i + 1)
    else (if i == STATUS_WORD then status_word t.status else put (i - PUT_WORD))

-- the cached words of the running pages
abbrev pub running_words : (ℕ → Word) → ℕ → ℕ → ℕ
running_words f page i = (f (running_place page i)).cached

-- what runs: the thread, the counts of entries put, and the cached words of the running pages are this state
pub record RunsAs (thread : RunThread) (put : List ℕ) (f : ℕ → Word) (accepted : ℕ → ℕ) (s : State) : Type 0 where
  pub thread_is : thread ≡ s.thread
  pub put_is : (channel : ℕ) → channel < 4 → slice_index put channel ≡ length (s.out channel)
  pub holds : Holds (running_words f) accepted s

-- these counts are told of the four channels
abbrev pub Tells : List ℕ → (ℕ → ℕ) → Type 0
Tells counts count = (channel : ℕ) → channel < 4 → slice_index counts channel ≡ count channel

-- a place in the table, or from the areas on: the running pages stand between
abbrev pub IsOffPages : ℕ → Type 0
IsOffPages i = (i < TABLE_WORDS) ⊎ (frame_place FIRST_AREA ≤ i)
