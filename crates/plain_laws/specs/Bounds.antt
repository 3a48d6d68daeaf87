-- What waits on channels is bounded, and so are threads, cores and bytes.
use Rattle.std.specs.Prelude.{◌≡◌, ℕ, ◌+◌, ◌-◌, ◌%◌, ◌^◌, ◌<◌, ◌≤◌, [], List, length, All, Some, slice_index}
use Rattle.sls_base.specs.declared.limits.TheConstants.{ENTRY_BYTES, INSTRUCTION_BYTES, LAST_VERSION, OUTPUT_CHANNELS, PAGE_BYTES, REGISTERS, RING_ENTRIES, WAITING_INPUTS}
use Rattle.sls_base.specs.declared.causes.TheConstants.{LOST_OBJECT}
use Rattle.sls_base.specs.declared.image.Image.{Image}
use Rattle.sls_base.specs.declared.image.Program.{Program}
use Rattle.sls_base.specs.declared.image.RegionSpec.{RegionSpec}
use Rattle.sls_base.specs.declared.thread.Thread.{Thread as ThreadRecord}
use Rattle.sls_base.specs.declared.thread.ThreadState.{ThreadState}
use Rattle.sls_base.specs.declared.thread.ThreadState.TheVariants.{Running, Stopped}
use Rattle.plain_state.specs.declared.label.Label.{Label}
use Rattle.plain_state.specs.declared.label.Label.TheVariants.{Input}
use Rattle.plain_model.specs.Objects.{Page, Thread, pages_of}
use Rattle.plain_model.specs.States.{State}
use Rattle.plain_model.specs.Worlds.{World, accepted_count}
use Rattle.plain_model.specs.Play.{play}
use Rattle.plain_model.specs.MayStep.{MayPlay}

-- Bytes.

abbrev pub AreBytes : List ℕ → Type 0
AreBytes bytes = All (λ byte. byte < 2 ^ 8) bytes

-- the content of an image is bytes
abbrev pub IsOfBytes : Image → Type 0
IsOfBytes image =
    All (λ (p : Program). All (λ (spec : RegionSpec). AreBytes spec.content.items) p.regions.items) image.programs.items

-- an input is bytes
abbrev pub HasBytes : Label → Type 0
HasBytes (Input bytes) = AreBytes bytes.items
HasBytes label = Unit {0}

-- it is so whatever may befall a world, label after label, where each input is bytes
abbrev pub ByteAlways : (World → Type 0) → World → Type 0
ByteAlways P w = (labels : List Label) → MayPlay w labels → All HasBytes labels → P (play w labels)

-- an entry or an input is 1 to 56 bytes
pub record IsEntry (entry : List ℕ) : Type 0 where
  pub some : 1 ≤ length entry
  pub room : length entry ≤ ENTRY_BYTES
  pub bytes : AreBytes entry

-- Rings and inputs.

-- each entry that was put and each input that waits is in form, nothing is put on a channel that there isn't, and no
-- more inputs wait than there is room for
pub record HasEntries (s : State) : Type 0 where
  pub entries : (channel : ℕ) → All IsEntry (s.out channel)
  pub channels : (channel : ℕ) → OUTPUT_CHANNELS ≤ channel → s.out channel ≡ []
  pub inputs : All IsEntry s.inputs
  pub waiting : length s.inputs ≤ WAITING_INPUTS

-- Of each channel a state has put as many entries as the device has accepted, and at most as many more as a ring
-- holds; no count is past the greatest one.
pub record HasRoom (w : World) (s : State) : Type 0 where
  pub accepted : (channel : ℕ) → accepted_count w channel ≤ w.base channel + length (s.out channel)
  pub ring : (channel : ℕ) → w.base channel + length (s.out channel) ≤ accepted_count w channel + RING_ENTRIES
  pub count : (channel : ℕ) → w.base channel + length (s.out channel) ≤ 2 ^ 64 - 1

-- So it is of both states of a world, and the version is at most the last.
pub record IsInRoom (w : World) : Type 0 where
  pub now : HasRoom w w.now
  pub saved : HasRoom w w.saved
  pub version : w.version ≤ LAST_VERSION

-- Threads and cores.

-- a core that there is, and a cause that there is
abbrev pub IsStateOf : State → ThreadState → Type 0
IsStateOf s (Running core) = core < length s.cores
IsStateOf s (Stopped cause) = cause ≤ LOST_OBJECT
IsStateOf s state = Unit {0}

-- pc is the address of an instruction, and the registers are words of 32 bits, the first of them 0
pub record IsThread (s : State) (thread : ThreadRecord) : Type 0 where
  pub pc : thread.pc < 2 ^ 32
  pub aligned : thread.pc % INSTRUCTION_BYTES ≡ 0
  pub count : length thread.x ≡ REGISTERS
  pub each : (i : ℕ) → slice_index thread.x i < 2 ^ 32
  pub zero : slice_index thread.x 0 ≡ 0
  pub state : IsStateOf s thread.state

-- The threads of a state are so.
abbrev pub HasThreads : State → Type 0
HasThreads s = (i : ℕ) (thread : ThreadRecord) → s.objects i ≡ Some (Thread thread) → IsThread s thread

-- a state has so many cores
abbrev pub HasCores : ℕ → State → Type 0
HasCores count s = length s.cores ≡ count

-- Pages.

-- a page has bytes, and nothing past its end
pub record IsPage (page : Page) : Type 0 where
  pub bytes : (offset : ℕ) → page.byte offset < 2 ^ 8
  pub end : (offset : ℕ) → PAGE_BYTES ≤ offset → page.byte offset ≡ 0

abbrev pub HasPages : State → Type 0
HasPages s = (i : ℕ) → All IsPage (pages_of (s.objects i))
