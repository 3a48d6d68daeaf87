-- One instruction of a thread, on the running objects and the bytes of pages.
use Rattle.std.specs.Prelude.{◌≡◌, ◌⊎◌, Some, ℕ, ◌+◌, ◌<◌, All, Bool, List, [], slice_index_or, true, false, if◌then◌else◌, Option, None, option_map}
use Rattle.sls_base.specs.declared.fixed.TheConstants.{FIRST_OUTPUT_RING}
use Rattle.sls_base.specs.declared.limits.TheConstants.{FRAME_WORDS, INSTRUCTION_BYTES, OUTPUT_CHANNELS, PAGES}
use Rattle.sls_base.specs.declared.rights.TheConstants.{WRITE, EXECUTE}
use Rattle.sls_base.specs.declared.thread.Thread.{Thread as ThreadRecord}
use Rattle.rv_table.specs.Decoded.{decoded}
use Rattle.rv_core.specs.Effect.{effect}
use Rattle.rv_core.specs.declared.registers.Plan.{Plan}
use Rattle.pmem_model.specs.Memory.{Memory, word_at, SameHomes, count_up}
use Rattle.pmem_operations.specs.Operations.{AreOperations}
use Rattle.mem_space.specs.declared.memory.MemPage.{MemPage}
use Rattle.plain_state.specs.Objects.{OutputRing, page_of_channel, regions_of}
use Rattle.plain_state.specs.States.{State}
use Rattle.plain_state.specs.Worlds.{World}
use Rattle.plain_state.specs.Memory.{is_covered, with_stores}
use Rattle.plain_state.specs.Effects.{Effect, regs_of}
use Rattle.plain_state.specs.Instructions.{seen_by, fetched, value_at}
use Rattle.plain_laws.specs.Bounds.{HasRoom, IsEntry}
use Rattle.plain_laws.specs.Sound.{AreApart}
use Rattle.kobj_table.specs.declared.objects.Objects.{Objects}
use Rattle.kobj_table.specs.Objects.{Rest, slot_at, object_at, state_of}
use Rattle.call_readings.specs.declared.devices.Devices.{Devices}
use Rattle.call_readings.specs.Content.{Reads}
use Rattle.call_readings.specs.Kernel.{world_of, CountsEntries, IsCounted, IsOfWorld}
use Rattle.call_readings.specs.Need.{IsAtHome, page_seen}
use Rattle.page_bytes.specs.Bytes.{SeesPage, word_of_page}
use Rattle.out_gate.specs.Entries.{EntriesStand}
use Rattle.kernel_calls.specs.declared.runtime.Runtime.{Runtime}
use Rattle.kernel_calls.specs.Kernel.{Held}

-- the rings of the output channels stand at their numbers
abbrev pub HasRings : Objects → Type 0
HasRings o = (content : ℕ → ℕ → ℕ) (channel : ℕ) → channel < OUTPUT_CHANNELS
    → object_at content o (FIRST_OUTPUT_RING + channel) ≡ Some (OutputRing channel)

-- What a thread's instruction finds is a world's: beside what is read before it, the bytes of the input that waits
-- first, which has a form like the others, and the entries that wait on the pages of rings, which have room for them.
pub record Finds (k : Runtime) (devices : Devices) (input : List ℕ) (m : Memory) (rest : Rest) (w : World) : Type 0 where
  pub found : IsOfWorld k.objects k.numbers devices m rest w
  pub first : slice_index_or rest.inputs 0 [] ≡ input
  pub inputs : All IsEntry rest.inputs
  pub entries : EntriesStand rest.content w rest.out
  pub room : HasRoom w (state_of k.objects rest)

-- Some world is the kernel's, of which an instruction finds all. Each page is of one object alone, and the rings of the
-- output channels stand at their numbers. So it is also while a thread that was taken stands nowhere.
pub record HeldOver (k : Runtime) (devices : Devices) (input : List ℕ) (m : Memory) : Type 0 where
  pub held : Held k
  pub found : Finds k devices input m held.rest held.world
  pub apart : AreApart (state_of k.objects held.rest)
  pub rings : HasRings k.objects

-- What may run.

-- Where a space shows a page at an address, with a right, the page is at home.
abbrev pub ShowsHome : Objects → Memory → ℕ → ℕ → ℕ → Type 0
ShowsHome o m space right at = (content : ℕ → ℕ → ℕ)
    → IsAtHome m (page_seen (object_at content o) (regions_of (object_at content o space)) right at)

-- Where a space shows a page at an address to be stored to, the page is at home, and something was stored to it before.
pub record ShowsStored (o : Objects) (m : Memory) (space at : ℕ) : Type 0 where
  pub home : ShowsHome o m space WRITE at
  pub stored : (page : MemPage) → SeesPage o space WRITE at page → page.fresh ≡ false

-- what the instruction at a thread's pc comes to, if there is one
abbrev pub plan_of : State → ThreadRecord → Option Plan
plan_of s thread =
    if is_covered (seen_by s thread) EXECUTE thread.pc INSTRUCTION_BYTES
    then option_map (λ instr. effect instr (regs_of thread)) (decoded (value_at s (fetched s thread)))
    else None

-- What becomes of it.

-- the pages of rings have the same bytes
abbrev pub KeepsRingPages : (ℕ → ℕ → ℕ) → (ℕ → ℕ → ℕ) → Type 0
KeepsRingPages first second = (channel offset : ℕ) → channel < OUTPUT_CHANNELS
    → second (page_of_channel channel) offset ≡ first (page_of_channel channel) offset

-- The memory has what becomes of the pages' bytes by an effect: the objects are then the state after its stores, and
-- the pages of rings have the bytes that they had.
pub record Stored (o : Objects) (rest : Rest) (e : Effect) (m : Memory) : Type 0 where
  pub content : ℕ → ℕ → ℕ
  pub reads : Reads content m
  pub state : state_of o (record rest { content = content })
      ≡ record (state_of o rest) { objects = with_stores (state_of o rest).objects e.stores }
  pub rings : KeepsRingPages rest.content content

-- A word stands in the runtime frame of a page that passes a test.
pub record IsOnPage (test : ℕ → Bool) (at : ℕ) : Type 0 where
  pub page : ℕ
  pub word : ℕ
  pub passes : test page ≡ true
  pub range : page < PAGES
  pub within : word < FRAME_WORDS
  pub place : at ≡ word_of_page page word

-- none, one or two operations
abbrev pub AtMostTwo : Memory → Memory → Type 0
AtMostTwo old new = (new.ops ≡ old.ops) ⊎ ((new.ops ≡ count_up old.ops) ⊎ (new.ops ≡ count_up (count_up old.ops)))

-- Something was stored to pages that pass a test: each word that has changed stands in the runtime frame of one of
-- them, and its durable value is as it was. The same frames are at home. It was at most two operations by whichever
-- core, and all words are what these made of them.
pub record StoresPages (test : ℕ → Bool) (old new : Memory) : Type 0 where
  pub words : (at : ℕ) → (word_at new at ≡ word_at old at) ⊎ IsOnPage test at
  pub durable : (at : ℕ) → (word_at new at).durable ≡ (word_at old at).durable
  pub homes : SameHomes old new
  pub counts : new ≡ record old { banks = new.banks; ops = new.ops }
  pub ops : AtMostTwo old new
  pub operations : (core : ℕ) → AreOperations core 2 (word_at old) (word_at new)

-- The kernel's values, with what doesn't stand in its objects, are a state of a world, whose entries the rings count.
-- The numbers in use are that world's, the memory has its pages' bytes, and the entries that wait stand on the pages of
-- their rings.
pub record IsNow (k : Runtime) (m : Memory) (rest : Rest) (w : World) (s : State) : Type 0 where
  pub state : state_of k.objects rest ≡ s
  pub counted : IsCounted k.numbers (world_of k.objects rest w)
  pub rings : (id : ℕ) → CountsEntries (slot_at k.objects id) (world_of k.objects rest w)
  pub content : Reads rest.content m
  pub entries : EntriesStand rest.content w rest.out
