-- The plain machine of one program of code words, as that of the whole kernel: on one core, with the image of that
-- program.
use Rattle.std.specs.Prelude.{◌≡◌, ◌⊎◌, ℕ, ◌+◌, ◌≤◌, true, List, [], ◌∷◌, length, Option, Some, None}
use Rattle.sls_base.specs.declared.limits.TheConstants.{INSTRUCTION_BYTES}
use Rattle.sls_base.specs.declared.fixed.TheConstants.{FIRST_PROGRAM_OBJECT, FIRST_PROGRAM_PAGE}
use Rattle.sls_base.specs.declared.entry.Entry.{Entry}
use Rattle.sls_base.specs.declared.image.Image.{Image}
use Rattle.sls_base.specs.declared.thread.ThreadState.{ThreadState}
use Rattle.sls_base.specs.declared.thread.ThreadState.TheVariants.{Ready, Running, Stopped}
use Rattle.rv_table.specs.declared.Instr.TheVariants.{Ecall}
use Rattle.rv_table.specs.Decoded.{decoded}
use Rattle.sls_kernel.specs.declared.thread.RunThread.{RunThread}
use Rattle.sls_kernel.specs.declared.thread.Status.{Status}
use Rattle.sls_kernel.specs.declared.thread.Status.TheVariants.{Ready as IsReady, Running as IsRunning, Stopped as HasStopped}
use Rattle.sls_kernel.specs.Plain.{State as ProgramState, World as ProgramWorld, covers, number_at, register}
use Rattle.plain_state.specs.declared.calls.TheConstants.{CALL_NUMBER}
use Rattle.plain_state.specs.declared.label.Reply.{Reply}
use Rattle.plain_state.specs.declared.label.Reply.TheVariants.{Took, NoEntry}
use Rattle.plain_state.specs.declared.objects.Occupant.{Occupant}
use Rattle.plain_model.specs.Objects.{Object, Thread, Memory}
use Rattle.plain_model.specs.States.{State, with_object}
use Rattle.plain_model.specs.Worlds.{World}
use Rattle.plain_model.specs.Calls.{calls}
use Rattle.plain_model.specs.Initial.{initial}

-- The program's objects are numbered in this order, and its one page has the first number of a program's page.

abbrev pub the_group : ℕ
the_group = FIRST_PROGRAM_OBJECT

abbrev pub the_space : ℕ
the_space = FIRST_PROGRAM_OBJECT + 1

abbrev pub the_memory : ℕ
the_memory = FIRST_PROGRAM_OBJECT + 2

abbrev pub the_thread : ℕ
the_thread = FIRST_PROGRAM_OBJECT + 3

-- there is one core, and its number is the first
abbrev pub core_count : ℕ
core_count = 1

abbrev pub the_core : ℕ
the_core = 0

-- Parts of a state.

abbrev pub state_of : Status → ThreadState
state_of IsReady = Ready
state_of (IsRunning slice) = Running the_core
state_of (HasStopped cause) = Stopped cause

abbrev pub thread_object : RunThread → Object
thread_object thread = Thread (record {
  group = the_group;
  space = the_space;
  state = state_of thread.status;
  pc = thread.regs.pc;
  x = thread.regs.x;
})

abbrev pub memory_object : (ℕ → ℕ) → Object
memory_object byte = Memory (record { number = FIRST_PROGRAM_PAGE; byte = byte } ∷ [])

-- the thread stands in the queue where it is Ready, and on the core where it is Running

abbrev pub queue_of : Status → List ℕ
queue_of IsReady = the_thread ∷ []
queue_of status = []

abbrev pub occupant_of : Status → Option Occupant
occupant_of (IsRunning slice) = Some (record { thread = the_thread; slice = slice })
occupant_of status = None

-- the objects that the image begins with, but for the bytes of the page and the thread
abbrev pub whole_objects : Image → ProgramState → ℕ → Option Object
whole_objects image s =
    with_object (with_object (initial image core_count).objects the_memory (memory_object s.byte)) the_thread
    (thread_object s.thread)

-- The state of the whole kernel that a state of the program is: that which its image begins with on one core, but for
-- those objects, where the thread stands, and the entries that were put.
abbrev pub whole : Image → ProgramState → State
whole image s = record {
  objects = whole_objects image s;
  queue = queue_of s.thread.status;
  cores = occupant_of s.thread.status ∷ [];
  out = s.out;
  inputs = [];
}

-- Two worlds are one: both states, what the device accepted, and the version. The whole kernel's world alone tells what
-- was stored to and changed, and the program's alone how many commits and cuts there were.
pub record IsJoined (image : Image) (v : ProgramWorld) (w : World) : Type 0 where
  pub now : w.now ≡ whole image v.now
  pub saved : w.saved ≡ whole image v.saved
  pub released : w.released ≡ v.released
  pub base : (channel : ℕ) → w.base channel ≡ 0
  pub version : w.version ≡ v.version

-- a call that both machines know, halt (1) or put (2), or one that neither knows
abbrev pub IsKnownCall : ℕ → Type 0
IsKnownCall number = (number ≡ 1) ⊎ ((number ≡ 2) ⊎ (length calls ≤ number))

-- where the thread's next instruction is an ECALL, it makes such a call
abbrev pub MakesKnownCall : ProgramState → Type 0
MakesKnownCall s =
    covers s.thread.regs.pc INSTRUCTION_BYTES ≡ true
    → decoded (number_at s.byte s.thread.regs.pc INSTRUCTION_BYTES) ≡ Some Ecall
    → IsKnownCall (register s CALL_NUMBER)

-- what the whole kernel answers where this entry is offered
abbrev pub accept_reply : Option Entry → Reply
accept_reply None = NoEntry
accept_reply (Some entry) = Took entry
