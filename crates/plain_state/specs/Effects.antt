-- What an instruction or a call does, as data: nothing is done yet.
use Rattle.std.specs.Prelude.{ℕ, Bool, false, List, [], Option, None, slice_set}
use Rattle.sls_base.specs.declared.limits.TheConstants.{INSTRUCTION_BYTES}
use Rattle.sls_base.specs.declared.thread.Thread.{Thread as ThreadRecord}
use Rattle.sls_base.specs.declared.thread.ThreadState.{ThreadState}
use Rattle.rv_core.specs.declared.registers.Regs.{Regs}
use Rattle.rv_core.specs.Effect.{plus}
use Rattle.plain_state.specs.declared.calls.TheConstants.{ANSWER}
use Rattle.plain_state.specs.declared.effect.Place.{Place}
use Rattle.plain_state.specs.declared.effect.ByteStore.{ByteStore}
use Rattle.plain_state.specs.declared.effect.Output.{Output}
use Rattle.plain_state.specs.declared.effect.Goes.{Goes}
use Rattle.plain_state.specs.declared.effect.Goes.TheVariants.{On, Asleep, Stop}
use Rattle.plain_state.specs.Objects.{Object}

-- an object gets this value, or is made
pub record Change : Type 0 where
  pub id : ℕ
  pub object : Object

-- An effect: the thread's registers and pc afterwards, and what becomes of the thread; the places that it loads from, and the
-- bytes that it stores; the further objects that it changes or makes; the threads that it makes Ready, in order; the entry
-- that it puts; whether it takes the first input; and whether it wishes for a checkpoint.
pub record Effect : Type 0 where
  pub regs : Regs
  pub goes : Goes
  pub loads : List Place
  pub stores : List ByteStore
  pub changes : List Change
  pub wakes : List ℕ
  pub output : Option Output
  pub takes : Bool
  pub wishes : Bool

abbrev pub regs_of : ThreadRecord → Regs
regs_of thread = record { pc = thread.pc; x = thread.x }

-- registers are set and the thread goes on; nothing else happens
abbrev pub goes_on : Regs → Effect
goes_on regs = record {
  regs = regs;
  goes = On;
  loads = [];
  stores = [];
  changes = [];
  wakes = [];
  output = None;
  takes = false;
  wishes = false;
}

-- a thread that stops keeps its registers and its pc
abbrev pub stops : ThreadRecord → ℕ → Effect
stops thread cause = record (goes_on (regs_of thread)) { goes = Stop cause }

-- the instruction after it
abbrev pub next_pc : ThreadRecord → ℕ
next_pc thread = plus thread.pc INSTRUCTION_BYTES

-- a call is answered, and the thread goes on behind it
abbrev pub answers : ThreadRecord → ℕ → Effect
answers thread answer = goes_on (record { pc = next_pc thread; x = slice_set thread.x ANSWER answer })

-- a call waits for its answer: the thread will go on behind it, and its registers stay until it is Ready again
abbrev pub waits : ThreadRecord → ThreadState → Effect
waits thread state = record (goes_on (record { pc = next_pc thread; x = thread.x })) { goes = Asleep state }
