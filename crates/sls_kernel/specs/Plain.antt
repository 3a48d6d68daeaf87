-- The plain machine of one program: whole states, one saved copy, and nothing of words, areas or turns.
--
-- The program is an image of code words: one thread (object 10), one page at address 0 that may be read, written and
-- executed, and a group with a capability of all rights to each of its objects. None of these objects is ever dropped,
-- so a commit sweeps nothing.
use Rattle.std.specs.Prelude.{ℕ, zero, suc, ◌+◌, ◌-◌, ◌*◌, ◌/◌, ◌%◌, ◌^◌, ◌==◌, ◌&&◌, ◌||◌, not, nat_lt, nat_le, Bool, true, false, if◌then◌else◌, min, List, [], ◌∷◌, ◌++◌, length, replicate, slice_index, slice_index_or, slice_set, Option, Some, None}
use Rattle.sls_base.specs.declared.limits.TheConstants.{PAGE_BYTES, INSTRUCTION_BYTES, ENTRY_BYTES, RING_ENTRIES, CORE_SLICE}
use Rattle.sls_base.specs.declared.causes.TheConstants.{HALTED, ILLEGAL_WORD, NO_ACCESS}
use Rattle.sls_base.specs.declared.entry.Entry.{Entry}
use Rattle.sls_base.specs.Counts.{one_more}
use Rattle.rv_table.specs.declared.Instr.{Instr}
use Rattle.rv_table.specs.Decoded.{decoded}
use Rattle.rv_core.specs.declared.registers.Plan.{Plan}
use Rattle.rv_core.specs.declared.registers.Plan.TheVariants.{Set, Load, Store, Call, Stop}
use Rattle.rv_core.specs.Effect.{effect, size_of, extended, plus}
use Rattle.sls_kernel.specs.declared.thread.Status.{Status}
use Rattle.sls_kernel.specs.declared.thread.Status.TheVariants.{Ready, Running, Stopped}
use Rattle.sls_kernel.specs.declared.thread.RunThread.{RunThread}
use Rattle.sls_kernel.specs.declared.calls.Refusal.{Refusal}
use Rattle.sls_kernel.specs.declared.calls.Refusal.TheVariants.{BadCall, NoCap, WrongKind, BadAddress, BadSize, Full}

-- what a program can change: its thread, its page by address, and the entries that it put on each channel
pub record State : Type 0 where
  pub thread : RunThread
  pub byte : ℕ → ℕ
  pub out : ℕ → List (List ℕ)

-- Memory.

-- the bytes from an address on as a number, the lowest first
abbrev pub number_at : (ℕ → ℕ) → ℕ → ℕ → ℕ
number_at byte at zero = 0
number_at byte at (suc count) = byte at + 2 ^ 8 * number_at byte (at + 1) count

-- the bytes from an address on
abbrev pub bytes_at : (ℕ → ℕ) → ℕ → ℕ → List ℕ
bytes_at byte at zero = []
bytes_at byte at (suc count) = byte at ∷ bytes_at byte (at + 1) count

-- the page after the low bytes of a number were stored
abbrev pub stored_at : (ℕ → ℕ) → ℕ → ℕ → ℕ → ℕ → ℕ
stored_at byte at count value a =
    if nat_le at a && nat_lt a (at + count) then value / 2 ^ (8 * (a - at)) % 2 ^ 8 else byte a

-- the page covers so many bytes from an address on
abbrev pub covers : ℕ → ℕ → Bool
covers at count = count == 0 || nat_le (at + count) PAGE_BYTES

-- One instruction.

-- the thread goes on from this state, or stops with a cause and keeps what it has
pub data Outcome : Type 0 where
  GoesOn : State → Outcome
  Stops : ℕ → Outcome

-- the registers after a write, of which one to the first is lost
abbrev pub with_register : List ℕ → ℕ → ℕ → List ℕ
with_register x rd value = (if rd == 0 then x else slice_set x rd value)

-- the state with a register set and another pc
abbrev pub set_register : State → ℕ → ℕ → ℕ → State
set_register s rd value pc = record {
  thread = record { status = s.thread.status; regs = record { pc = pc; x = with_register s.thread.regs.x rd value } };
  byte = s.byte;
  out = s.out;
}

abbrev pub register : State → ℕ → ℕ
register s i = slice_index s.thread.regs.x i

abbrev pub next_pc : State → ℕ
next_pc s = plus s.thread.regs.pc INSTRUCTION_BYTES

-- Calls: x17 names the call, x10 to x12 have its arguments, and x10 gets its answer.

-- a refusal as x10 gets it: its number, which is negative
abbrev pub refusal_number : Refusal → ℕ
refusal_number BadCall = 2 ^ 32 - 1
refusal_number NoCap = 2 ^ 32 - 2
refusal_number WrongKind = 2 ^ 32 - 3
refusal_number BadAddress = 2 ^ 32 - 5
refusal_number BadSize = 2 ^ 32 - 6
refusal_number Full = 2 ^ 32 - 12

abbrev pub answered : State → ℕ → State
answered s answer = set_register s 10 answer (next_pc s)

-- The group's slots: 0 itself, 1 its space, 2 to 5 the output rings of channels 0 to 3, 6 the input ring, 7 the root
-- group, 8 the memory and 9 the thread; the others are empty.
abbrev pub is_empty_slot : ℕ → Bool
is_empty_slot slot = nat_lt 9 slot

abbrev pub is_output_slot : ℕ → Bool
is_output_slot slot = nat_le 2 slot && nat_lt slot 6

-- the ring of a channel has as many entries that wait to be accepted as it can hold, or as many numbers as there are
abbrev pub is_full : ℕ → ℕ → Bool
is_full put accepted = put == accepted + RING_ENTRIES || put == 2 ^ 64 - 1

-- the first refusal of put(slot, address, length); each capability has all rights, so none lacks one
abbrev pub put_refusal : (ℕ → ℕ) → State → Option Refusal
put_refusal accepted s =
    if is_empty_slot (register s 10) then Some NoCap
    else (if not (is_output_slot (register s 10)) then Some WrongKind
    else (if not (covers (register s 11) (min (register s 12) ENTRY_BYTES)) then Some BadAddress
    else (if register s 12 == 0 || nat_lt ENTRY_BYTES (register s 12) then Some BadSize
    else (if is_full (length (s.out (register s 10 - 2))) (accepted (register s 10 - 2)) then Some Full
    else None))))

-- the entries with one more on a channel
abbrev pub with_entry : (ℕ → List (List ℕ)) → ℕ → List ℕ → ℕ → List (List ℕ)
with_entry out channel entry c = (if c == channel then out c ++ entry ∷ [] else out c)

-- the state after put: the bytes are the channel's next entry, or x10 tells the refusal
abbrev pub put_done : State → Option Refusal → State
put_done s (Some refusal) = answered s (refusal_number refusal)
put_done s None = record {
  thread = (answered s 0).thread;
  byte = s.byte;
  out = with_entry s.out (register s 10 - 2) (bytes_at s.byte (register s 11) (register s 12));
}

-- call 1 is halt, call 2 is put, and no other is known
abbrev pub call : (ℕ → ℕ) → State → Outcome
call accepted s =
    if register s 17 == 1 then Stops HALTED
    else (if register s 17 == 2 then GoesOn (put_done s (put_refusal accepted s))
    else GoesOn (answered s (refusal_number BadCall)))

-- what an instruction's effect does to a state; past the page there is no access
abbrev pub carried_out : (ℕ → ℕ) → State → Plan → Outcome
carried_out accepted s (Set rd value pc) = GoesOn (set_register s rd value pc)
carried_out accepted s (Load op rd at) =
    if covers at (size_of op)
    then GoesOn (set_register s rd (extended op (number_at s.byte at (size_of op))) (next_pc s))
    else Stops NO_ACCESS
carried_out accepted s (Store op at value) =
    if covers at (size_of op)
    then GoesOn (record {
      thread = (set_register s 0 0 (next_pc s)).thread;
      byte = stored_at s.byte at (size_of op) value;
      out = s.out;
    })
    else Stops NO_ACCESS
carried_out accepted s Call = call accepted s
carried_out accepted s (Stop cause) = Stops cause

-- the instruction of a word, if it is one
abbrev pub obeyed : (ℕ → ℕ) → State → Option Instr → Outcome
obeyed accepted s None = Stops ILLEGAL_WORD
obeyed accepted s (Some instr) = carried_out accepted s (effect instr s.thread.regs)

-- the instruction at pc
abbrev pub instruction : (ℕ → ℕ) → State → Outcome
instruction accepted s =
    if covers s.thread.regs.pc INSTRUCTION_BYTES
    then obeyed accepted s (decoded (number_at s.byte s.thread.regs.pc INSTRUCTION_BYTES))
    else Stops NO_ACCESS

-- Ticks: a core that has no thread takes the front of the run queue with a whole slice, or is idle where the queue is
-- empty. The one thread is in the queue where it is Ready, and on the core where it is Running.

abbrev pub with_status : State → Status → State
with_status s status = record { thread = record { status = status; regs = s.thread.regs }; byte = s.byte; out = s.out }

-- the thread after an instruction, with what was left of its slice before: at the end of the slice it goes to the
-- queue's back and leaves the core
abbrev pub sliced : State → ℕ → Outcome → State
sliced s slice (GoesOn next) = with_status next (if nat_lt 1 slice then Running (slice - 1) else Ready)
sliced s slice (Stops cause) = with_status s (Stopped cause)

abbrev pub ticked_by : (ℕ → ℕ) → State → Status → State
ticked_by accepted s Ready = sliced s CORE_SLICE (instruction accepted s)
ticked_by accepted s (Running slice) = sliced s slice (instruction accepted s)
ticked_by accepted s (Stopped cause) = s

-- the state after a tick, for a device that accepted so many entries of each channel
abbrev pub ticked : (ℕ → ℕ) → State → State
ticked accepted s = ticked_by accepted s s.thread.status

-- a tick is idle where no thread is there to run
abbrev pub is_stopped : Status → Bool
is_stopped (Stopped cause) = true
is_stopped Ready = false
is_stopped (Running slice) = false

-- Worlds.

-- the running state, the saved copy, what the device accepted of each channel, the version, and how many commits and
-- cuts there were
pub record World : Type 0 where
  pub now : State
  pub saved : State
  pub released : ℕ → List (List ℕ)
  pub version : ℕ
  pub commits : ℕ
  pub cuts : ℕ

-- how many entries of a channel the device accepted
abbrev pub accepted_count : World → ℕ → ℕ
accepted_count w channel = length (w.released channel)

-- the state that a program begins with
abbrev pub initial : (ℕ → ℕ) → State
initial byte = record {
  thread = record { status = Ready; regs = record { pc = 0; x = replicate 32 0 } };
  byte = byte;
  out = λ channel. [];
}

-- the first world of a program, on a memory that counted so many commits and cuts before
abbrev pub first : (ℕ → ℕ) → ℕ → ℕ → World
first byte commits cuts = record {
  now = initial byte;
  saved = initial byte;
  released = λ channel. [];
  version = 0;
  commits = commits;
  cuts = cuts;
}

abbrev pub tick : World → World
tick w = record w { now = ticked (accepted_count w) w.now }

abbrev pub commit : World → World
commit w = record w { saved = w.now; version = w.version + 1; commits = one_more w.commits }

abbrev pub cut : World → World
cut w = record w { now = w.saved; cuts = one_more w.cuts }

-- there is an entry that the saved copy put and the device has not accepted
abbrev pub is_offered : World → ℕ → Bool
is_offered w channel = nat_lt (accepted_count w channel) (length (w.saved.out channel))

-- the bytes of that entry
abbrev pub next_entry : World → ℕ → List ℕ
next_entry w channel = slice_index_or (w.saved.out channel) (accepted_count w channel) []

-- the entry that the device accepts next
abbrev pub offered : World → ℕ → Option Entry
offered w channel =
    if is_offered w channel
    then Some (record { number = accepted_count w channel; bytes = record { items = next_entry w channel } })
    else None

abbrev pub accept : World → ℕ → World
accept w channel =
    if is_offered w channel then record w { released = with_entry w.released channel (next_entry w channel) } else w
