-- What the parts of a tick do to the memory and to the state.
use Rattle.std.specs.Prelude.{◌≡◌, ◌⊎◌, true, false, not, if◌then◌else◌, ℕ, ◌+◌, ◌-◌, ◌/◌, ◌%◌, ◌<◌, ◌≤◌, List, slice_index, Option, Some, None, Result, Ok, Err}
use Rattle.sls_base.specs.declared.limits.TheConstants.{ENTRY_BYTES}
use Rattle.pmem_model.specs.Words.{Word}
use Rattle.pmem_model.specs.Memory.{Memory, word_at}
use Rattle.sls_kernel.specs.Plain.{State, Outcome, GoesOn, Stops, bytes_at, with_entry, register, put_refusal, is_empty_slot, is_output_slot}
use Rattle.sls_kernel.specs.Words.{RunsAs, byte_of, frame_place}
use Rattle.rv_core.specs.declared.registers.Plan.{Plan}
use Rattle.rv_core.specs.declared.registers.Plan.TheVariants.{Set, Load, Store, Call, Stop}
use Rattle.rv_core.specs.Effect.{size_of}
use Rattle.sls_kernel.specs.declared.calls.Refusal.{Refusal}
use Rattle.sls_kernel.specs.declared.calls.Refusal.TheVariants.{NoCap, WrongKind}
use Rattle.sls_kernel.specs.declared.thread.RunThread.{RunThread}

-- the bytes of a load or store
abbrev pub IsSize : ℕ → Type 0
IsSize size = (size ≡ 1) ⊎ ((size ≡ 2) ⊎ (size ≡ 4))

-- what every effect of an instruction keeps: registers, sizes and causes are in range, and loads and stores are aligned
abbrev pub IsPlan : Plan → Type 0
IsPlan (Set rd value pc) = rd < 32
IsPlan (Load op rd at) = IsSize (size_of op) × (rd < 32) × (at % size_of op ≡ 0)
IsPlan (Store op at value) = IsSize (size_of op) × (at % size_of op ≡ 0)
IsPlan Call = Unit {0}
IsPlan (Stop cause) = cause ≤ 5

-- the next instruction is aligned
abbrev pub IsAligned : Plan → Type 0
IsAligned (Set rd value pc) = pc % 4 ≡ 0
IsAligned (Load op rd at) = Unit {0}
IsAligned (Store op at value) = Unit {0}
IsAligned Call = Unit {0}
IsAligned (Stop cause) = Unit {0}

-- a place that is not in the frame
abbrev pub IsOutside : ℕ → ℕ → Type 0
IsOutside frame i = (i < frame_place frame) ⊎ (frame_place (frame + 1) ≤ i)

-- the words outside of a frame are as they were
abbrev pub SameOutside : ℕ → Memory → Memory → Type 0
SameOutside frame old new = (i : ℕ) → IsOutside frame i → word_at new i ≡ word_at old i

-- these words are an entry of so many bytes of a page from an address on
pub record AreEntry (words : List ℕ) (byte : ℕ → ℕ) (at count : ℕ) : Type 0 where
  pub size : slice_index words 0 ≡ count
  pub bytes : (k : ℕ) → k < ENTRY_BYTES
      → byte_of (slice_index words (1 + k / 8)) (k % 8) ≡ slice_index (bytes_at byte at count) k

-- what a slot is: the channel of an output ring, or none
abbrev pub SlotFound : Result ℕ Refusal → ℕ → Type 0
SlotFound (Ok channel) slot =
    (is_empty_slot slot ≡ false) × (is_output_slot slot ≡ true) × (channel ≡ slot - 2) × (channel < 4)
SlotFound (Err refusal) slot =
    (if is_empty_slot slot then Some NoCap
    else (if not (is_output_slot slot) then Some WrongKind else None)) ≡ Some refusal

-- the state with the entry of a put
abbrev pub with_put : State → State
with_put s = record {
  thread = s.thread;
  byte = s.byte;
  out = with_entry s.out (register s 10 - 2) (bytes_at s.byte (register s 11) (register s 12));
}

-- what the code has after a put: the state with the entry, or as it was with a refusal
abbrev pub HasPut : Result (Unit {0}) Refusal → RunThread → List ℕ → (ℕ → Word) → (ℕ → ℕ) → State → Type 0
HasPut (Ok done) thread put f count s = (put_refusal count s ≡ None) × RunsAs thread put f count (with_put s)
HasPut (Err refusal) thread put f count s = (put_refusal count s ≡ Some refusal) × RunsAs thread put f count s

-- what the code has after an instruction (a cause where it stops) is the outcome
abbrev pub Became : Option ℕ → RunThread → List ℕ → (ℕ → Word) → (ℕ → ℕ) → State → Outcome → Type 0
Became stop thread put f count s (GoesOn next) = (stop ≡ None) × RunsAs thread put f count next
Became stop thread put f count s (Stops cause) = (stop ≡ Some cause) × (cause ≤ 5) × RunsAs thread put f count s
