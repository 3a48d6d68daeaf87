-- One instruction of a thread: the row of the instruction table for the word at its pc, over the memory that it sees.
use Rattle.std.specs.Prelude.{ℕ, if◌then◌else◌, List, ◌++◌, map, Option, Some, None}
use Rattle.sls_base.specs.declared.rights.TheConstants.{READ, WRITE, EXECUTE}
use Rattle.sls_base.specs.declared.causes.TheConstants.{ILLEGAL_WORD, NO_ACCESS}
use Rattle.sls_base.specs.declared.thread.Thread.{Thread as ThreadRecord}
use Rattle.rv_table.specs.declared.Instr.{Instr}
use Rattle.rv_table.specs.Decoded.{decoded}
use Rattle.rv_core.specs.declared.registers.Plan.{Plan}
use Rattle.rv_core.specs.declared.registers.Plan.TheVariants.{Set, Load, Store, Call, Stop}
use Rattle.rv_core.specs.Effect.{effect, size_of, extended, with_register}
use Rattle.plain_state.specs.declared.effect.Place.{Place}
use Rattle.plain_state.specs.declared.objects.Region.{Region}
use Rattle.plain_state.specs.Objects.{regions_of}
use Rattle.plain_state.specs.States.{State}
use Rattle.plain_state.specs.Memory.{is_covered, places_of, byte_at, stores_at, number_of_bytes, bytes_of_number}
use Rattle.plain_state.specs.Worlds.{World}
use Rattle.sls_base.specs.declared.limits.TheConstants.{INSTRUCTION_BYTES}
use Rattle.plain_state.specs.Effects.{Effect, goes_on, stops, regs_of, next_pc}
use Rattle.plain_state.specs.CallEffects.{ecall}

-- the regions of a thread's space
abbrev pub seen_by : State → ThreadRecord → List Region
seen_by s thread = regions_of (s.objects thread.space)

-- the bytes at places as a number
abbrev pub value_at : State → List Place → ℕ
value_at s places = number_of_bytes (map (byte_at s.objects) places)

abbrev pub load_effect : State → ThreadRecord → ℕ → ℕ → ℕ → Effect
load_effect s thread op rd at =
    let places = places_of (seen_by s thread) READ at (size_of op) in
    if is_covered (seen_by s thread) READ at (size_of op)
    then record (goes_on (record {
      pc = next_pc thread;
      x = with_register thread.x rd (extended op (value_at s places));
    })) { loads = places }
    else stops thread NO_ACCESS

abbrev pub store_effect : State → ThreadRecord → ℕ → ℕ → ℕ → Effect
store_effect s thread op at value =
    if is_covered (seen_by s thread) WRITE at (size_of op)
    then record (goes_on (record { pc = next_pc thread; x = thread.x })) {
      stores = stores_at (places_of (seen_by s thread) WRITE at (size_of op)) (bytes_of_number (size_of op) value);
    }
    else stops thread NO_ACCESS

-- what a row's effect does
abbrev pub carried_out : World → ℕ → ThreadRecord → Plan → Effect
carried_out w id thread (Set rd value pc) = goes_on (record { pc = pc; x = with_register thread.x rd value })
carried_out w id thread (Load op rd at) = load_effect w.now thread op rd at
carried_out w id thread (Store op at value) = store_effect w.now thread op at value
carried_out w id thread Call = ecall w id thread
carried_out w id thread (Stop cause) = stops thread cause

-- a word that no row has stops the thread
abbrev pub obeyed : World → ℕ → ThreadRecord → Option Instr → Effect
obeyed w id thread None = stops thread ILLEGAL_WORD
obeyed w id thread (Some instr) = carried_out w id thread (effect instr (regs_of thread))

-- the places of the instruction at pc
abbrev pub fetched : State → ThreadRecord → List Place
fetched s thread = places_of (seen_by s thread) EXECUTE thread.pc INSTRUCTION_BYTES

abbrev pub with_fetch : List Place → Effect → Effect
with_fetch places e = record e { loads = places ++ e.loads }

-- The instruction at the pc of thread `id`. The thread stops where it can't be fetched.
unfoldable pub instruction : World → ℕ → ThreadRecord → Effect
instruction w id thread =
    if is_covered (seen_by w.now thread) EXECUTE thread.pc INSTRUCTION_BYTES
    then with_fetch (fetched w.now thread) (obeyed w id thread (decoded (value_at w.now (fetched w.now thread))))
    else stops thread NO_ACCESS
