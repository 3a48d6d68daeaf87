-- What the instruction at pc does, in both machines.
use Rattle.std.specs.Prelude.{◌≡◌, ℕ, ◌/◌, ◌*◌, ◌%◌, ◌==◌, Bool, true, false, if◌then◌else◌, List, [], Option, Some, None}
use Rattle.std.proofs.Common.{refl, ap, sym, subst}
use mathlib.Core.Path.{fun_ext}
use Rattle.sls_base.specs.declared.limits.TheConstants.{INSTRUCTION_BYTES}
use Rattle.sls_base.specs.declared.rights.TheConstants.{READ, WRITE, EXECUTE}
use Rattle.sls_base.specs.declared.causes.TheConstants.{ILLEGAL_WORD, NO_ACCESS}
use Rattle.rv_table.specs.declared.Instr.{Instr}
use Rattle.rv_table.specs.declared.Instr.TheVariants.{Lui, Auipc, Jal, Jalr, Branch, Load as LoadRow, Store as StoreRow, OpImm, Op, Fence, Ecall, Ebreak}
use Rattle.rv_table.specs.Decoded.{decoded}
use Rattle.rv_core.specs.declared.registers.Plan.{Plan}
use Rattle.rv_core.specs.declared.registers.Plan.TheVariants.{Set, Load, Store, Call as CallOf, Stop as StopOf}
use Rattle.rv_core.specs.declared.registers.Regs.{Regs}
use Rattle.rv_core.specs.Effect.{effect, jump, size_of, extended, with_register, plus, is_taken, register as register_of}
use Rattle.sls_kernel.specs.Plain.{State as ProgramState, World as ProgramWorld, Outcome, GoesOn, Stops, covers as is_in_page, number_at, stored_at, register, set_register, next_pc as program_next, accepted_count, carried_out as program_carried_out, obeyed as program_obeyed, instruction as program_instruction}
use Rattle.plain_state.specs.declared.effect.Goes.TheVariants.{On}
use Rattle.plain_state.specs.declared.effect.Place.{Place}
use Rattle.plain_model.specs.Memory.{is_covered, places_of}
use Rattle.plain_model.specs.Effects.{Effect, goes_on, stops, next_pc}
use Rattle.plain_model.specs.Instructions.{instruction, obeyed, carried_out, with_fetch, fetched, value_at, load_effect, store_effect}
use Rattle.plain_join.specs.Joined.{IsKnownCall, MakesKnownCall, thread_object}
use Rattle.plain_join.proofs.Canon.{code_state}
use Rattle.plain_join.proofs.Buffers.{code_regions, covered, number_read, bytes_stored}
use Rattle.plain_join.proofs.Effects.{thread_of, Makes, Gives, sets_registers, fetched_gives}
use Rattle.plain_join.proofs.Worlds.{code_world}
use Rattle.plain_join.proofs.Calls.{stopped_gives, call_gives}

-- where both can or both cannot
either_gives : (s : ProgramState) (b c : Bool) (o p : Outcome) (e f : Effect) → c ≡ b → (b ≡ true → Gives s o e) → Gives s p f
    → Gives s (if b then o else p) (if c then e else f)
either_gives s true true o p e f same h k = h refl
either_gives s true false o p e f same h k = absurd (cc)
either_gives s false true o p e f same h k = absurd (cc)
either_gives s false false o p e f same h k = k

-- An ECALL alone makes a call.

jump_calls : (rd value target : ℕ) (b : Bool) → (target % INSTRUCTION_BYTES == 0) ≡ b → jump rd value target ≡ CallOf → ⊥
jump_calls rd value target true e call = (let set : Set rd value target ≡ CallOf = rw e at call in cc)
jump_calls rd value target false e call = (let stop : StopOf 2 ≡ CallOf = rw e at call in cc)

branch_calls : (rd value target pc : ℕ) (b : Bool) → (if b then jump rd value target else Set 0 0 pc) ≡ CallOf → ⊥
branch_calls rd value target pc true call = jump_calls rd value target (target % INSTRUCTION_BYTES == 0) refl call
branch_calls rd value target pc false call = cc

access_calls : (plan : Plan) (b : Bool) → (plan ≡ CallOf → ⊥) → (if b then plan else StopOf 3) ≡ CallOf → ⊥
access_calls plan true other call = other call
access_calls plan false other call = cc

only_ecall : (i : Instr) (regs : Regs) → effect i regs ≡ CallOf → i ≡ Ecall
only_ecall (Lui rd imm) regs e = absurd (cc)
only_ecall (Auipc rd imm) regs e = absurd (cc)
only_ecall (Jal rd imm) regs e = absurd (jump_calls rd (plus regs.pc 4) (plus regs.pc imm) (plus regs.pc imm % 4 == 0) refl e)
only_ecall (Jalr rd rs1 imm) regs e =
    let target = plus (register_of regs rs1) imm / 2 * 2 in
    absurd (jump_calls rd (plus regs.pc 4) target (target % 4 == 0) refl e)
only_ecall (Branch op rs1 rs2 imm) regs e =
    absurd (branch_calls 0 0 (plus regs.pc imm) (plus regs.pc 4) (is_taken op (register_of regs rs1) (register_of regs rs2)) e)
only_ecall (LoadRow op rd rs1 imm) regs e =
    let at = plus (register_of regs rs1) imm in
    absurd (access_calls (Load op rd at) (at % size_of op == 0) (λ (call : Load op rd at ≡ CallOf). cc) e)
only_ecall (StoreRow op rs1 rs2 imm) regs e =
    let at = plus (register_of regs rs1) imm in
    absurd (access_calls (Store op at (register_of regs rs2)) (at % size_of op == 0) (λ (call : Store op at (register_of regs rs2) ≡ CallOf). cc) e)
only_ecall (OpImm op alt rd rs1 imm) regs e = absurd (cc)
only_ecall (Op op alt rd rs1 rs2) regs e = absurd (cc)
only_ecall Fence regs e = absurd (cc)
only_ecall Ecall regs e = refl
only_ecall Ebreak regs e = absurd (cc)

module _ (v : ProgramWorld) (stored changed : ℕ → Bool) where
  abbrev load_by : ℕ → ℕ → List Place → ℕ → Effect
  load_by op rd places value =
      let thread = thread_of v.now.thread in
      record (goes_on (record { pc = next_pc thread; x = with_register thread.x rd (extended op value) })) { loads = places }

  abbrev loaded : ℕ → ℕ → ℕ → ProgramState
  loaded op rd value = set_register v.now rd (extended op value) (program_next v.now)

  loaded_gives : (op rd value : ℕ) (places : List Place) → Makes v.now (loaded op rd value) On (load_by op rd places value)
  loaded_gives op rd value places = sets_registers v.now (loaded op rd value).thread On places

  load_gives : (op rd at : ℕ)
      → Gives v.now (program_carried_out (accepted_count v) v.now (Load op rd at)) (load_effect (code_state v.now) (thread_of v.now.thread) op rd at)
  load_gives op rd at =
      let places = places_of code_regions READ at (size_of op) in
      let number = number_at v.now.byte at (size_of op) in
      either_gives v.now (is_in_page at (size_of op)) (is_covered code_regions READ at (size_of op)) (GoesOn (loaded op rd number)) (Stops NO_ACCESS)
      (load_by op rd places (value_at (code_state v.now) places)) (stops (thread_of v.now.thread) NO_ACCESS)
      (covered READ at (size_of op) refl)
      (λ within.
      subst (λ (n : ℕ). Makes v.now (loaded op rd number) On (load_by op rd places n))
      (sym (number_read v.now.byte (thread_object v.now.thread) READ at (size_of op) refl within)) (loaded_gives op rd number places))
      (stopped_gives v.now NO_ACCESS)

  store_gives : (op at value : ℕ)
      → Gives v.now (program_carried_out (accepted_count v) v.now (Store op at value)) (store_effect (code_state v.now) (thread_of v.now.thread) op at value)
  store_gives op at value =
      let next : ProgramState =
      record { thread = (set_register v.now 0 0 (program_next v.now)).thread; byte = stored_at v.now.byte at (size_of op) value; out = v.now.out } in
      either_gives v.now (is_in_page at (size_of op)) (is_covered code_regions WRITE at (size_of op)) (GoesOn next) (Stops NO_ACCESS)
      _ (stops (thread_of v.now.thread) NO_ACCESS)
      (covered WRITE at (size_of op) refl)
      (λ within. record {
        goes_so = refl;
        regs = refl;
        objects = bytes_stored v.now.byte (thread_object v.now.thread) WRITE at (size_of op) value refl within;
        wakes = refl;
        out = fun_ext (λ channel. refl);
        takes = refl;
        wishes = refl;
      })
      (stopped_gives v.now NO_ACCESS)

  plan_gives : (plan : Plan) → (plan ≡ CallOf → IsKnownCall (register v.now 17))
      → Gives v.now (program_carried_out (accepted_count v) v.now plan) (carried_out (code_world v stored changed) 10 (thread_of v.now.thread) plan)
  plan_gives (Set rd value pc) known = sets_registers v.now (set_register v.now rd value pc).thread On []
  plan_gives (Load op rd at) known = load_gives op rd at
  plan_gives (Store op at value) known = store_gives op at value
  plan_gives CallOf known = call_gives v stored changed (known refl)
  plan_gives (StopOf cause) known = stopped_gives v.now cause

  obeyed_gives : (found : Option Instr) → (found ≡ Some Ecall → IsKnownCall (register v.now 17))
      → Gives v.now (program_obeyed (accepted_count v) v.now found) (obeyed (code_world v stored changed) 10 (thread_of v.now.thread) found)
  obeyed_gives None known = stopped_gives v.now ILLEGAL_WORD
  obeyed_gives (Some instr) known =
      plan_gives (effect instr v.now.thread.regs) (λ call. known (ap (λ (i : Instr). Some i) (only_ecall instr v.now.thread.regs call)))

  pub instruction_gives : MakesKnownCall v.now
      → Gives v.now (program_instruction (accepted_count v) v.now) (instruction (code_world v stored changed) 10 (thread_of v.now.thread))
  unfolding instruction
  instruction_gives known =
      let s = code_state v.now in
      let thread = thread_of v.now.thread in
      let pc = v.now.thread.regs.pc in
      let places = fetched s thread in
      let word = number_at v.now.byte pc INSTRUCTION_BYTES in
      let done = program_obeyed (accepted_count v) v.now (decoded word) in
      let found = obeyed (code_world v stored changed) 10 thread (decoded (value_at s places)) in
      either_gives v.now (is_in_page pc INSTRUCTION_BYTES) (is_covered code_regions EXECUTE pc INSTRUCTION_BYTES) done (Stops NO_ACCESS)
      (with_fetch places found) (stops thread NO_ACCESS) (covered EXECUTE pc INSTRUCTION_BYTES refl)
      (λ within.
      fetched_gives v.now done places found
      (subst (λ (n : ℕ). Gives v.now done (obeyed (code_world v stored changed) 10 thread (decoded n)))
      (sym (number_read v.now.byte (thread_object v.now.thread) EXECUTE pc INSTRUCTION_BYTES refl within))
      (obeyed_gives (decoded word) (known within))))
      (stopped_gives v.now NO_ACCESS)
