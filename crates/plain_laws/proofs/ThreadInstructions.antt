-- Threads in range: each instruction keeps them so, by what is known of the instruction table.
use Rattle.std.specs.Prelude.{◌≡◌, ℕ, ◌%◌, ◌≤◌, true, [], Some}
use Rattle.std.proofs.Common.{subst, arith, inl, inr}
use Rattle.rv_table.specs.declared.Instr.{Instr}
use Rattle.rv_table.specs.Decoded.{decoded}
use Rattle.rv_table.specs.Table.{IsInstr}
use Rattle.rv_core.specs.declared.registers.Plan.{Plan}
use Rattle.rv_core.specs.declared.registers.Plan.TheVariants.{Set, Load, Stop}
use Rattle.rv_core.specs.declared.registers.Regs.{Regs}
use Rattle.rv_core.specs.Effect.{effect, size_of, extended, with_register}
use Rattle.rv_core.specs.Ranges.{AreRegs, IsPlan, GoesAligned}
use Rattle.sls_base.specs.declared.causes.TheConstants.{LOST_OBJECT, ILLEGAL_WORD, NO_ACCESS}
use Rattle.sls_base.specs.declared.rights.TheConstants.{READ}
use Rattle.sls_base.specs.declared.thread.Thread.{Thread as ThreadRecord}
use Rattle.plain_state.specs.declared.calls.Refusal.{Refusal}
use Rattle.plain_state.specs.declared.calls.Refusal.TheVariants.{BadCall}
use Rattle.plain_model.specs.States.{State}
use Rattle.plain_model.specs.Memory.{places_of, is_covered}
use Rattle.plain_model.specs.Worlds.{World}
use Rattle.plain_model.specs.Effects.{goes_on, stops, regs_of}
use Rattle.plain_model.specs.Refusals.{refusal_number}
use Rattle.plain_model.specs.Instructions.{instruction, seen_by, value_at}
use Rattle.plain_laws.specs.Sound.{HaveForms}
use Rattle.plain_laws.specs.Bounds.{HasEntries, HasPages}
use Rattle.plain_laws.proofs.PageBytes.{covered_places}
use Rattle.plain_laws.proofs.ThreadCalls.{AllInForm, fits_answer, calls_fit}
use Rattle.plain_laws.proofs.ThreadEffects.{Fits}
use Rattle.plain_laws.proofs.ThreadRegisters.{IsWord, AreInForm, are_regs, next_in_form, write_register, loaded_word}
use Rattle.plain_laws.proofs.Walk.{Does, loaded, holds_of_instruction}

-- What the crates of the instruction table say: a word that has a row gives an instruction in form, and the effect of such an
-- instruction is in range where the registers are.
pub record KnowsTable : Type 0 where
  pub form : (word : ℕ) (i : Instr) → decoded word ≡ Some i → IsInstr i
  pub in_range : (i : Instr) (regs : Regs) → IsInstr i → AreRegs regs → IsPlan (effect i regs)
  pub aligned : (i : Instr) (regs : Regs) → regs.pc % 4 ≡ 0 → GoesAligned (effect i regs)

-- the effect of a thread's instruction
pub record IsDone (plan : Plan) : Type 0 where
  pub in_range : IsPlan plan
  pub aligned : GoesAligned plan

done : KnowsTable → (w : World) (thread : ThreadRecord) (plan : Plan) → AreInForm (regs_of thread) → Does w thread plan → IsDone plan
done table w thread plan h does = subst IsDone does.row (record {
  in_range = table.in_range does.instr (regs_of thread) (table.form _ does.instr does.word) (are_regs (regs_of thread) h);
  aligned = table.aligned does.instr (regs_of thread) h.aligned;
})

stops_fit : (s : State) (thread : ThreadRecord) (cause : ℕ) → AreInForm (regs_of thread) → cause ≤ LOST_OBJECT → Fits s (stops thread cause)
stops_fit s thread cause h l = record { regs = h; goes = l; changes = tt }

sets_fit : (s : State) (thread : ThreadRecord) (rd value pc : ℕ) → AreInForm (regs_of thread) → IsDone (Set rd value pc) → Fits s (goes_on (record { pc = pc; x = with_register thread.x rd value }))
sets_fit s thread rd value pc h plan = record {
  regs = record { pc = plan.in_range.2; aligned = plan.aligned; registers = write_register thread.x rd value plan.in_range.1 h.registers };
  goes = tt;
  changes = tt;
}

loads_fit : (w : World) (thread : ThreadRecord) (op rd at : ℕ) → AreInForm (regs_of thread) → HasPages w.now → IsDone (Load op rd at)
    → is_covered (seen_by w.now thread) READ at (size_of op) ≡ true → Fits w.now (loaded w thread op rd at)
loads_fit w thread op rd at h pages plan covered =
    let places = places_of (seen_by w.now thread) READ at (size_of op) in
    let value = loaded_word w.now op places pages plan.in_range.0 (covered_places (seen_by w.now thread) READ at (size_of op) covered) in
    record {
      regs = next_in_form thread (with_register thread.x rd (extended op (value_at w.now places))) h.aligned (write_register thread.x rd (extended op (value_at w.now places)) value h.registers);
      goes = tt;
      changes = tt;
    }

cause_there : (cause : ℕ) → IsPlan (Stop cause) → cause ≤ LOST_OBJECT
cause_there cause (inl e) = omega arith
cause_there cause (inr (inl e)) = omega arith
cause_there cause (inr (inr (inl e))) = omega arith
cause_there cause (inr (inr (inr h))) = absurd h

refusal_word : (refusal : Refusal) → IsWord (refusal_number refusal)
refusal_word BadCall = omega arith
refusal_word refusal = omega arith

pub instruction_fits : KnowsTable → (w : World) (id : ℕ) (thread : ThreadRecord) → AllInForm w.now → AreInForm (regs_of thread) → HaveForms w.now → HasPages w.now → HasEntries w.now
    → Fits w.now (instruction w id thread)
instruction_fits table w id thread all h forms pages entries = holds_of_instruction (Fits w.now) w id thread (record {
  unfetched = stops_fit w.now thread NO_ACCESS h (omega arith);
  fetches = λ e covered fits. fits;
  illegal = stops_fit w.now thread ILLEGAL_WORD h (omega arith);
  sets = λ rd value pc does. sets_fit w.now thread rd value pc h (done table w thread (Set rd value pc) h does);
  loads = λ op rd at does covered. loads_fit w thread op rd at h pages (done table w thread (Load op rd at) h does) covered;
  stores = λ op at value does covered. record { regs = next_in_form thread thread.x h.aligned h.registers; goes = tt; changes = tt };
  stops_there = λ cause does. stops_fit w.now thread cause h (cause_there cause (done table w thread (Stop cause) h does).in_range);
  refuses = λ refusal. fits_answer w.now thread (refusal_number refusal) [] h (refusal_word refusal) tt;
  calls = λ call e none. calls_fit w id thread call all h forms entries none;
})
