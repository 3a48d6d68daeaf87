-- What keeps the words that stand for a state.
use Rattle.std.proofs.Common.{◌≡◌, ℕ, ◌%◌, ◌^◌, ◌<◌, ◌==◌, true, false, List, arith, ap, ◌∙◌, ⊎_elim}
use Rattle.std.proofs.lemmas.Bool.{cases_Bool}
use Rattle.std.proofs.lemmas.Bool.Decides.{nat_tests}
use Rattle.std.proofs.lemmas.List.{get_or-set_other, length-set}
use Rattle.pmem_model.specs.Words.{Word}
use Rattle.sls_kernel.specs.Plain.{State, with_register, set_register}
use Rattle.sls_kernel.specs.Words.{RunsAs, IsThread}
use Rattle.sls_kernel.proofs.Bytes.{set_below}
use Rattle.sls_kernel.specs.declared.thread.RunThread.{RunThread}

-- the thread with a register set and another pc
abbrev pub with_set : RunThread → ℕ → ℕ → ℕ → RunThread
with_set t rd value pc = record { status = t.status; regs = record { pc = pc; x = with_register t.regs.x rd value } }

pub IsThread-set : (t : RunThread) (rd value pc : ℕ) → IsThread t → value < 2 ^ 32 → pc < 2 ^ 32 → pc % 4 ≡ 0 → IsThread (with_set t rd value pc)
IsThread-set t rd value pc is fits range aligned =
    ⊎_elim
    (λ (first : (rd == 0) ≡ true). rw first (record {
      registers = is.registers;
      zero_register = is.zero_register;
      in_range = is.in_range;
      pc = range;
      aligned = aligned;
      status = is.status;
    }))
    (λ (later : (rd == 0) ≡ false). rw later (record {
      registers = length-set t.regs.x rd value ∙ is.registers;
      zero_register = get_or-set_other t.regs.x rd 0 value 0 (λ (e : 0 ≡ rd). absurd (grind (arith, nat_tests))) ∙ is.zero_register;
      in_range = λ i. set_below t.regs.x rd value (2 ^ 32) i fits (is.in_range i);
      pc = range;
      aligned = aligned;
      status = is.status;
    }))
    (cases_Bool (rd == 0))

pub RunsAs-set : (t : RunThread) (put : List ℕ) (f : ℕ → Word) (count : ℕ → ℕ) (s : State) (rd value pc : ℕ) → RunsAs t put f count s → value < 2 ^ 32 → pc < 2 ^ 32 → pc % 4 ≡ 0 → RunsAs (with_set t rd value pc) put f count (set_register s rd value pc)
RunsAs-set t put f count s rd value pc runs fits range aligned = record {
  thread_is = ap (λ (u : RunThread). with_set u rd value pc) runs.thread_is;
  put_is = runs.put_is;
  holds = record {
    page = runs.holds.page;
    rings = runs.holds.rings;
    thread = IsThread-set s.thread rd value pc runs.holds.thread fits range aligned;
  };
}
