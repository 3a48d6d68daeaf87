-- From what the code has after an instruction to the state after a tick.
use Rattle.std.proofs.Common.{◌≡◌, ℕ, ◌-◌, ◌%◌, ◌^◌, ◌<◌, ◌≤◌, ◌==◌, nat_lt, true, false, List, slice_index, Option, Some, None, Result, Ok, Err, arith, refl, ap, sym, ◌∙◌}
use Rattle.std.proofs.lemmas.Bool.{le-ltb, lt-ltb, ne_eqb}
use Rattle.rv_table.specs.declared.Instr.{Instr}
use Rattle.rv_table.specs.Decoded.{decoded}
use Rattle.rv_core.specs.Effect.{plus}
use Rattle.pmem_model.specs.Words.{Word}
use Rattle.sls_kernel.specs.Plain.{State, Outcome, GoesOn, Stops, with_status, sliced, instruction, obeyed, covers, number_at, set_register, next_pc, refusal_number, call, register}
use Rattle.sls_kernel.specs.Words.{RunsAs, IsStatus, IsPage, running_words}
use Rattle.sls_kernel.specs.Steps.{Became, HasPut, with_put}
use Rattle.sls_kernel.specs.declared.thread.RunThread.{RunThread}
use Rattle.sls_kernel.specs.declared.thread.Status.{Status}
use Rattle.sls_kernel.specs.declared.thread.Status.TheVariants.{Ready, Running, Stopped}
use Rattle.sls_kernel.specs.declared.calls.Refusal.{Refusal}
use Rattle.sls_kernel.specs.declared.calls.Refusal.TheVariants.{BadCall, NoCap, WrongKind, BadAddress, BadSize, Full}
use Rattle.sls_kernel.proofs.States.{with_set, RunsAs-set}

RunsAs-status : (t : RunThread) (p : List ℕ) (f : ℕ → Word) (count : ℕ → ℕ) (s : State) (status : Status) → IsStatus status → RunsAs t p f count s → RunsAs (record { status = status; regs = t.regs }) p f count (with_status s status)
RunsAs-status t p f count s status is runs = record {
  thread_is = ap (λ (u : RunThread). let v : RunThread = record { status = status; regs = u.regs } in v) runs.thread_is;
  put_is = runs.put_is;
  holds = record {
    page = runs.holds.page;
    rings = runs.holds.rings;
    thread = record {
      registers = runs.holds.thread.registers;
      zero_register = runs.holds.thread.zero_register;
      in_range = runs.holds.thread.in_range;
      pc = runs.holds.thread.pc;
      aligned = runs.holds.thread.aligned;
      status = is;
    };
  };
}

module _ (t : RunThread) (p : List ℕ) (f : ℕ → Word) (count : ℕ → ℕ) (s : State) (slice : ℕ) where
  pub sliced-stopped : (cause : ℕ) (o : Outcome) → Became (Some cause) t p f count s o → RunsAs (record { status = Stopped cause; regs = t.regs }) p f count (sliced s slice o)
  sliced-stopped cause (GoesOn next) h = let e : Some cause ≡ None = h.0 in cc
  sliced-stopped cause (Stops c) h =
      let all : Some cause ≡ Some c = h.0 in
      let e : cause ≡ c = cc in
      rw e (RunsAs-status t p f count s (Stopped c) (omega (arith, h.1)) h.2)

  pub sliced-more : (o : Outcome) → 1 < slice → slice ≤ 16 → Became None t p f count s o → RunsAs (record { status = Running (slice - 1); regs = t.regs }) p f count (sliced s slice o)
  sliced-more (GoesOn next) more most h =
      let test : nat_lt 1 slice ≡ true = lt-ltb 1 slice more in
      rw test (RunsAs-status t p f count next (Running (slice - 1)) (omega arith, omega arith) h.1)
  sliced-more (Stops c) more most h = let e : None ≡ Some c = h.0 in cc

  pub sliced-last : (o : Outcome) → slice ≤ 1 → Became None t p f count s o → RunsAs (record { status = Ready; regs = t.regs }) p f count (sliced s slice o)
  sliced-last (GoesOn next) last h =
      let test : nat_lt 1 slice ≡ false = le-ltb 1 slice last in
      rw test (RunsAs-status t p f count next Ready tt h.1)
  sliced-last (Stops c) last h = let e : None ≡ Some c = h.0 in cc

-- the instruction at pc, from its word
pub instruction-is : (t : RunThread) (p : List ℕ) (f : ℕ → Word) (count : ℕ → ℕ) (s : State) (word : ℕ) (found : Option Instr) → RunsAs t p f count s → covers t.regs.pc 4 ≡ true → ((byte : ℕ → ℕ) → IsPage (running_words f 4) byte → t.regs.pc % 4 ≡ 0 → word ≡ number_at byte t.regs.pc 4) → found ≡ decoded word → instruction count s ≡ obeyed count s found
instruction-is t p f count s word found runs covered read of =
    let pc : t.regs.pc ≡ s.thread.regs.pc = ap (λ (u : RunThread). u.regs.pc) runs.thread_is in
    let covered' : covers s.thread.regs.pc 4 ≡ true = ap (λ (n : ℕ). covers n 4) (sym pc) ∙ covered in
    let is : word ≡ number_at s.byte s.thread.regs.pc 4 =
    read s.byte runs.holds.page (ap (λ (n : ℕ). n % 4) pc ∙ runs.holds.thread.aligned) ∙ ap (λ (n : ℕ). number_at s.byte n 4) pc in
    rw covered' (ap (obeyed count s) (ap decoded (sym is) ∙ sym of))

refusal_number-fits : (r : Refusal) → refusal_number r < 2 ^ 32
refusal_number-fits BadCall = omega arith
refusal_number-fits NoCap = omega arith
refusal_number-fits WrongKind = omega arith
refusal_number-fits BadAddress = omega arith
refusal_number-fits BadSize = omega arith
refusal_number-fits Full = omega arith

-- what a call gives: 0 after a put, or the number of its refusal
abbrev pub answer_of : Result (Unit {0}) Refusal → ℕ
answer_of (Ok done) = 0
answer_of (Err refusal) = refusal_number refusal

module _ (t t' : RunThread) (p : List ℕ) (f : ℕ → Word) (count : ℕ → ℕ) (answer : ℕ) (is : t' ≡ with_set t 10 answer (plus t.regs.pc 4)) where
  RunsAs-answered : (s : State) (value : ℕ) → RunsAs t p f count s → answer ≡ value → value < 2 ^ 32 → RunsAs t' p f count (set_register s 10 value (next_pc s))
  RunsAs-answered s value runs of fits =
      let pc : t.regs.pc ≡ s.thread.regs.pc = ap (λ (u : RunThread). u.regs.pc) runs.thread_is in
      let aligned = runs.holds.thread.aligned in
      let same : t' ≡ with_set t 10 value (plus s.thread.regs.pc 4) = is ∙ ap (λ (n : ℕ). with_set t 10 n (plus t.regs.pc 4)) of ∙ ap (λ (n : ℕ). with_set t 10 value (plus n 4)) pc in
      rw same (RunsAs-set t p f count s 10 value (plus s.thread.regs.pc 4) runs fits (omega arith) (omega arith))

  pub called-put : (s : State) (r : Result (Unit {0}) Refusal) → HasPut r t p f count s → answer ≡ answer_of r → slice_index t.regs.x 17 ≡ 2 → t ≡ s.thread → Became None t' p f count s (call count s)
  called-put s (Ok done) has of two same =
      let named : register s 17 ≡ 2 = ap (λ (u : RunThread). slice_index u.regs.x 17) (sym same) ∙ two in
      rw (named, has.0) (refl, RunsAs-answered (with_put s) 0 has.1 of (omega arith))
  called-put s (Err refusal) has of two same =
      let named : register s 17 ≡ 2 = ap (λ (u : RunThread). slice_index u.regs.x 17) (sym same) ∙ two in
      rw (named, has.0) (refl, RunsAs-answered s (refusal_number refusal) has.1 of (refusal_number-fits refusal))

  pub called-other : (s : State) → RunsAs t p f count s → answer ≡ refusal_number BadCall → (slice_index t.regs.x 17 ≡ 1 → ⊥) → (slice_index t.regs.x 17 ≡ 2 → ⊥) → Became None t' p f count s (call count s)
  called-other s runs of not_1 not_2 =
      let same : register s 17 ≡ slice_index t.regs.x 17 = ap (λ (u : RunThread). slice_index u.regs.x 17) (sym runs.thread_is) in
      let first : (register s 17 == 1) ≡ false = ne_eqb (register s 17) 1 (λ e. not_1 (sym same ∙ e)) in
      let second : (register s 17 == 2) ≡ false = ne_eqb (register s 17) 2 (λ e. not_2 (sym same ∙ e)) in
      rw (first, second) (refl, RunsAs-answered s (refusal_number BadCall) runs of (omega arith))
