-- What the effect of an instruction keeps.
use Rattle.std.proofs.Common.{◌≡◌, ℕ, ◌*◌, ◌/◌, ◌%◌, ◌<◌, ◌==◌, true, false, [], ◌∷◌, arith, refl, inl, inr, ⊎_elim}
use Rattle.std.proofs.lemmas.Bool.{cases_Bool, eqb-true}
use Rattle.rv_table.specs.Table.{IsInstr, IsOneOf}
use Rattle.rv_table.specs.declared.Instr.{Instr}
use Rattle.rv_table.specs.declared.Instr.TheVariants.{Lui, Auipc, Jal, Jalr, Branch, Load as LoadRow, Store as StoreRow, OpImm, Op, Fence, Ecall, Ebreak}
use Rattle.rv_core.specs.declared.registers.Regs.{Regs}
use Rattle.rv_core.specs.Effect.{effect, jump, size_of, plus, register, is_taken}
use Rattle.sls_kernel.specs.Steps.{IsPlan, IsAligned, IsSize}

jump-IsPlan : (rd value target : ℕ) → rd < 32 → IsPlan (jump rd value target)
jump-IsPlan rd value target h =
    ⊎_elim (λ (yes : (target % 4 == 0) ≡ true). rw yes h) (λ (none : (target % 4 == 0) ≡ false). rw none (omega arith)) (cases_Bool (target % 4 == 0))

jump-IsAligned : (rd value target : ℕ) → IsAligned (jump rd value target)
jump-IsAligned rd value target =
    ⊎_elim (λ (yes : (target % 4 == 0) ≡ true). rw yes (eqb-true (target % 4) 0 yes)) (λ (none : (target % 4 == 0) ≡ false). rw none tt) (cases_Bool (target % 4 == 0))

load_size : (op : ℕ) → IsOneOf op (0 ∷ 1 ∷ 2 ∷ 4 ∷ 5 ∷ []) → IsSize (size_of op)
load_size op h =
    ⊎_elim (λ (e : op ≡ 0). rw e (inl refl))
    (λ (h : IsOneOf op (1 ∷ 2 ∷ 4 ∷ 5 ∷ [])). ⊎_elim (λ (e : op ≡ 1). rw e (inr (inl refl)))
    (λ (h : IsOneOf op (2 ∷ 4 ∷ 5 ∷ [])). ⊎_elim (λ (e : op ≡ 2). rw e (inr (inr refl)))
    (λ (h : IsOneOf op (4 ∷ 5 ∷ [])). ⊎_elim (λ (e : op ≡ 4). rw e (inl refl))
    (λ (h : IsOneOf op (5 ∷ [])). ⊎_elim (λ (e : op ≡ 5). rw e (inr (inl refl))) (λ (h : ⊥). absurd h) h) h) h) h) h

store_size : (op : ℕ) → IsOneOf op (0 ∷ 1 ∷ 2 ∷ []) → IsSize (size_of op)
store_size op h =
    ⊎_elim (λ (e : op ≡ 0). rw e (inl refl))
    (λ (h : IsOneOf op (1 ∷ 2 ∷ [])). ⊎_elim (λ (e : op ≡ 1). rw e (inr (inl refl)))
    (λ (h : IsOneOf op (2 ∷ [])). ⊎_elim (λ (e : op ≡ 2). rw e (inr (inr refl))) (λ (h : ⊥). absurd h) h) h) h

pub effect-IsPlan : (i : Instr) (regs : Regs) → IsInstr i → IsPlan (effect i regs)
effect-IsPlan (Lui rd imm) regs h = h.0
effect-IsPlan (Auipc rd imm) regs h = h.0
effect-IsPlan (Jal rd imm) regs h = jump-IsPlan rd (plus regs.pc 4) (plus regs.pc imm) h.0
effect-IsPlan (Jalr rd rs1 imm) regs h = jump-IsPlan rd (plus regs.pc 4) (plus (register regs rs1) imm / 2 * 2) h.0
effect-IsPlan (Branch op rs1 rs2 imm) regs h =
    ⊎_elim (λ (yes : is_taken op (register regs rs1) (register regs rs2) ≡ true). rw yes (jump-IsPlan 0 0 (plus regs.pc imm) (omega arith)))
    (λ (none : is_taken op (register regs rs1) (register regs rs2) ≡ false). rw none (omega arith))
    (cases_Bool (is_taken op (register regs rs1) (register regs rs2)))
effect-IsPlan (LoadRow op rd rs1 imm) regs h =
    ⊎_elim (λ (yes : (plus (register regs rs1) imm % size_of op == 0) ≡ true). rw yes (load_size op h.0, h.1, eqb-true (plus (register regs rs1) imm % size_of op) 0 yes))
    (λ (none : (plus (register regs rs1) imm % size_of op == 0) ≡ false). rw none (omega arith))
    (cases_Bool (plus (register regs rs1) imm % size_of op == 0))
effect-IsPlan (StoreRow op rs1 rs2 imm) regs h =
    ⊎_elim (λ (yes : (plus (register regs rs1) imm % size_of op == 0) ≡ true). rw yes (store_size op h.0, eqb-true (plus (register regs rs1) imm % size_of op) 0 yes))
    (λ (none : (plus (register regs rs1) imm % size_of op == 0) ≡ false). rw none (omega arith))
    (cases_Bool (plus (register regs rs1) imm % size_of op == 0))
effect-IsPlan (OpImm op alt rd rs1 imm) regs h = h.0
effect-IsPlan (Op op alt rd rs1 rs2) regs h = h.1
effect-IsPlan Fence regs h = omega arith
effect-IsPlan Ecall regs h = tt
effect-IsPlan Ebreak regs h = omega arith

pub effect-IsAligned : (i : Instr) (regs : Regs) → regs.pc % 4 ≡ 0 → IsAligned (effect i regs)
effect-IsAligned (Lui rd imm) regs h = omega arith
effect-IsAligned (Auipc rd imm) regs h = omega arith
effect-IsAligned (Jal rd imm) regs h = jump-IsAligned rd (plus regs.pc 4) (plus regs.pc imm)
effect-IsAligned (Jalr rd rs1 imm) regs h = jump-IsAligned rd (plus regs.pc 4) (plus (register regs rs1) imm / 2 * 2)
effect-IsAligned (Branch op rs1 rs2 imm) regs h =
    ⊎_elim (λ (yes : is_taken op (register regs rs1) (register regs rs2) ≡ true). rw yes (jump-IsAligned 0 0 (plus regs.pc imm)))
    (λ (none : is_taken op (register regs rs1) (register regs rs2) ≡ false). rw none (omega arith))
    (cases_Bool (is_taken op (register regs rs1) (register regs rs2)))
effect-IsAligned (LoadRow op rd rs1 imm) regs h =
    ⊎_elim (λ (yes : (plus (register regs rs1) imm % size_of op == 0) ≡ true). rw yes tt)
    (λ (none : (plus (register regs rs1) imm % size_of op == 0) ≡ false). rw none tt)
    (cases_Bool (plus (register regs rs1) imm % size_of op == 0))
effect-IsAligned (StoreRow op rs1 rs2 imm) regs h =
    ⊎_elim (λ (yes : (plus (register regs rs1) imm % size_of op == 0) ≡ true). rw yes tt)
    (λ (none : (plus (register regs rs1) imm % size_of op == 0) ≡ false). rw none tt)
    (cases_Bool (plus (register regs rs1) imm % size_of op == 0))
effect-IsAligned (OpImm op alt rd rs1 imm) regs h = omega arith
effect-IsAligned (Op op alt rd rs1 rs2) regs h = omega arith
effect-IsAligned Fence regs h = omega arith
effect-IsAligned Ecall regs h = tt
effect-IsAligned Ebreak regs h = tt
