-- What every plan keeps.
use Rattle.std.proofs.Common.{◌≡◌, ℕ, ◌/◌, ◌%◌, ◌^◌, ◌<◌, ◌==◌, Bool, pos, negsuc, ℤ, List, [], ◌∷◌, inl, inr, refl, arith}
use Rattle.std.proofs.lemmas.Int.{ints}
use Rattle.std.proofs.lemmas.Bool.{cond_both, eqb-true}
use Rattle.std.proofs.lemmas.Nat.{xor_lt, or_lt, and_le_l}
use Rattle.std.proofs.Math.Nat.{div-le_self}
use Rattle.std.specs.Int.{w32, cast_signed, cast_unsigned, int_shr}
use Rattle.rv_table.specs.declared.Instr.{Instr}
use Rattle.rv_table.specs.declared.Instr.TheVariants.{Lui, Auipc, Jal, Jalr, Branch, Load, Store, OpImm, Op, Fence, Ecall, Ebreak}
use Rattle.rv_table.specs.Table.{IsInstr}
use Rattle.rv_table.specs.Decoded.{entry_of}
use Rattle.rv_core.specs.declared.registers.Regs.{Regs}
use Rattle.rv_core.specs.Effect.{effect, register, plus, shifted_right_signed, flag, results, second_results, result_of, is_taken, size_of, jump}
use Rattle.rv_core.specs.Ranges.{AreRegs, IsPlan}

below : (n d : ℕ) → n < 2 ^ 32 → n / d < 2 ^ 32
below n d low = omega (arith, div-le_self n d)

shr_fits : (z : ℤ) (k : ℕ) → ((n : ℕ) → z ≡ pos n → n < 2 ^ 32) → cast_unsigned w32 (int_shr z k) < 2 ^ 32
shr_fits (pos n) k low = let here = low n refl in below n (2 ^ k) here
shr_fits (negsuc n) k low = omega arith

shifted_fits : (a b : ℕ) → a < 2 ^ 32 → shifted_right_signed a b < 2 ^ 32
shifted_fits a b low = shr_fits (cast_signed w32 a) (b % 32) (λ n e. grind (arith, ints))

flag_fits : (b : Bool) → flag b < 2 ^ 32
flag_fits b = cond_both b 1 0 (λ n. n < 2 ^ 32) (λ _. omega arith) (λ _. omega arith)

abbrev EachFits : List (ℕ × ℕ) → Type 0
EachFits [] = Unit {0}
EachFits (row ∷ rows) = (row.1 < 2 ^ 32) × EachFits rows

entry_fits : (rows : List (ℕ × ℕ)) (key : ℕ) → EachFits rows → entry_of 0 rows key < 2 ^ 32
entry_fits [] key h = omega arith
entry_fits (row ∷ rows) key h = cond_both (key == row.0) _ _ (λ n. n < 2 ^ 32) (λ _. h.0) (λ _. entry_fits rows key h.1)

results_fit : (a b : ℕ) → a < 2 ^ 32 → b < 2 ^ 32 → EachFits (results a b)
results_fit a b a_fits b_fits =
    (omega arith, (omega arith, (flag_fits _, (flag_fits _, (xor_lt 32 a b a_fits b_fits, (below a _ a_fits, (or_lt 32 a b a_fits b_fits, (omega (arith, and_le_l a b), tt))))))))

second_results_fit : (a b : ℕ) → a < 2 ^ 32 → EachFits (second_results a b)
second_results_fit a b a_fits = (omega arith, (shifted_fits a b a_fits, tt))

result_fits : (op a b : ℕ) (alt : Bool) → a < 2 ^ 32 → b < 2 ^ 32 → result_of op alt a b < 2 ^ 32
result_fits op a b alt a_fits b_fits =
    cond_both alt _ _ (λ n. n < 2 ^ 32) (λ _. entry_fits (second_results a b) op (second_results_fit a b a_fits)) (λ _. entry_fits (results a b) op (results_fit a b a_fits b_fits))

register_fits : (regs : Regs) (i : ℕ) → AreRegs regs → register regs i < 2 ^ 32
register_fits regs i h = cond_both (i == 0) _ _ (λ n. n < 2 ^ 32) (λ _. omega arith) (λ _. h.each i)

jump_fits : (rd value target : ℕ) → rd < 32 → value < 2 ^ 32 → target < 2 ^ 32 → IsPlan (jump rd value target)
jump_fits rd value target rd_low value_low target_low =
    cond_both (target % 4 == 0) _ _ IsPlan (λ _. (rd_low, value_low, target_low)) (λ _. inl refl)

pub in_range : (i : Instr) (regs : Regs) → IsInstr i → AreRegs regs → IsPlan (effect i regs)
in_range (Lui rd imm) regs h fits = (h.0, h.1, omega arith)
in_range (Auipc rd imm) regs h fits = (h.0, omega arith, omega arith)
in_range (Jal rd imm) regs h fits = jump_fits rd _ _ h.0 (omega arith) (omega arith)
in_range (Jalr rd rs1 imm) regs h fits = jump_fits rd _ _ h.0 (omega arith) (omega arith)
in_range (Branch op rs1 rs2 imm) regs h fits =
    cond_both (is_taken op (register regs rs1) (register regs rs2)) _ _ IsPlan (λ _. jump_fits 0 0 _ (omega arith) (omega arith) (omega arith)) (λ _. (omega arith, omega arith, omega arith))
in_range (Load op rd rs1 imm) regs h fits =
    cond_both (plus (register regs rs1) imm % size_of op == 0) _ _ IsPlan (λ t. (h.0, h.1, omega arith, eqb-true _ 0 t)) (λ _. inr (inl refl))
in_range (Store op rs1 rs2 imm) regs h fits =
    cond_both (plus (register regs rs1) imm % size_of op == 0) _ _ IsPlan (λ t. (h.0, omega arith, eqb-true _ 0 t, register_fits regs rs2 fits)) (λ _. inr (inl refl))
in_range (OpImm op alt rd rs1 imm) regs h fits = (h.0, result_fits op _ imm alt (register_fits regs rs1 fits) (grind arith), omega arith)
in_range (Op op alt rd rs1 rs2) regs h fits = (h.1, result_fits op _ _ alt (register_fits regs rs1 fits) (register_fits regs rs2 fits), omega arith)
in_range Fence regs h fits = (omega arith, omega arith, omega arith)
in_range Ecall regs h fits = tt
in_range Ebreak regs h fits = inr (inr (inl refl))
