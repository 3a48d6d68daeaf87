-- What an instruction does with the registers before it.
use Rattle.std.specs.Prelude.{ℕ, ◌+◌, ◌-◌, ◌*◌, ◌/◌, ◌%◌, ◌^◌, ◌==◌, nat_lt, not, Bool, false, if◌then◌else◌, List, [], ◌∷◌, slice_index, slice_set, bit_and, bit_or, bit_xor}
use Rattle.std.specs.Int.{w32, cast_signed, cast_unsigned, int_shr}
use Rattle.std.specs.Int.RustNames.{int_lt}
use Rattle.sls_base.specs.declared.causes.TheConstants.{BAD_TARGET, BREAKPOINT, MISALIGNED}
use Rattle.sls_base.specs.declared.limits.TheConstants.{INSTRUCTION_BYTES}
use Rattle.rv_table.specs.declared.funct3.TheConstants.{BEQ, BNE, BLT, BGE, BLTU, BGEU, LB, LH, LBU, LHU}
use Rattle.rv_table.specs.declared.funct3.TheConstants.{ADD, SUB, SLL, SLT, SLTU, XOR, SRL, SRA, OR, AND}
use Rattle.rv_table.specs.Decoded.{entry_of}
use Rattle.rv_table.specs.Word.{sign_extended}
use Rattle.rv_table.specs.declared.Instr.{Instr}
use Rattle.rv_table.specs.declared.Instr.TheVariants.{Lui, Auipc, Jal, Jalr, Branch, Load as LoadRow, Store as StoreRow, OpImm, Op, Fence, Ecall, Ebreak}
use Rattle.rv_core.specs.declared.registers.Plan.{Plan}
use Rattle.rv_core.specs.declared.registers.Plan.TheVariants.{Set, Load, Store, Call, Stop}
use Rattle.rv_core.specs.declared.registers.Regs.{Regs}

-- a sum modulo 2^32
abbrev pub plus : ℕ → ℕ → ℕ
plus a b = (a + b) % 2 ^ 32

-- a difference modulo 2^32
abbrev pub minus : ℕ → ℕ → ℕ
minus a b = (a + (2 ^ 32 - b)) % 2 ^ 32

-- whether a word is below another, both as signed numbers
abbrev pub signed_less : ℕ → ℕ → Bool
signed_less a b = int_lt (cast_signed w32 a) (cast_signed w32 b)

-- a word shifted to the right by the low five bits of another, with copies of its highest bit from above
abbrev pub shifted_right_signed : ℕ → ℕ → ℕ
shifted_right_signed a b = cast_unsigned w32 (int_shr (cast_signed w32 a) (b % 32))

-- 1 for a comparison that holds
abbrev pub flag : Bool → ℕ
flag b = if b then 1 else 0

-- what each operation gives of two words
abbrev pub results : ℕ → ℕ → List (ℕ × ℕ)
results a b =
    (ADD, plus a b)
    ∷ (SLL, a * 2 ^ (b % 32) % 2 ^ 32)
    ∷ (SLT, flag (signed_less a b))
    ∷ (SLTU, flag (nat_lt a b))
    ∷ (XOR, bit_xor a b)
    ∷ (SRL, a / 2 ^ (b % 32))
    ∷ (OR, bit_or a b)
    ∷ (AND, bit_and a b)
    ∷ []

-- the same of the second forms
abbrev pub second_results : ℕ → ℕ → List (ℕ × ℕ)
second_results a b = (SUB, minus a b) ∷ (SRA, shifted_right_signed a b) ∷ []

-- the result of an operation, which `alt` says is a second form
abbrev pub result_of : ℕ → Bool → ℕ → ℕ → ℕ
result_of op alt a b = if alt then entry_of 0 (second_results a b) op else entry_of 0 (results a b) op

-- the conditions of the branches
abbrev pub conditions : ℕ → ℕ → List (ℕ × Bool)
conditions a b =
    (BEQ, a == b)
    ∷ (BNE, not (a == b))
    ∷ (BLT, signed_less a b)
    ∷ (BGE, not (signed_less a b))
    ∷ (BLTU, nat_lt a b)
    ∷ (BGEU, not (nat_lt a b))
    ∷ []

-- whether a branch is taken
abbrev pub is_taken : ℕ → ℕ → ℕ → Bool
is_taken op a b = entry_of false (conditions a b) op

-- the bytes of a load or store
abbrev pub size_of : ℕ → ℕ
size_of op = 2 ^ (op % 4)

-- what the loads of less than a word give of the bytes that they read
abbrev pub extensions : ℕ → List (ℕ × ℕ)
extensions raw =
    (LB, sign_extended 8 (raw % 2 ^ 8))
    ∷ (LH, sign_extended 16 (raw % 2 ^ 16))
    ∷ (LBU, raw % 2 ^ 8)
    ∷ (LHU, raw % 2 ^ 16)
    ∷ []

-- what a load gives of the bytes that it read; LW gives them as they are
abbrev pub extended : ℕ → ℕ → ℕ
extended op raw = entry_of raw (extensions raw) op

-- the value of a register; register 0 reads 0
abbrev pub register : Regs → ℕ → ℕ
register regs i = if i == 0 then 0 else slice_index regs.x i

-- the registers after a write, which is lost at register 0
abbrev pub with_register : List ℕ → ℕ → ℕ → List ℕ
with_register x index value = if index == 0 then x else slice_set x index value

-- the next instruction
abbrev pub next : Regs → ℕ
next regs = plus regs.pc INSTRUCTION_BYTES

-- a jump: one to where no instruction begins stops and writes no register
abbrev pub jump : ℕ → ℕ → ℕ → Plan
jump rd value target = if target % INSTRUCTION_BYTES == 0 then Set rd value target else Stop BAD_TARGET

-- what each instruction does with these registers; an access at no multiple of its size stops
abbrev pub effect : Instr → Regs → Plan
effect (Lui rd imm) regs = Set rd imm (next regs)
effect (Auipc rd imm) regs = Set rd (plus regs.pc imm) (next regs)
effect (Jal rd imm) regs = jump rd (next regs) (plus regs.pc imm)
effect (Jalr rd rs1 imm) regs = jump rd (next regs) (plus (register regs rs1) imm / 2 * 2)
effect (Branch op rs1 rs2 imm) regs =
    if is_taken op (register regs rs1) (register regs rs2) then jump 0 0 (plus regs.pc imm) else Set 0 0 (next regs)
effect (LoadRow op rd rs1 imm) regs =
    let at = plus (register regs rs1) imm in
    if at % size_of op == 0 then Load op rd at else Stop MISALIGNED
effect (StoreRow op rs1 rs2 imm) regs =
    let at = plus (register regs rs1) imm in
    if at % size_of op == 0 then Store op at (register regs rs2) else Stop MISALIGNED
effect (OpImm op alt rd rs1 imm) regs = Set rd (result_of op alt (register regs rs1) imm) (next regs)
effect (Op op alt rd rs1 rs2) regs = Set rd (result_of op alt (register regs rs1) (register regs rs2)) (next regs)
effect Fence regs = Set 0 0 (next regs)
effect Ecall regs = Call
effect Ebreak regs = Stop BREAKPOINT
