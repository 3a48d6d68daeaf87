-- The table: which instruction a word is.
use Rattle.std.specs.Prelude.{◌≡◌, ℕ, ◌%◌, ◌^◌, ◌-◌, ◌<◌, ◌≤◌, ◌⊎◌, Bool, true, false, List, [], ◌∷◌}
use Rattle.sls_base.specs.declared.limits.TheConstants.{REGISTERS}
use Rattle.rv_table.specs.declared.opcodes.TheConstants.{LUI, AUIPC, JAL, JALR, BRANCH, LOAD, STORE, OP_IMM, OP, MISC_MEM, BASE, ALT, ECALL_WORD, EBREAK_WORD}
use Rattle.rv_table.specs.declared.funct3.TheConstants.{BEQ, BNE, BLT, BGE, BLTU, BGEU, LB, LH, LW, LBU, LHU, SB, SH, SW}
use Rattle.rv_table.specs.declared.funct3.TheConstants.{ADD, SUB, SLL, SLT, SLTU, XOR, SRL, SRA, OR, AND, JALR_FUNCT3, FENCE_FUNCT3}
use Rattle.rv_table.specs.declared.Instr.{Instr}
use Rattle.rv_table.specs.declared.Instr.TheVariants.{Lui, Auipc, Jal, Jalr, Branch, Load, Store, OpImm, Op, Fence, Ecall, Ebreak}
use Rattle.rv_table.specs.Word.{opcode, rd, funct3, rs1, rs2, funct7, immediate_i, immediate_s, immediate_b, immediate_u, immediate_j}

-- n is one of the numbers
abbrev pub IsOneOf : ℕ → List ℕ → Type 0
IsOneOf n [] = ⊥
IsOneOf n (x ∷ xs) = (n ≡ x) ⊎ IsOneOf n xs

abbrev pub branch_ops : List ℕ
branch_ops = BEQ ∷ BNE ∷ BLT ∷ BGE ∷ BLTU ∷ BGEU ∷ []

abbrev pub load_ops : List ℕ
load_ops = LB ∷ LH ∷ LW ∷ LBU ∷ LHU ∷ []

abbrev pub store_ops : List ℕ
store_ops = SB ∷ SH ∷ SW ∷ []

-- the operations whose immediate is a number: ADDI, SLTI, SLTIU, XORI, ORI and ANDI
abbrev pub plain_ops : List ℕ
plain_ops = ADD ∷ SLT ∷ SLTU ∷ XOR ∷ OR ∷ AND ∷ []

-- those whose immediate is the amount of a shift: SLLI and SRLI
abbrev pub shift_ops : List ℕ
shift_ops = SLL ∷ SRL ∷ []

-- the second forms: SUB beside ADD, SRA beside SRL
abbrev pub alt_ops : List ℕ
alt_ops = SUB ∷ SRA ∷ []

-- The word has this operation with an immediate.
abbrev pub IsImmediateRow : ℕ → ℕ → Bool → ℕ → Type 0
IsImmediateRow w op alt imm =
    IsOneOf op plain_ops × (alt ≡ false) × (imm ≡ immediate_i w)
    ⊎ (IsOneOf op shift_ops × (alt ≡ false) × (funct7 w ≡ BASE) × (imm ≡ rs2 w)
    ⊎ (op ≡ SRA) × (alt ≡ true) × (funct7 w ≡ ALT) × (imm ≡ rs2 w))

-- The word has this operation on two registers.
abbrev pub IsRegisterRow : ℕ → ℕ → Bool → Type 0
IsRegisterRow w op alt = (alt ≡ false) × (funct7 w ≡ BASE) ⊎ (alt ≡ true) × (funct7 w ≡ ALT) × IsOneOf op alt_ops

-- The word is in the row of this instruction, with these fields.
abbrev pub IsRow : ℕ → Instr → Type 0
IsRow w (Lui d imm) = (opcode w ≡ LUI) × (d ≡ rd w) × (imm ≡ immediate_u w)
IsRow w (Auipc d imm) = (opcode w ≡ AUIPC) × (d ≡ rd w) × (imm ≡ immediate_u w)
IsRow w (Jal d imm) = (opcode w ≡ JAL) × (d ≡ rd w) × (imm ≡ immediate_j w)
IsRow w (Jalr d a imm) =
    (opcode w ≡ JALR) × (funct3 w ≡ JALR_FUNCT3) × (d ≡ rd w) × (a ≡ rs1 w) × (imm ≡ immediate_i w)
IsRow w (Branch op a b imm) =
    (opcode w ≡ BRANCH) × (op ≡ funct3 w) × IsOneOf op branch_ops × (a ≡ rs1 w) × (b ≡ rs2 w) × (imm ≡ immediate_b w)
IsRow w (Load op d a imm) =
    (opcode w ≡ LOAD) × (op ≡ funct3 w) × IsOneOf op load_ops × (d ≡ rd w) × (a ≡ rs1 w) × (imm ≡ immediate_i w)
IsRow w (Store op a b imm) =
    (opcode w ≡ STORE) × (op ≡ funct3 w) × IsOneOf op store_ops × (a ≡ rs1 w) × (b ≡ rs2 w) × (imm ≡ immediate_s w)
IsRow w (OpImm op alt d a imm) =
    (opcode w ≡ OP_IMM) × (op ≡ funct3 w) × (d ≡ rd w) × (a ≡ rs1 w) × IsImmediateRow w op alt imm
IsRow w (Op op alt d a b) =
    (opcode w ≡ OP) × (op ≡ funct3 w) × (d ≡ rd w) × (a ≡ rs1 w) × (b ≡ rs2 w) × IsRegisterRow w op alt
IsRow w Fence = (opcode w ≡ MISC_MEM) × (funct3 w ≡ FENCE_FUNCT3)
IsRow w Ecall = w ≡ ECALL_WORD
IsRow w Ebreak = w ≡ EBREAK_WORD

-- a word whose bits from `width - 1` up are alike
abbrev pub IsSigned : ℕ → ℕ → Type 0
IsSigned width n = (n < 2 ^ (width - 1)) ⊎ (2 ^ 32 - 2 ^ (width - 1) ≤ n) × (n < 2 ^ 32)

-- The immediate of an operation is in range, and so is the amount of a shift.
abbrev pub IsImmediateOf : ℕ → Bool → ℕ → Type 0
IsImmediateOf op alt imm =
    IsOneOf op plain_ops × (alt ≡ false) × IsSigned 12 imm
    ⊎ (IsOneOf op shift_ops × (alt ≡ false) × (imm < 32) ⊎ (op ≡ SRA) × (alt ≡ true) × (imm < 32))

-- The fields are in range.
abbrev pub IsInstr : Instr → Type 0
IsInstr (Lui d imm) = (d < REGISTERS) × (imm < 2 ^ 32) × (imm % 2 ^ 12 ≡ 0)
IsInstr (Auipc d imm) = (d < REGISTERS) × (imm < 2 ^ 32) × (imm % 2 ^ 12 ≡ 0)
IsInstr (Jal d imm) = (d < REGISTERS) × IsSigned 21 imm × (imm % 2 ≡ 0)
IsInstr (Jalr d a imm) = (d < REGISTERS) × (a < REGISTERS) × IsSigned 12 imm
IsInstr (Branch op a b imm) =
    IsOneOf op branch_ops × (a < REGISTERS) × (b < REGISTERS) × IsSigned 13 imm × (imm % 2 ≡ 0)
IsInstr (Load op d a imm) = IsOneOf op load_ops × (d < REGISTERS) × (a < REGISTERS) × IsSigned 12 imm
IsInstr (Store op a b imm) = IsOneOf op store_ops × (a < REGISTERS) × (b < REGISTERS) × IsSigned 12 imm
IsInstr (OpImm op alt d a imm) = (d < REGISTERS) × (a < REGISTERS) × IsImmediateOf op alt imm
IsInstr (Op op alt d a b) =
    (op < 8) × (d < REGISTERS) × (a < REGISTERS) × (b < REGISTERS)
    × ((alt ≡ false) ⊎ (alt ≡ true) × IsOneOf op alt_ops)
IsInstr Fence = Unit {0}
IsInstr Ecall = Unit {0}
IsInstr Ebreak = Unit {0}
