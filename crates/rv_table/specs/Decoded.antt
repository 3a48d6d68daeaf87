-- The table as a function, for definitions that go from a word to what it does.
use Rattle.std.specs.Prelude.{ℕ, ◌==◌, if◌then◌else◌, ◌||◌, ◌&&◌, Bool, true, false, Option, Some, None, List, [], ◌∷◌}
use Rattle.rv_table.specs.declared.opcodes.TheConstants.{LUI, AUIPC, JAL, JALR, BRANCH, LOAD, STORE, OP_IMM, OP, MISC_MEM, SYSTEM, BASE, ALT, ECALL_WORD, EBREAK_WORD}
use Rattle.rv_table.specs.declared.funct3.TheConstants.{SRA, JALR_FUNCT3, FENCE_FUNCT3}
use Rattle.rv_table.specs.declared.Instr.{Instr}
use Rattle.rv_table.specs.declared.Instr.TheVariants.{Lui, Auipc, Jal, Jalr, Branch, Load, Store, OpImm, Op, Fence, Ecall, Ebreak}
use Rattle.rv_table.specs.Word.{opcode, rd, funct3, rs1, rs2, funct7, immediate_i, immediate_s, immediate_b, immediate_u, immediate_j}
use Rattle.rv_table.specs.Table.{branch_ops, load_ops, store_ops, plain_ops, alt_ops}

-- what stands under a key in a table; where nothing does, the value that comes first
abbrev pub entry_of : {A : Type 0} → A → List (ℕ × A) → ℕ → A
entry_of other [] key = other
entry_of other (row ∷ rows) key = if key == row.0 then row.1 else entry_of other rows key

-- whether n is one of the numbers
abbrev pub is_one_of : ℕ → List ℕ → Bool
is_one_of n [] = false
is_one_of n (x ∷ xs) = (n == x) || is_one_of n xs

-- the instruction, where the test holds
abbrev pub when : Bool → Instr → Option Instr
when test i = if test then Some i else None

-- the row of a word among the operations with an immediate, of which the shifts have an amount in place of rs2
abbrev pub immediate_row : ℕ → Option Instr
immediate_row w =
    let shift = λ (alt : Bool). OpImm (funct3 w) alt (rd w) (rs1 w) (rs2 w) in
    if is_one_of (funct3 w) plain_ops then Some (OpImm (funct3 w) false (rd w) (rs1 w) (immediate_i w))
    else (if funct7 w == BASE then Some (shift false)
    else when ((funct7 w == ALT) && (funct3 w == SRA)) (shift true))

-- the same among the operations on two registers
abbrev pub register_row : ℕ → Option Instr
register_row w =
    let operation = λ (alt : Bool). Op (funct3 w) alt (rd w) (rs1 w) (rs2 w) in
    if funct7 w == BASE then Some (operation false)
    else when ((funct7 w == ALT) && is_one_of (funct3 w) alt_ops) (operation true)

-- ECALL and EBREAK
abbrev pub system_row : ℕ → Option Instr
system_row w = if w == ECALL_WORD then Some Ecall else when (w == EBREAK_WORD) Ebreak

-- the table by opcodes: under each the row of a word that has this opcode
abbrev pub rows : ℕ → List (ℕ × Option Instr)
rows w =
    (LUI, Some (Lui (rd w) (immediate_u w)))
    ∷ (AUIPC, Some (Auipc (rd w) (immediate_u w)))
    ∷ (JAL, Some (Jal (rd w) (immediate_j w)))
    ∷ (JALR, when (funct3 w == JALR_FUNCT3) (Jalr (rd w) (rs1 w) (immediate_i w)))
    ∷ (BRANCH, when (is_one_of (funct3 w) branch_ops) (Branch (funct3 w) (rs1 w) (rs2 w) (immediate_b w)))
    ∷ (LOAD, when (is_one_of (funct3 w) load_ops) (Load (funct3 w) (rd w) (rs1 w) (immediate_i w)))
    ∷ (STORE, when (is_one_of (funct3 w) store_ops) (Store (funct3 w) (rs1 w) (rs2 w) (immediate_s w)))
    ∷ (OP_IMM, immediate_row w)
    ∷ (OP, register_row w)
    ∷ (MISC_MEM, when (funct3 w == FENCE_FUNCT3) Fence)
    ∷ (SYSTEM, system_row w)
    ∷ []

-- the instruction of a word, where it has one
unfoldable pub decoded : ℕ → Option Instr
decoded w = entry_of None (rows w) (opcode w)
