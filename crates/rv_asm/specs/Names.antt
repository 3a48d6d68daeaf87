-- The mnemonics.
use Rattle.std.specs.Prelude.{◌≡◌, ◌<◌, ◌⊎◌, ℕ, true, false, if◌then◌else◌, Option, Some, None}
use Rattle.std.specs.Prelude.{List, [], ◌∷◌, ◌++◌, codes}
use Rattle.std.specs.Str.{bytes_eq}
use Rattle.rv_table.specs.declared.Instr.TheVariants.{Fence, Ecall, Ebreak}
use Rattle.rv_table.specs.Table.{IsInstr, IsOneOf, branch_ops, load_ops, store_ops, plain_ops, shift_ops, alt_ops}
use Rattle.rv_asm.specs.declared.mnemonic.Mnemonic.{Mnemonic}
use Rattle.rv_asm.specs.declared.mnemonic.Mnemonic.TheVariants.{Jal, Branch, Plain, Word}
use Rattle.rv_asm.specs.declared.mnemonic.PlainMnemonic.{PlainMnemonic}
use Rattle.rv_asm.specs.declared.mnemonic.PlainMnemonic.TheVariants.{Lui, Auipc, Jalr, Load, Store}
use Rattle.rv_asm.specs.declared.mnemonic.PlainMnemonic.TheVariants.{Immediate, Shift, Register, Bare}

-- a name, and the mnemonic that it is
abbrev pub Entry : Type 0
Entry = List ℕ × Mnemonic

-- the branches, by funct3
abbrev pub branches : List Entry
branches =
    (codes "beq", Branch 0)
    ∷ (codes "bne", Branch 1)
    ∷ (codes "blt", Branch 4)
    ∷ (codes "bge", Branch 5)
    ∷ (codes "bltu", Branch 6)
    ∷ (codes "bgeu", Branch 7)
    ∷ []

-- loads and stores, by funct3
abbrev pub accesses : List Entry
accesses =
    (codes "lb", Plain (Load 0))
    ∷ (codes "lh", Plain (Load 1))
    ∷ (codes "lw", Plain (Load 2))
    ∷ (codes "lbu", Plain (Load 4))
    ∷ (codes "lhu", Plain (Load 5))
    ∷ (codes "sb", Plain (Store 0))
    ∷ (codes "sh", Plain (Store 1))
    ∷ (codes "sw", Plain (Store 2))
    ∷ []

-- operations with an immediate, by funct3; of the shifts also whether funct7 is 0x20
abbrev pub immediates : List Entry
immediates =
    (codes "addi", Plain (Immediate 0))
    ∷ (codes "slti", Plain (Immediate 2))
    ∷ (codes "sltiu", Plain (Immediate 3))
    ∷ (codes "xori", Plain (Immediate 4))
    ∷ (codes "ori", Plain (Immediate 6))
    ∷ (codes "andi", Plain (Immediate 7))
    ∷ (codes "slli", Plain (Shift 1 false))
    ∷ (codes "srli", Plain (Shift 5 false))
    ∷ (codes "srai", Plain (Shift 5 true))
    ∷ []

-- operations on registers, by funct3 and whether funct7 is 0x20
abbrev pub registers : List Entry
registers =
    (codes "add", Plain (Register 0 false))
    ∷ (codes "sub", Plain (Register 0 true))
    ∷ (codes "sll", Plain (Register 1 false))
    ∷ (codes "slt", Plain (Register 2 false))
    ∷ (codes "sltu", Plain (Register 3 false))
    ∷ (codes "xor", Plain (Register 4 false))
    ∷ (codes "srl", Plain (Register 5 false))
    ∷ (codes "sra", Plain (Register 5 true))
    ∷ (codes "or", Plain (Register 6 false))
    ∷ (codes "and", Plain (Register 7 false))
    ∷ []

-- all others
abbrev pub others : List Entry
others =
    (codes "lui", Plain Lui)
    ∷ (codes "auipc", Plain Auipc)
    ∷ (codes "jal", Jal)
    ∷ (codes "jalr", Plain Jalr)
    ∷ (codes "fence", Plain (Bare Fence))
    ∷ (codes "ecall", Plain (Bare Ecall))
    ∷ (codes "ebreak", Plain (Bare Ebreak))
    ∷ (codes ".word", Word)
    ∷ []

abbrev pub mnemonics : List Entry
mnemonics = branches ++ (accesses ++ (immediates ++ (registers ++ others)))

-- what a list of names has for a name
abbrev pub named : List Entry → List ℕ → Option Mnemonic
named [] name = None
named (entry ∷ entries) name = if bytes_eq entry.0 name then Some entry.1 else named entries name

-- the mnemonic that a name is, where it is one
unfoldable pub mnemonic_of : List ℕ → Option Mnemonic
mnemonic_of name = named mnemonics name

-- The op is that of a row of the table, and an instruction without operands is one that there is.
abbrev pub IsPlain : PlainMnemonic → Type 0
IsPlain Lui = Unit {0}
IsPlain Auipc = Unit {0}
IsPlain Jalr = Unit {0}
IsPlain (Load op) = IsOneOf op load_ops
IsPlain (Store op) = IsOneOf op store_ops
IsPlain (Immediate op) = IsOneOf op plain_ops
IsPlain (Shift op alt) = IsOneOf op shift_ops × ((alt ≡ false) ⊎ (op ≡ 5))
IsPlain (Register op alt) = (op < 8) × ((alt ≡ false) ⊎ IsOneOf op alt_ops)
IsPlain (Bare instr) = IsInstr instr

-- the same of every mnemonic
abbrev pub IsMnemonic : Mnemonic → Type 0
IsMnemonic Jal = Unit {0}
IsMnemonic (Branch op) = IsOneOf op branch_ops
IsMnemonic (Plain mnemonic) = IsPlain mnemonic
IsMnemonic Word = Unit {0}
