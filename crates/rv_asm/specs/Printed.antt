-- The text of some words.
use Rattle.std.specs.Prelude.{ℕ, ◌/◌, ◌%◌, ◌^◌, ◌==◌, zero, suc, Bool, false, if◌then◌else◌, Option, Some, None}
use Rattle.std.specs.Prelude.{List, [], ◌∷◌, ◌++◌, codes, slice_get, unwrap_or}
use Rattle.std.specs.Fmt.{decimal, signed_decimal, digit_glyph}
use Rattle.std.specs.Int.{cast_signed, w32}
use Rattle.std.specs.List.{flat_map}
use Rattle.rv_table.specs.declared.Instr.{Instr}
use Rattle.rv_table.specs.declared.Instr.TheVariants.{Lui, Auipc, Jal, Jalr, Branch, Load, Store, OpImm, Op as OpRow}
use Rattle.rv_table.specs.declared.Instr.TheVariants.{Fence, Ecall, Ebreak}
use Rattle.rv_table.specs.Decoded.{decoded}

-- the names of branches by funct3, with nothing where no branch has it
abbrev pub branch_names : List (List ℕ)
branch_names =
    codes "beq" ∷ codes "bne" ∷ [] ∷ [] ∷ codes "blt" ∷ codes "bge" ∷ codes "bltu" ∷ codes "bgeu" ∷ []

-- of loads
abbrev pub load_names : List (List ℕ)
load_names = codes "lb" ∷ codes "lh" ∷ codes "lw" ∷ [] ∷ codes "lbu" ∷ codes "lhu" ∷ []

-- of stores
abbrev pub store_names : List (List ℕ)
store_names = codes "sb" ∷ codes "sh" ∷ codes "sw" ∷ []

-- of operations with an immediate
abbrev pub immediate_names : List (List ℕ)
immediate_names =
    codes "addi" ∷ codes "slli" ∷ codes "slti" ∷ codes "sltiu"
    ∷ codes "xori" ∷ codes "srli" ∷ codes "ori" ∷ codes "andi"
    ∷ []

-- of operations on registers
abbrev pub register_names : List (List ℕ)
register_names =
    codes "add" ∷ codes "sll" ∷ codes "slt" ∷ codes "sltu" ∷ codes "xor" ∷ codes "srl" ∷ codes "or" ∷ codes "and" ∷ []

-- the name at a number
abbrev pub name_at : List (List ℕ) → ℕ → List ℕ
name_at names op = unwrap_or (slice_get names op) []

-- an operation with an immediate; its second form, where funct7 is 0x20, is SRAI
abbrev pub immediate_name : ℕ → Bool → List ℕ
immediate_name op alt = if alt then codes "srai" else name_at immediate_names op

-- an operation on registers; its second form is SUB or SRA
abbrev pub register_name : ℕ → Bool → List ℕ
register_name op alt =
    if alt then (if op == 0 then codes "sub" else codes "sra") else name_at register_names op

-- x0 to x31
abbrev pub register_text : ℕ → List ℕ
register_text r = codes "x" ++ decimal r

-- a word as a signed number, in decimal
abbrev pub signed_text : ℕ → List ℕ
signed_text w = signed_decimal (cast_signed w32 w)

-- the upper 20 bits, without a sign
abbrev pub upper_text : ℕ → List ℕ
upper_text w = decimal (w / 2 ^ 12)

-- the operand of an access: an immediate, and the base register in parentheses
abbrev pub memory_text : ℕ → ℕ → List ℕ
memory_text imm base = signed_text imm ++ (codes "(" ++ (register_text base ++ codes ")"))

-- operands, joined by a comma and one space
abbrev pub joined : List (List ℕ) → List ℕ
joined [] = []
joined (last ∷ []) = last
joined (first ∷ second ∷ more) = first ++ (codes ", " ++ joined (second ∷ more))

-- a name, and its operands behind one space
abbrev pub written : List ℕ → List (List ℕ) → List ℕ
written name operands = name ++ (codes " " ++ joined operands)

-- an instruction
unfoldable pub instruction_text : Instr → List ℕ
instruction_text (Lui d imm) = written (codes "lui") (register_text d ∷ upper_text imm ∷ [])
instruction_text (Auipc d imm) = written (codes "auipc") (register_text d ∷ upper_text imm ∷ [])
instruction_text (Jal d imm) = written (codes "jal") (register_text d ∷ signed_text imm ∷ [])
instruction_text (Jalr d a imm) = written (codes "jalr") (register_text d ∷ memory_text imm a ∷ [])
instruction_text (Branch op a b imm) =
    written (name_at branch_names op) (register_text a ∷ register_text b ∷ signed_text imm ∷ [])
instruction_text (Load op d a imm) = written (name_at load_names op) (register_text d ∷ memory_text imm a ∷ [])
instruction_text (Store op a b imm) = written (name_at store_names op) (register_text b ∷ memory_text imm a ∷ [])
instruction_text (OpImm op alt d a imm) =
    written (immediate_name op alt) (register_text d ∷ register_text a ∷ signed_text imm ∷ [])
instruction_text (OpRow op alt d a b) =
    written (register_name op alt) (register_text d ∷ register_text a ∷ register_text b ∷ [])
instruction_text Fence = codes "fence"
instruction_text Ecall = codes "ecall"
instruction_text Ebreak = codes "ebreak"

-- the last k hexadecimal digits of a number, in lower case
abbrev pub hex_digits : ℕ → ℕ → List ℕ
hex_digits zero n = []
hex_digits (suc k) n = hex_digits k (n / 16) ++ digit_glyph false (n % 16) ∷ []

-- a word that is printed as a number
unfoldable pub data_text : ℕ → List ℕ
data_text w = codes ".word 0x" ++ hex_digits 8 w

-- A word is printed as its instruction, but an illegal word and a FENCE with other fields as a number.
abbrev pub shown : ℕ → Option Instr → List ℕ
shown w None = data_text w
shown w (Some Fence) = if w == 0x0000000F then instruction_text Fence else data_text w
shown w (Some instr) = instruction_text instr

-- a line, with the LF that ends it
abbrev pub line_text : ℕ → List ℕ
line_text w = shown w (decoded w) ++ codes "\n"

-- a line for each word
abbrev pub text_of : List ℕ → List ℕ
text_of words = flat_map line_text words
