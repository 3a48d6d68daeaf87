-- What a line says.
use Rattle.std.specs.Prelude.{ℕ, ◌*◌, ◌^◌, ◌-◌, false, ◌&&◌, if◌then◌else◌, Option, Some, None, Result, Ok, Err, List}
use Rattle.std.specs.Option.{option_map, ok_or}
use Rattle.rv_table.specs.declared.Instr.{Instr}
use Rattle.rv_table.specs.declared.Instr.TheVariants.{Lui, Auipc, Jal, Jalr, Branch, Load, Store, OpImm, Op as OpRow}
use Rattle.rv_asm.specs.declared.number.Number.{Number}
use Rattle.rv_asm.specs.declared.mnemonic.Mnemonic.{Mnemonic}
use Rattle.rv_asm.specs.declared.mnemonic.Mnemonic.TheVariants as mnemonic
use Rattle.rv_asm.specs.declared.mnemonic.PlainMnemonic.{PlainMnemonic}
use Rattle.rv_asm.specs.declared.mnemonic.PlainMnemonic.TheVariants as plain_mnemonic
use Rattle.rv_asm.specs.declared.error.AsmCause.{AsmCause}
use Rattle.rv_asm.specs.declared.error.AsmCause.TheVariants as cause
use Rattle.rv_asm.specs.Bytes.{hash, colon, is_byte}
use Rattle.rv_asm.specs.Text.{front, rest, is_blank, is_nothing, trim, trim_start, without_last}
use Rattle.rv_asm.specs.Text.{one_operand, two_operands, three_operands}
use Rattle.rv_asm.specs.Operand.{register_of, number_of, within, even_within, is_name, memory_of}
use Rattle.rv_asm.specs.Names.{mnemonic_of}

-- nothing, the definition of a label, a word, an instruction, or an instruction that goes to a label
pub data Statement : Type 0 where
  Blank : Statement
  Label : List ℕ → Statement
  Data : ℕ → Statement
  Does : Instr → Statement
  Aims : Instr → List ℕ → Statement

-- the operand of a branch or jal: an offset, or the name of a label
pub data Target : Type 0 where
  Offset : Number → Target
  Named : List ℕ → Target

-- what is read next, unless there is a fault already
infixl 10 ◌>>=◌
abbrev pub ◌>>=◌ : {A B : Type 0} → Result A AsmCause → (A → Result B AsmCause) → Result B AsmCause
(Ok x) >>= f = f x
(Err c) >>= f = Err c

-- a part whose spelling is a matter of Form
abbrev pub form : {A : Type 0} → Option A → Result A AsmCause
form o = ok_or o cause.Form

-- a register
abbrev pub reg : List ℕ → Result ℕ AsmCause
reg text = ok_or (register_of text) cause.Reg

-- a number from -below to above, as a word
abbrev pub in_range : ℕ → ℕ → Number → Result ℕ AsmCause
in_range below above n = ok_or (within below above n) cause.Number

-- a label's name, or else a number
abbrev pub target_of : List ℕ → Option Target
target_of text = if is_name text then Some (Named text) else option_map Offset (number_of text)

-- lui and auipc: the upper 20 bits
unfoldable pub upper : List ℕ → Result (ℕ × ℕ) AsmCause
upper text = do
  parts ← form (two_operands text)
  n ← form (number_of parts.1)
  rd ← reg parts.0
  imm ← in_range 0 1048575 n
  Ok (rd, 2 ^ 12 * imm)

-- loads, stores and jalr: a register, an immediate, and the register in the parentheses
unfoldable pub access : List ℕ → Result (ℕ × ℕ × ℕ) AsmCause
access text = do
  parts ← form (two_operands text)
  memory ← form (memory_of parts.1)
  n ← form (number_of memory.0)
  first ← reg parts.0
  base ← reg memory.1
  imm ← in_range 2048 2047 n
  Ok (first, base, imm)

-- the operations with an immediate, from -below to above
unfoldable pub immediate : ℕ → ℕ → List ℕ → Result (ℕ × ℕ × ℕ) AsmCause
immediate below above text = do
  parts ← form (three_operands text)
  n ← form (number_of parts.2)
  rd ← reg parts.0
  rs1 ← reg parts.1
  imm ← in_range below above n
  Ok (rd, rs1, imm)

-- the operations on registers
unfoldable pub registers : List ℕ → Result (ℕ × ℕ × ℕ) AsmCause
registers text = do
  parts ← form (three_operands text)
  rd ← reg parts.0
  rs1 ← reg parts.1
  rs2 ← reg parts.2
  Ok (rd, rs1, rs2)

-- what has no operands
abbrev pub bare : Instr → List ℕ → Result Instr AsmCause
bare instr text = if is_nothing text then Ok instr else Err cause.Form

-- .word
unfoldable pub data_word : List ℕ → Result ℕ AsmCause
data_word text = do
  part ← form (one_operand text)
  n ← form (number_of part)
  in_range 0 4294967295 n

-- how far back a branch or jal reaches; forward it is 2 less
abbrev pub reach : Instr → ℕ
reach (Jal rd imm) = 1048576
reach _ = 4096

-- the instruction with this offset
abbrev pub with_offset : Instr → ℕ → Instr
with_offset (Jal rd old) imm = Jal rd imm
with_offset (Branch op rs1 rs2 old) imm = Branch op rs1 rs2 imm
with_offset instr imm = instr

-- a branch or jal with its target
abbrev pub aimed : Instr → Target → Result Statement AsmCause
aimed instr (Named name) = Ok (Aims instr name)
aimed instr (Offset n) =
    let offset = even_within (reach instr) (reach instr - 2) n in
    ok_or (option_map (λ imm. Does (with_offset instr imm)) offset) cause.Number

-- the operands of jal
unfoldable pub jump : List ℕ → Result (ℕ × Target) AsmCause
jump text = do
  parts ← form (two_operands text)
  target ← form (target_of parts.1)
  rd ← reg parts.0
  Ok (rd, target)

-- the operands of a branch
unfoldable pub branch : List ℕ → Result (ℕ × ℕ × Target) AsmCause
branch text = do
  parts ← form (three_operands text)
  target ← form (target_of parts.2)
  rs1 ← reg parts.0
  rs2 ← reg parts.1
  Ok (rs1, rs2, target)

-- an instruction that has no target, with its operands
unfoldable pub plain : PlainMnemonic → List ℕ → Result Instr AsmCause
plain plain_mnemonic.Lui text = upper text >>= λ p. Ok (Lui p.0 p.1)
plain plain_mnemonic.Auipc text = upper text >>= λ p. Ok (Auipc p.0 p.1)
plain plain_mnemonic.Jalr text = access text >>= λ p. Ok (Jalr p.0 p.1 p.2)
plain (plain_mnemonic.Load op) text = access text >>= λ p. Ok (Load op p.0 p.1 p.2)
plain (plain_mnemonic.Store op) text = access text >>= λ p. Ok (Store op p.1 p.0 p.2)
plain (plain_mnemonic.Immediate op) text = immediate 2048 2047 text >>= λ p. Ok (OpImm op false p.0 p.1 p.2)
plain (plain_mnemonic.Shift op alt) text = immediate 0 31 text >>= λ p. Ok (OpImm op alt p.0 p.1 p.2)
plain (plain_mnemonic.Register op alt) text = registers text >>= λ p. Ok (OpRow op alt p.0 p.1 p.2)
plain (plain_mnemonic.Bare instr) text = bare instr text

-- a mnemonic with its operands
unfoldable pub instruction : Mnemonic → List ℕ → Result Statement AsmCause
instruction mnemonic.Jal text = jump text >>= λ p. aimed (Jal p.0 0) p.1
instruction (mnemonic.Branch op) text = branch text >>= λ p. aimed (Branch op p.0 p.1 0) p.2
instruction (mnemonic.Plain name) text = plain name text >>= λ instr. Ok (Does instr)
instruction mnemonic.Word text = data_word text >>= λ n. Ok (Data n)

-- a label's definition, of which nothing else stands in the line
abbrev pub label : List ℕ → List ℕ → Result Statement AsmCause
label name others = if is_name name && is_nothing others then Ok (Label name) else Err cause.Form

-- a first word that doesn't end in `:`
abbrev pub named_instruction : List ℕ → List ℕ → Result Statement AsmCause
named_instruction name others = ok_or (mnemonic_of name) cause.Op >>= λ m. instruction m others

-- a first word without its `:`, where it ends in one
abbrev pub label_or_instruction : List ℕ → List ℕ → Option (List ℕ) → Result Statement AsmCause
label_or_instruction word others (Some name) = label name others
label_or_instruction word others None = named_instruction word others

-- a line without its comment and the blanks at its ends
abbrev pub content : List ℕ → List ℕ
content line = trim (front (is_byte hash) line)

-- what a line says: its first word ends at the first blank
unfoldable pub statement_of : List ℕ → Result Statement AsmCause
statement_of line =
    let text = content line in let word = front is_blank text in
    if is_nothing text then Ok Blank
    else label_or_instruction word (trim_start (rest is_blank text)) (without_last colon word)
