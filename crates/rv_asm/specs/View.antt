-- The code's statements without where their names lie in memory, and what is in range of them.
use Rattle.std.specs.Prelude.{◌<◌, ◌^◌, Result, Ok, Err}
use Rattle.rv_table.specs.declared.Instr.{Instr}
use Rattle.rv_table.specs.declared.Instr.TheVariants.{Jal, Branch}
use Rattle.rv_table.specs.Table.{IsInstr, IsOneOf, branch_ops}
use Rattle.rv_asm.specs.declared.error.AsmCause.{AsmCause}
use Rattle.rv_asm.specs.declared.statement.Statement.{Statement}
use Rattle.rv_asm.specs.declared.statement.Statement.TheVariants as code
use Rattle.rv_asm.specs.declared.statement.Target.{Target}
use Rattle.rv_asm.specs.declared.statement.Target.TheVariants as target
use Rattle.rv_asm.specs.Statement as S

-- what a result has, seen by a function
abbrev pub seen : {A B : Type 0} → (A → B) → Result A AsmCause → Result B AsmCause
seen f (Ok x) = Ok (f x)
seen f (Err c) = Err c

abbrev pub view : Statement → S.Statement
view code.Blank = S.Blank
view (code.Label name) = S.Label name.now
view (code.Word n) = S.Data n
view (code.Instr instr) = S.Does instr
view (code.Aimed instr label) = S.Aims instr label.now

abbrev pub view_target : Target → S.Target
view_target (target.Offset n) = S.Offset n
view_target (target.Label name) = S.Named name.now

-- a branch or jal, whose offset is still open
abbrev pub IsAimed : Instr → Type 0
IsAimed (Jal rd imm) = rd < 32
IsAimed (Branch op rs1 rs2 imm) = IsOneOf op branch_ops × (rs1 < 32) × (rs2 < 32)
IsAimed _ = ⊥

-- The fields of a statement are in range.
abbrev pub IsStatement : Statement → Type 0
IsStatement code.Blank = Unit {0}
IsStatement (code.Label name) = Unit {0}
IsStatement (code.Word n) = n < 2 ^ 32
IsStatement (code.Instr instr) = IsInstr instr
IsStatement (code.Aimed instr label) = IsAimed instr
