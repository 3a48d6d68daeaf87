-- What an error tells.
use Rattle.std.specs.Prelude.{◌≡◌, ℕ, Option, Some}
use Rattle.rv_asm.specs.declared.error.AsmCause.{AsmCause}
use Rattle.rv_asm.specs.declared.error.AsmError.{AsmError}
use Rattle.rv_asm.specs.declared.error.AsmError.TheVariants.{Memory, Bad}

-- An error is the want of memory, or tells of the fault that there is.
abbrev pub IsTold : Option (ℕ × AsmCause) → AsmError → Type 0
IsTold fault Memory = Unit {0}
IsTold fault (Bad line c) = fault ≡ Some (line, c)
