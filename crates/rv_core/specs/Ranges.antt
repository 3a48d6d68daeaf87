-- What is in range of registers and plans.
use Rattle.std.specs.Prelude.{◌≡◌, ℕ, ◌%◌, ◌^◌, ◌<◌, [], ◌∷◌, length, slice_index}
use Rattle.sls_base.specs.declared.causes.TheConstants.{BAD_TARGET, BREAKPOINT, MISALIGNED}
use Rattle.sls_base.specs.declared.limits.TheConstants.{INSTRUCTION_BYTES, REGISTERS}
use Rattle.rv_table.specs.Table.{IsOneOf, load_ops, store_ops}
use Rattle.rv_core.specs.declared.registers.Plan.{Plan}
use Rattle.rv_core.specs.declared.registers.Plan.TheVariants.{Set, Load, Store, Call, Stop}
use Rattle.rv_core.specs.declared.registers.Regs.{Regs}
use Rattle.rv_core.specs.Effect.{size_of}

-- Registers and program counter have 32 bits.
pub record AreRegs (regs : Regs) : Type 0 where
  pub counter : regs.pc < 2 ^ 32
  pub count : length regs.x ≡ REGISTERS
  pub each : (i : ℕ) → slice_index regs.x i < 2 ^ 32

-- A plan names registers that there are and words of 32 bits; an access is that of a row, at a multiple of its size.
abbrev pub IsPlan : Plan → Type 0
IsPlan (Set rd value pc) = (rd < REGISTERS) × (value < 2 ^ 32) × (pc < 2 ^ 32)
IsPlan (Load op rd at) = IsOneOf op load_ops × (rd < REGISTERS) × (at < 2 ^ 32) × (at % size_of op ≡ 0)
IsPlan (Store op at value) = IsOneOf op store_ops × (at < 2 ^ 32) × (at % size_of op ≡ 0) × (value < 2 ^ 32)
IsPlan Call = Unit {0}
IsPlan (Stop cause) = IsOneOf cause (BAD_TARGET ∷ MISALIGNED ∷ BREAKPOINT ∷ [])

-- Where a plan goes on an instruction may begin: at a multiple of 4.
abbrev pub GoesAligned : Plan → Type 0
GoesAligned (Set rd value pc) = pc % INSTRUCTION_BYTES ≡ 0
GoesAligned (Load op rd at) = Unit {0}
GoesAligned (Store op at value) = Unit {0}
GoesAligned Call = Unit {0}
GoesAligned (Stop cause) = Unit {0}
