use Rattle.std.proofs.Common.{◌≡◌, drop}
use Rattle.std.specs.List.{list_all}
use Rattle.rv_asm.specs.Operand.{is_name_byte}
use Rattle.rv_asm.proofs.operand.are_name_bytes.Given as goal

-- it depends on the bytes that are left
abbrev pub invariant-loop-byte : goal.invariant-loop-byte
invariant-loop-byte l = list_all is_name_byte (drop l.byte-index l.text) ≡ list_all is_name_byte l.text
