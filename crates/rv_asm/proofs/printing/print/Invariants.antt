use Rattle.std.proofs.Common.{◌≡◌, take, string_bytes}
use Rattle.rv_asm.specs.Printed.{text_of}
use Rattle.rv_asm.proofs.printing.print.Given as goal

-- the lines so far
abbrev pub invariant-loop-word : goal.invariant-loop-word
invariant-loop-word l = string_bytes l.text ≡ text_of (take l.word-index l.words)
