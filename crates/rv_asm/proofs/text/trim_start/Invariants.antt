use Rattle.std.proofs.Common.{◌≡◌, drop}
use Rattle.rv_asm.specs.Text
use Rattle.rv_asm.proofs.text.trim_start.Given as goal

-- only blanks so far
abbrev pub invariant-loop-i : goal.invariant-loop-i
invariant-loop-i l = Text.trim_start (drop l.i l.text) ≡ Text.trim_start l.text
