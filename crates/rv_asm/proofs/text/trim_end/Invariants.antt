use Rattle.std.proofs.Common.{◌≡◌, ◌≤◌, length, take}
use Rattle.rv_asm.specs.Text
use Rattle.rv_asm.proofs.text.trim_end.Given as goal

-- only blanks behind
abbrev pub invariant-loop-end : goal.invariant-loop-end
invariant-loop-end l = record {
  in_text : l.end ≤ length l.text;
  same : Text.trim_end (take l.end l.text) ≡ Text.trim_end l.text;
}

abbrev pub decreases-loop-end : goal.decreases-loop-end
decreases-loop-end l = l.end
