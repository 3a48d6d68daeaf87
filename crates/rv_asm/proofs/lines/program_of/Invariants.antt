use Rattle.std.proofs.Common.{◌≡◌, ◌≤◌, ◌+◌, ◌++◌, IfOk, map, length, vec_len}
use Rattle.std.specs.List.{All}
use Rattle.std.specs.Option.{option_copied}
use Rattle.rv_asm.specs.Lines.{lines_after, left_of}
use Rattle.rv_asm.specs.Program.{program_of}
use Rattle.rv_asm.specs.Statement.{statement_of}
use Rattle.rv_asm.specs.View.{seen, view, IsStatement}
use Rattle.rv_asm.proofs.lines.program_of.Given as goal

-- the lines so far and those of what is left are those of all
abbrev pub invariant-loop-left : goal.invariant-loop-left
invariant-loop-left l = record {
  told : map (seen view) l.program.items ++ map statement_of (lines_after (option_copied l.left)) ≡ program_of l.text;
  few : vec_len l.program + left_of (option_copied l.left) ≤ length l.text + 1;
  in_range : All (λ line. IfOk line IsStatement) l.program.items;
}

abbrev pub decreases-loop-left : goal.decreases-loop-left
decreases-loop-left l = left_of (option_copied l.left)
