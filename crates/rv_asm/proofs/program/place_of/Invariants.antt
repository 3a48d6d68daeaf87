use Rattle.std.proofs.Common.{◌≡◌, ◌≤◌, ◌+◌, drop, map}
use Rattle.std.specs.Option.{option_map}
use Rattle.rv_asm.specs.Program as P
use Rattle.rv_asm.specs.View.{seen, view}
use Rattle.rv_asm.proofs.program.place_of.Given as goal

-- the place among the lines that are left, behind the words so far
abbrev pub invariant-loop-line : goal.invariant-loop-line
invariant-loop-line l = record {
  few : l.place ≤ l.line-index;
  told : option_map (λ p. l.place + p) (P.place_of l.name (map (seen view) (drop l.line-index l.program))) ≡ P.place_of l.name (map (seen view) l.program);
}
