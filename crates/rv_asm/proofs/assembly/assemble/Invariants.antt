use Rattle.std.proofs.Common.{◌≡◌, ◌≤◌, ◌+◌, ℕ, [], List, ◌++◌, take, drop, map, vec_len}
use Rattle.rv_asm.specs.Program.{words_in, first_fault, AreWords}
use Rattle.rv_asm.specs.View.{seen, view}
use Rattle.rv_asm.proofs.assembly.assemble.Given as goal

-- no fault in the lines so far, and their words
abbrev pub invariant-loop-k : goal.invariant-loop-k
invariant-loop-k l =
    let p = map (seen view) l.program.items in
    record {
      counted : vec_len l.words ≡ words_in (map (seen view) (take l.k l.program.items));
      few : vec_len l.words ≤ l.k;
      faults : first_fault p (map (seen view) (take l.k l.program.items)) (map (seen view) (drop l.k l.program.items)) (l.k + 1) ≡ first_fault p [] p 1;
      words : (tail : List ℕ) → AreWords p (vec_len l.words) (map (seen view) (drop l.k l.program.items)) tail → AreWords p 0 p (l.words.items ++ tail);
    }
