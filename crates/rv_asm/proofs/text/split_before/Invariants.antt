use Rattle.std.proofs.Common.{◌≡◌, ◌++◌, take, drop}
use Rattle.rv_asm.specs.Bytes
use Rattle.rv_asm.specs.Text
use Rattle.rv_asm.proofs.text.split_before.Given as goal

-- nothing stopped so far
abbrev pub invariant-loop-i : goal.invariant-loop-i
invariant-loop-i l =
    record {
      before : take l.i l.text ++ Text.front (Bytes.is_either l.a l.b) (drop l.i l.text) ≡ Text.front (Bytes.is_either l.a l.b) l.text;
      behind : Text.rest (Bytes.is_either l.a l.b) (drop l.i l.text) ≡ Text.rest (Bytes.is_either l.a l.b) l.text;
    }
