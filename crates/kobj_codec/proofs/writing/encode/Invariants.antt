use Rattle.kobj_codec.proofs.RecordWords.{IsBegun}
use Rattle.kobj_codec.proofs.writing.encode.Given as goal

abbrev pub invariant-loop-i : goal.invariant-loop-i
invariant-loop-i l = IsBegun l.words l.obj l.i
