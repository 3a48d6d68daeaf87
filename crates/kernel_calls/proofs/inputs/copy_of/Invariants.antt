use Rattle.std.proofs.Common.{◌≡◌, take}
use Rattle.arrayvec.specs.ArrayVec.{array_vec_len}
use Rattle.plain_laws.specs.Bounds.{AreBytes}
use Rattle.kernel_calls.proofs.inputs.copy_of.Given as goal

abbrev pub invariant-loop-i : goal.invariant-loop-i
invariant-loop-i l = record {
  size : array_vec_len l.copy ≡ l.i;
  items : l.copy.items ≡ take l.i l.bytes;
  bytes : AreBytes l.copy.items;
}
