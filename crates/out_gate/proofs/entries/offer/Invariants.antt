use Rattle.std.proofs.Common.{◌≡◌, ℕ, List, take}
use Rattle.arrayvec.specs.ArrayVec.{array_vec_len}
use Rattle.out_gate.specs.Entries.{EntryStands}
use Rattle.out_gate.proofs.entries.offer.Given as goal

abbrev pub invariant-loop-k : goal.invariant-loop-k
invariant-loop-k l = record {
  size : array_vec_len l.bytes ≡ l.k;
  first : (entry : List ℕ) → EntryStands l.nvm l.channel l.number entry → l.bytes.items ≡ take l.k entry;
}
