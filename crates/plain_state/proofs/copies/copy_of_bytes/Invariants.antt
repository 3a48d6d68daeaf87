use Rattle.std.proofs.Common.{◌≡◌, take}
use Rattle.plain_state.proofs.copies.copy_of_bytes.Given as goal

abbrev pub invariant-loop-byte : goal.invariant-loop-byte
invariant-loop-byte l = l.copy.items ≡ take l.byte-index l.byte-items
