use Rattle.std.proofs.Common.{◌≡◌, length}
use Rattle.kobj_codec.proofs.ReadSoFar.{ReadsFirst}
use Rattle.kobj_codec.proofs.Memories.{PagesOf}
use Rattle.kobj_codec.proofs.memory.read_memory.Given as goal

abbrev pub invariant-loop-j : goal.invariant-loop-j
invariant-loop-j l = record { size : length l.pages.items ≡ l.j; read : ReadsFirst (PagesOf l.words) l.pages.items l.j }
