use Rattle.std.proofs.Common.{◌≡◌, length}
use Rattle.kobj_codec.proofs.ReadSoFar.{ReadsFirst}
use Rattle.kobj_codec.proofs.Lists.{ListOf}
use Rattle.kobj_codec.proofs.list.read_list.Given as goal

abbrev pub invariant-loop-j : goal.invariant-loop-j
invariant-loop-j l = record { size : length l.ids.items ≡ l.j; read : ReadsFirst (ListOf l.words l.first) l.ids.items l.j }
