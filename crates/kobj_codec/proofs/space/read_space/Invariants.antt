use Rattle.std.proofs.Common.{◌≡◌, length}
use Rattle.kobj_codec.proofs.ReadSoFar.{ReadsFirst}
use Rattle.kobj_codec.proofs.Spaces.{RegionsOf}
use Rattle.kobj_codec.proofs.space.read_space.Given as goal

abbrev pub invariant-loop-i : goal.invariant-loop-i
invariant-loop-i l = record { size : length l.regions.items ≡ l.i; read : ReadsFirst (RegionsOf l.words) l.regions.items l.i }
