use Rattle.std.proofs.Common.{◌≡◌, None, length}
use Rattle.sls_base.specs.declared.limits.TheConstants.{GROUP_SLOTS}
use Rattle.kobj_codec.proofs.ReadSoFar.{ReadsBelow}
use Rattle.kobj_codec.proofs.Groups.{SlotsOf}
use Rattle.kobj_codec.proofs.group.read_group.Given as goal

abbrev pub invariant-loop-j : goal.invariant-loop-j
invariant-loop-j l = record { size : length l.group.slots ≡ GROUP_SLOTS; read : ReadsBelow None (SlotsOf l.words) l.group.slots l.j }
