use Rattle.kobj_codec.proofs.Lists.{AreListed}
use Rattle.kobj_codec.proofs.list.is_list.Given as goal

abbrev pub invariant-loop-i : goal.invariant-loop-i
invariant-loop-i l = AreListed l.ids l.i
