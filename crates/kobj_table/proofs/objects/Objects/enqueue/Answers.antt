use Rattle.std.proofs.Common.{arith}
use Rattle.kobj_table.proofs.objects.Objects.enqueue.Goals as goal

pub push_back-requires : goal.push_back-requires
push_back-requires c = (omega arith, (omega arith, (c.requires.id, c.requires.free)))
