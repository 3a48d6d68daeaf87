use Rattle.std.proofs.Common.{sym}
use Rattle.link_lists.proofs.Members.{without-absent}
use Rattle.link_lists.specs.Lists.{list_at}
use Rattle.kobj_table.proofs.objects.Objects.leave.Goals as goal

pub returns-else-is_linked-clause-rest : goal.returns-else-is_linked-clause-rest
returns-else-is_linked-clause-rest c i =
    sym (without-absent c.args.id (list_at c.args.self.now.links i) (c.is_linked.ensures.free.0 c.if-is_linked.false i))
