use Rattle.std.proofs.Common.{arith}
use Rattle.link_lists.proofs.Places.{at_node, at_end}
use Rattle.link_lists.proofs.rings.Rings.at.Goals as goal

pub returns-in-Node : goal.returns-in-Node
returns-in-Node g c = at_node c.args.self.now _ _ _ c.in-Node.is (omega (arith, rw c.in-Node.is at c.requires))

pub returns-in-End : goal.returns-in-End
returns-in-End g c = at_end c.args.self.now _ _ _ c.in-End.is (omega (arith, rw c.in-End.is at c.requires))
