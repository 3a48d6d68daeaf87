use Rattle.std.proofs.Common.{arith}
use Rattle.link_lists.proofs.Places.{put_node, put_end, others_node, others_end}
use Rattle.link_lists.proofs.rings.Rings.put.Goals as goal

pub returns-in-Node-clause-put : goal.returns-in-Node-clause-put
returns-in-Node-clause-put g c = put_node c.args.self.now _ _ _ c.in-Node.is (omega (arith, rw c.in-Node.is at c.requires))

pub returns-in-Node-clause-others : goal.returns-in-Node-clause-others
returns-in-Node-clause-others g c = others_node c.args.self.now _ _ _ c.in-Node.is

pub returns-in-End-clause-put : goal.returns-in-End-clause-put
returns-in-End-clause-put g c = put_end c.args.self.now _ _ _ c.in-End.is (omega (arith, rw c.in-End.is at c.requires))

pub returns-in-End-clause-others : goal.returns-in-End-clause-others
returns-in-End-clause-others g c = others_end c.args.self.now _ _ _ c.in-End.is
