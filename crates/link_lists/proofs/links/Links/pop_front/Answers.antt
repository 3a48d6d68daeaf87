use Rattle.link_lists.proofs.Reading.{popped_is, contains_from_get}
use Rattle.std.proofs.Common.{sym}
use Rattle.link_lists.specs.Lists.{list_at}
use Rattle.link_lists.proofs.links.Links.pop_front.Goals as goal

pub returns-clause-popped : goal.returns-clause-popped
returns-clause-popped g c =
    popped_is c.args.self.now c.unlink.new.self c.args.list c.in_ok-node.node c.in_ok-node.ensures.first c.unlink.ensures.unlinked

pub returns-clause-others : goal.returns-clause-others
returns-clause-others g c =
    λ i other. c.unlink.ensures.others i
    (λ h. other (c.first.ensures.links.apart i c.args.list c.in_ok-node.node h (contains_from_get (list_at c.args.self.now c.args.list) 0 c.in_ok-node.node (sym c.in_ok-node.ensures.first))))
