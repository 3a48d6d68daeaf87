use Rattle.std.proofs.Common.{rules}
use Rattle.link_lists.proofs.Unlinked.{unlinks, sides_are_places, linked_below}
use Rattle.link_lists.proofs.links.Links.unlink.Goals as goal

pub at-before-requires : goal.at-before-requires
at-before-requires g c = (search rules, linked_below c.args.node c.self.invariant c.self.view_is c.requires)

pub join-requires : goal.join-requires
join-requires g c =
    let sides = sides_are_places c.args.node c.self.invariant c.self.view_is c.requires c.at-before.ensures in
    (search rules, (sides.before, sides.after))

pub join-requires-2 : goal.join-requires-2
join-requires-2 g c =
    let below = linked_below c.args.node c.self.invariant c.self.view_is c.requires in
    (search rules, (below, below))

pub invariant_of-self : goal.invariant_of-self
invariant_of-self g c =
    (unlinks c.args.node c.self.invariant c.self.view_is c.requires c.at-before.ensures c.join.ensures c.join-2.ensures).stands

pub returns : goal.returns
returns g c =
    let u = unlinks c.args.node c.self.invariant c.self.view_is c.requires c.at-before.ensures c.join.ensures c.join-2.ensures in
    record { rest = u.rest; unlinked = u.unlinked; others = u.others; freed = u.freed; kept = u.kept; links = u.stands.shape }
