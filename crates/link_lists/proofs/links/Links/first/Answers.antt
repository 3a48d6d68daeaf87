use Rattle.std.proofs.Common.{ap, sym, slice_get}
use Rattle.link_lists.proofs.Reading.{shown_stands, first_is, first_below, none_is}
use Rattle.link_lists.proofs.links.Links.first.Goals as goal

pub returns-in-Node-clause-first : goal.returns-in-Node-clause-first
returns-in-Node-clause-first g c =
    first_is c.args.list c.in-Node.node (shown_stands c.self.invariant c.self.view_is) c.requires c.at.ensures c.in-Node.is

pub returns-in-Node-clause-range : goal.returns-in-Node-clause-range
returns-in-Node-clause-range g c =
    first_below c.args.list c.in-Node.node (shown_stands c.self.invariant c.self.view_is) c.requires c.at.ensures c.in-Node.is

pub returns-in-End-clause-first : goal.returns-in-End-clause-first
returns-in-End-clause-first g c =
    sym (ap (λ l. slice_get l 0) (none_is c.args.list c.in-End.field-0 (shown_stands c.self.invariant c.self.view_is) c.requires c.at.ensures c.in-End.is))
