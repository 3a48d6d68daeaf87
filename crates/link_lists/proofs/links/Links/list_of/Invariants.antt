use Rattle.std.proofs.Common.{length}
use Rattle.link_lists.specs.Rings.{place_after, nodes_from}
use Rattle.link_lists.specs.declared.rings.RingPlace.TheVariants.{Node}
use Rattle.link_lists.proofs.Walk.{Walks}
use Rattle.link_lists.proofs.links.Links.list_of.Given as goal

abbrev pub invariant-loop-next : goal.invariant-loop-next
invariant-loop-next g l = Walks g.row.N l.self l.node l.last

abbrev pub decreases-loop-next : goal.decreases-loop-next
decreases-loop-next g l = length (nodes_from l.rings g.row.N (place_after l.rings (Node l.last)))
