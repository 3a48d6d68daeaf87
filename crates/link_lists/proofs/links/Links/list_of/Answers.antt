use Rattle.std.proofs.Common.{refl, rules}
use Rattle.std.proofs.lemmas.Bool.{true≢false}
use Rattle.link_lists.proofs.Reading.{shown_stands}
use Rattle.link_lists.proofs.Stands.{list_in_range}
use Rattle.link_lists.proofs.Walk.{walks_on, walk_shorter, walk_found, walk_free}
use Rattle.link_lists.proofs.links.Links.list_of.Goals as goal

pub loop-next-init : goal.loop-next-init
loop-next-init g c = record { below = c.requires; together = λ i h. h; still = λ _. refl }

pub next-requires : goal.next-requires
next-requires g c = (search rules, c.loop-next.invariant.below)

pub loop-next-smaller : goal.loop-next-smaller
loop-next-smaller g c =
    walk_shorter (shown_stands c.self.invariant c.self.view_is) (record { linked = c.in-Some.ensures.next; free = c.in-Some.ensures.free })

pub loop-next-preserved : goal.loop-next-preserved
loop-next-preserved g c =
    walks_on c.next.ensures.links c.loop-next.invariant (record { linked = c.in-Some.ensures.next; free = c.in-Some.ensures.free })

pub at-requires : goal.at-requires
at-requires g c = (search rules, c.loop-next.invariant.below)

pub returns-in-End : goal.returns-in-End
returns-in-End g c =
    let s = shown_stands c.self.invariant c.self.view_is in
    let found = walk_found c.in-End.list s c.loop-next.invariant c.at.ensures c.in-End.is in
    record {
      found = found;
      range = list_in_range s.shape c.in-End.list c.args.node found;
      free = (λ no. absurd (true≢false no), λ free. absurd (free c.in-End.list found));
      links = s.shape;
    }

pub returns-in-Node : goal.returns-in-Node
returns-in-Node g c =
    let s = shown_stands c.self.invariant c.self.view_is in
    let free = walk_free c.in-Node.field-0 s c.loop-next.invariant c.at.ensures c.in-Node.is c.in_default.ensures.next in
    record { found = tt; range = tt; free = (λ _. free, λ _. refl); links = s.shape }
