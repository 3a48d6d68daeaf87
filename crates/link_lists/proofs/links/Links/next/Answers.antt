use Rattle.std.proofs.Common.{refl}
use Rattle.link_lists.proofs.Reading.{shown_stands, answers_next, next_is_none}
use Rattle.link_lists.proofs.links.Links.next.Goals as goal

pub returns-in-Node : goal.returns-in-Node
returns-in-Node g c =
    let s = shown_stands c.self.invariant c.self.view_is in
    let a = answers_next c.args.node c.in-Node.next c.then_some.result s c.requires c.at.ensures c.in-Node.is c.then_some.ensures in
    record { next = a.next; range = a.range; free = a.free; links = s.shape }

pub returns-in-End : goal.returns-in-End
returns-in-End g c =
    let s = shown_stands c.self.invariant c.self.view_is in
    record { next = next_is_none c.args.node c.in-End.field-0 s c.at.ensures c.in-End.is; range = tt; free = λ _. refl; links = s.shape }
