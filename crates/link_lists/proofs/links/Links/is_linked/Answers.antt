use Rattle.std.proofs.Common.{refl}
use Rattle.std.proofs.lemmas.Bool.{true≢false}
use Rattle.link_lists.proofs.Reading.{shown_stands, answers_linked, linked_from_end}
use Rattle.link_lists.proofs.links.Links.is_linked.Goals as goal

pub returns-in-Node : goal.returns-in-Node
returns-in-Node g c =
    let s = shown_stands c.self.invariant c.self.view_is in
    let a = answers_linked c.args.node c.in-Node.next s c.requires c.at.ensures c.in-Node.is in
    record { linked = a.linked; free = a.free; links = s.shape }

pub returns-in-End : goal.returns-in-End
returns-in-End g c =
    let s = shown_stands c.self.invariant c.self.view_is in
    let linked = linked_from_end c.args.node c.in-End.field-0 s c.requires c.at.ensures c.in-End.is in
    record {
      linked = (λ _. linked, λ _. refl);
      free = (λ no. absurd (true≢false no), λ free. absurd (free linked.0 linked.1));
      links = s.shape;
    }
