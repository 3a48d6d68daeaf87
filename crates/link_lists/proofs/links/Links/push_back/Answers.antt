use Rattle.std.proofs.Common.{rules}
use Rattle.link_lists.proofs.Pushed.{pushes}
use Rattle.link_lists.proofs.Stands.{place_before_end}
use Rattle.link_lists.proofs.links.Links.push_back.Goals as goal

pub join-requires : goal.join-requires
join-requires g c =
    (search rules, (place_before_end c.args.list c.self.invariant c.requires.list c.at-last.ensures, c.requires.node))

pub invariant_of-self : goal.invariant_of-self
invariant_of-self g c =
    (pushes c.args.list c.args.node c.self.invariant c.self.view_is c.requires.list c.requires.node c.requires.free c.at-last.ensures c.join.ensures c.join-2.ensures).stands

pub returns : goal.returns
returns g c =
    let p = pushes c.args.list c.args.node c.self.invariant c.self.view_is c.requires.list c.requires.node c.requires.free c.at-last.ensures c.join.ensures c.join-2.ensures in
    record { pushed = p.pushed_at; others = p.others; kept = p.kept; links = p.stands.shape }
