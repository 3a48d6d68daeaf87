use Rattle.std.proofs.Common.{◌≡◌, [], ◌++◌, subst, sym, refl, rules}
use Rattle.std.proofs.lemmas.List.{append-nil}
use Rattle.link_lists.specs.Lists.{list_at}
use Rattle.link_lists.proofs.Moved.{moves}
use Rattle.link_lists.proofs.Reading.{shown_stands, none_is}
use Rattle.link_lists.proofs.Stands.{place_before_end, place_after_end}
use Rattle.link_lists.proofs.links.Links.move_all.Goals as goal

pub join-requires : goal.join-requires
join-requires g c = (
  search rules,
  (place_before_end c.args.to c.self.invariant c.requires.to c.at-behind.ensures, place_after_end c.args.from c.self.invariant c.requires.from c.at-last.ensures),
)

pub join-requires-in-Node : goal.join-requires-in-Node
join-requires-in-Node g c =
    (search rules, (place_before_end c.args.from c.self.invariant c.requires.from c.at-last.ensures, c.requires.to))

pub invariant_of-self : goal.invariant_of-self
invariant_of-self g c =
    (moves c.args.from c.args.to c.in-Node.field-0 c.self.invariant c.self.view_is c.requires.from c.requires.to c.requires.different c.at-last.ensures c.in-Node.is c.at-behind.ensures c.join.ensures c.join-in-Node.ensures c.join-in-Node-2.ensures).stands

pub returns-in-Node : goal.returns-in-Node
returns-in-Node g c =
    let m = moves c.args.from c.args.to c.in-Node.field-0 c.self.invariant c.self.view_is c.requires.from c.requires.to c.requires.different c.at-last.ensures c.in-Node.is c.at-behind.ensures c.join.ensures c.join-in-Node.ensures c.join-in-Node-2.ensures in
    record { moved = m.moved_at; emptied = m.emptied; others = m.others; kept = m.kept; links = m.stands.shape }

pub returns-in_default : goal.returns-in_default
returns-in_default g c =
    let s = shown_stands c.self.invariant c.self.view_is in
    let none : list_at c.args.self.now c.args.from ≡ [] =
    none_is c.args.from c.in_default.field-0 s c.requires.from c.at-last.ensures c.in_default.is in
    record {
      moved = subst (λ l. list_at c.args.self.now c.args.to ≡ list_at c.args.self.now c.args.to ++ l) (sym none) (sym (append-nil (list_at c.args.self.now c.args.to)));
      emptied = none;
      others = λ i _ _. refl;
      kept = λ n. (λ h. h, λ h. h);
      links = s.shape;
    }
