use Rattle.link_lists.proofs.Emptied.{empties}
use Rattle.link_lists.proofs.links.Links.new.Goals as goal

pub invariant_of-result : goal.invariant_of-result
invariant_of-result g c = (empties c.new.result c.new.ensures).stands

pub returns : goal.returns
returns g c = let e = empties c.new.result c.new.ensures in record { empty = e.empty; links = e.stands.shape }
