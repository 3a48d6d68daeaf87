use Rattle.std.proofs.Common.{rules}
use Rattle.link_lists.proofs.Places.{alone_nodes}
use Rattle.link_lists.proofs.rings.Rings.new.Goals as goal

pub returns : goal.returns
returns g c = alone_nodes _ (λ n d h. let one = c.from_fn.ensures.items.at n d h in search rules) (λ i d h. let one = c.from_fn-2.ensures.items.at i d h in search rules)
