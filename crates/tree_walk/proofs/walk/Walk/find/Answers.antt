use Rattle.std.proofs.Common.{◌≡◌, ◌∙◌, sym, length, slice_index_or, false, arith, rules}
use Rattle.tree_walk.proofs.Lists.{count_below}
use Rattle.tree_walk.proofs.walk.Walk.find.Goals as goal

pub push-requires : goal.push-requires
push-requires c =
    let is = c.args.self.now.reached.is in
    let whole : length is ≡ 256 = search rules in
    let clear : slice_index_or is c.args.id false ≡ false = sym c.has.ensures ∙ c.if-not-has.true in
    (omega arith, omega (arith, c.args.self.now.once, count_below is c.args.id (omega (arith, whole)) clear))
