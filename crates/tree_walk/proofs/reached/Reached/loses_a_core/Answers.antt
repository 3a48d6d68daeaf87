use Rattle.std.proofs.Common.{◌≡◌, ◌∙◌, sym, length, arith, rules}
use Rattle.tree_walk.proofs.Cores.{any_lost_at, none_lost_more}
use Rattle.tree_walk.proofs.reached.Reached.loses_a_core.Goals as goal

pub returns-then-is_lost_on : goal.returns-then-is_lost_on
returns-then-is_lost_on c s tells =
    let running = c.args.cores.running in
    let whole : length running ≡ 8 = search rules in
    sym (any_lost_at s c.args.cores.cores c.loop-core.core running (omega arith) (omega (arith, whole)) (sym (c.is_lost_on.ensures s tells) ∙ c.if-is_lost_on.true))

pub loop-core-preserved : goal.loop-core-preserved
loop-core-preserved c s tells =
    none_lost_more s c.loop-core.core c.args.cores.running (c.loop-core.invariant s tells) (sym (c.is_lost_on.ensures s tells) ∙ c.if-is_lost_on.false)
