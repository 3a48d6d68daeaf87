use Rattle.std.proofs.Common.{ℕ, List, ap, sym, ◌∙◌}
use Rattle.std.specs.Prelude.{Option, slice_set}
use Rattle.tree_walk.proofs.Cores.{left_on_first, left_on_more}
use Rattle.tree_walk.proofs.reached.Reached.left_cores.Goals as goal

pub loop-core-preserved : goal.loop-core-preserved
loop-core-preserved c =
    let core = c.loop-core.core in
    let running = c.args.cores.running in
    record {
      count = c.loop-core.invariant.count;
      swept = λ s tells.
          ap (λ (l : List (Option (ℕ × ℕ))). slice_set l core c.left_on.result) (c.loop-core.invariant.swept s tells)
          ∙ (ap (λ (r : Option (ℕ × ℕ)). slice_set (left_on_first s core running) core r) (c.left_on.ensures s tells)
          ∙ sym (left_on_more s core running));
    }
