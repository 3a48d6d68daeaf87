use Rattle.std.proofs.Common.{◌==◌, ℕ, ap, ◌∙◌}
use Rattle.std.specs.Prelude.{◌||◌}
use Rattle.plain_state.specs.declared.slow_effect.Change.{Change}
use Rattle.plain_model.specs.SlowWorld.{is_in}
use Rattle.plain_model.proofs.SlowWorlds.{more_in}
use Rattle.plain_model.proofs.world.with_changed.Goals as goal

pub loop-change-preserved : goal.loop-change-preserved
loop-change-preserved c = λ n.
    more_in (λ (change : Change). change.id == n) c.args.changes.now c.loop-change.change-index c.change-item.result _ _ _ c.loop-change-test.true c.change-item.is
    (c.loop-change.invariant n) (c.in_ok-with_number.ensures n ∙ ap (λ (k : ℕ). is_in c.loop-change.numbers.items n || (k == n)) c.from.ensures)
