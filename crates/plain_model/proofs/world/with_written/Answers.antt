use Rattle.std.proofs.Common.{◌==◌, ℕ, ap, ◌∙◌}
use Rattle.std.specs.Prelude.{◌||◌}
use Rattle.plain_state.specs.declared.effect.ByteStore.{ByteStore}
use Rattle.plain_model.specs.SlowWorld.{is_in}
use Rattle.plain_model.proofs.SlowWorlds.{more_in_at, no_store}
use Rattle.plain_model.proofs.world.with_written.Goals as goal

pub loop-store-preserved : goal.loop-store-preserved
loop-store-preserved c = λ n.
    more_in_at (λ (store : ByteStore). store.place.memory == n) c.args.stores.now c.loop-store.store-index no_store _ _ _ c.loop-store-test.true
    (c.loop-store.invariant n) (c.in_ok-with_number.ensures n ∙ ap (λ (k : ℕ). is_in c.loop-store.numbers.items n || (k == n)) c.from.ensures)
