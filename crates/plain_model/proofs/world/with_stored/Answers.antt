use Rattle.std.proofs.Common.{◌==◌, ℕ, ap, ◌∙◌}
use Rattle.std.specs.Prelude.{◌||◌}
use Rattle.plain_state.specs.declared.effect.ByteStore.{ByteStore}
use Rattle.plain_state.specs.Memory.{page_at}
use Rattle.plain_state.specs.Slow.{state_of}
use Rattle.plain_model.specs.SlowWorld.{is_in}
use Rattle.plain_model.proofs.SlowWorlds.{more_in_at, no_store}
use Rattle.plain_model.proofs.world.with_stored.Goals as goal

pub loop-store-preserved : goal.loop-store-preserved
loop-store-preserved c = λ n.
    more_in_at (λ (store : ByteStore). (page_at (state_of c.args.state.now).objects store.place).number == n) c.args.stores.now c.loop-store.store-index no_store _ _ _ c.loop-store-test.true
    (c.loop-store.invariant n) (c.in_ok-with_number.ensures n ∙ ap (λ (k : ℕ). is_in c.loop-store.numbers.items n || (k == n)) c.page_number_at.ensures)
