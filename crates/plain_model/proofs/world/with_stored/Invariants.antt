use Rattle.std.proofs.Common.{◌≡◌, ℕ, ◌==◌, take}
use Rattle.std.specs.Prelude.{◌||◌}
use Rattle.std.specs.List.{list_any}
use Rattle.plain_state.specs.Memory.{page_at}
use Rattle.plain_state.specs.Slow.{state_of}
use Rattle.plain_model.specs.SlowWorld.{is_in}
use Rattle.plain_model.proofs.world.with_stored.Given as goal

abbrev pub invariant-loop-store : goal.invariant-loop-store
invariant-loop-store l =
    (n : ℕ) → is_in l.numbers.items n ≡ (is_in l.initial.numbers.items n || list_any (λ store. (page_at (state_of l.state).objects store.place).number == n) (take l.store-index l.stores))
