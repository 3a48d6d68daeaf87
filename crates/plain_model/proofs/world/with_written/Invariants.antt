use Rattle.std.proofs.Common.{◌≡◌, ℕ, ◌==◌, take}
use Rattle.std.specs.Prelude.{◌||◌}
use Rattle.std.specs.List.{list_any}
use Rattle.plain_model.specs.SlowWorld.{is_in}
use Rattle.plain_model.proofs.world.with_written.Given as goal

abbrev pub invariant-loop-store : goal.invariant-loop-store
invariant-loop-store l = (n : ℕ) → is_in l.numbers.items n ≡ (is_in l.initial.numbers.items n || list_any (λ store. store.place.memory == n) (take l.store-index l.stores))
