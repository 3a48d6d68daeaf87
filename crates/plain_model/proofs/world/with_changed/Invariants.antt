use Rattle.std.proofs.Common.{◌≡◌, ℕ, ◌==◌, take}
use Rattle.std.specs.Prelude.{◌||◌}
use Rattle.std.specs.List.{list_any}
use Rattle.plain_model.specs.SlowWorld.{is_in}
use Rattle.plain_model.proofs.world.with_changed.Given as goal

abbrev pub invariant-loop-change : goal.invariant-loop-change
invariant-loop-change l = (n : ℕ) → is_in l.numbers.items n ≡ (is_in l.initial.numbers.items n || list_any (λ change. change.id == n) (take l.change-index l.changes))
