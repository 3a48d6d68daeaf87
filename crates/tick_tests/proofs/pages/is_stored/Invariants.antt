use Rattle.std.proofs.Common.{◌≡◌, ◌<◌, ℕ, false}
use Rattle.kobj_table.specs.Objects.{slot_at}
use Rattle.kernel_calls.specs.Needed.{has_fresh}
use Rattle.tick_tests.proofs.pages.is_stored.Given as goal

abbrev pub invariant-loop-id : goal.invariant-loop-id
invariant-loop-id l = (i : ℕ) → i < l.id → has_fresh (slot_at l.objects i) l.page ≡ false
