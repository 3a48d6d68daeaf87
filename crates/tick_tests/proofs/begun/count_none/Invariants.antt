use Rattle.std.proofs.Common.{ℕ, ◌<◌}
use Rattle.kobj_table.specs.Objects.{slot_at}
use Rattle.tick_tests.specs.FirstKernel.{CountsNone}
use Rattle.tick_tests.proofs.begun.count_none.Given as goal

abbrev pub invariant-loop-id : goal.invariant-loop-id
invariant-loop-id l = (i : ℕ) → i < l.id → CountsNone (slot_at l.objects i)
