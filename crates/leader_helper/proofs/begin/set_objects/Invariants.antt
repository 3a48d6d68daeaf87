use Rattle.std.proofs.Common.{◌≡◌, ◌<◌, ℕ}
use Rattle.pmem_layout.specs.declared.number.Number.TheVariants.{Object}
use Rattle.pmem_layout.specs.Numbers.{index_of}
use Rattle.alloc_journal.specs.Sets.{has}
use Rattle.call_readings.specs.NumberSets.{uses_object}
use Rattle.leader_helper.proofs.Running.{with_running}
use Rattle.leader_helper.proofs.begin.set_objects.Given as goal

abbrev pub invariant-loop-id : goal.invariant-loop-id
invariant-loop-id l = record {
  set : (id : ℕ) → id < l.id → has l.rooms.numbers.running (index_of (Object id)) ≡ uses_object l.used id;
  rest : l.rooms ≡ with_running l.initial.rooms l.rooms.numbers.running;
}
