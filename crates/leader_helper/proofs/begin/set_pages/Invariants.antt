use Rattle.std.proofs.Common.{◌≡◌, ◌<◌, ℕ}
use Rattle.sls_base.specs.declared.limits.TheConstants.{OBJECTS}
use Rattle.pmem_layout.specs.declared.number.Number.TheVariants.{Object, Page}
use Rattle.pmem_layout.specs.Numbers.{index_of}
use Rattle.alloc_journal.specs.Sets.{has}
use Rattle.call_readings.specs.NumberSets.{uses_page}
use Rattle.leader_helper.proofs.Running.{with_running}
use Rattle.leader_helper.proofs.begin.set_pages.Given as goal

abbrev pub invariant-loop-page : goal.invariant-loop-page
invariant-loop-page l = record {
  set : (page : ℕ) → page < l.page → has l.rooms.numbers.running (index_of (Page page)) ≡ uses_page l.used page;
  objects : (id : ℕ) → id < OBJECTS → has l.rooms.numbers.running (index_of (Object id)) ≡ has l.initial.rooms.numbers.running (index_of (Object id));
  rest : l.rooms ≡ with_running l.initial.rooms l.rooms.numbers.running;
}
