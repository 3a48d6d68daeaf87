-- What the kernel is when a thread has done its instruction and was put down.
use Rattle.std.specs.Prelude.{◌≡◌, ℕ, ◌-◌, true}
use Rattle.std.proofs.Common.{refl}
use Rattle.sls_base.specs.declared.fixed.TheConstants.{SCHEDULER}
use Rattle.sls_base.specs.declared.thread.Thread.{Thread as ThreadRecord}
use Rattle.ipc_note.specs.declared.lists.TheConstants.{RUN_QUEUE}
use Rattle.link_lists.specs.Lists.{list_at}
use Rattle.pmem_model.specs.Memory.{Memory}
use Rattle.plain_state.specs.States.{thread_at}
use Rattle.plain_state.specs.Worlds.{World}
use Rattle.plain_state.specs.Effects.{Effect}
use Rattle.plain_state.specs.Ticks.{state_of_effect}
use Rattle.kobj_table.specs.declared.slot.Slot.{Slot}
use Rattle.kobj_table.specs.Slots.{is_scheduler}
use Rattle.kobj_table.specs.Objects.{Rest, slot_at, state_of}
use Rattle.call_readings.specs.Kernel.{world_of, CountsEntries}
use Rattle.kernel_calls.specs.declared.runtime.Runtime.{Runtime}
use Rattle.kernel_calls.specs.declared.done.Done.{Done}
use Rattle.kernel_calls.specs.Does.{Obeys}
use Rattle.kernel_calls.specs.Ticking.{Settles}
use Rattle.kernel_calls.specs.Instructions.{IsNow}
use Rattle.kernel_calls.proofs.Entries.{entries_kept, settled_rings}
use Rattle.kernel_calls.proofs.Ticks.{ticked, settled_counted}

module _ (k m n : Runtime) (rest after : Rest) (memory : Memory) (w : World) (e : Effect) (done : Done) (obeys : Obeys k m rest after memory w e done) where
  pub scheduler_obeyed : is_scheduler (slot_at k.objects SCHEDULER) ≡ true → is_scheduler (slot_at m.objects SCHEDULER) ≡ true
  scheduler_obeyed scheduler = rw obeys.scheduler scheduler

  module _ (core id slice : ℕ) (before : ThreadRecord) (there : slot_at m.objects id ≡ Slot.Thread before)
      (settles : Settles m.objects n.objects core id (slice - 1) (thread_at (state_of k.objects rest) id) done) (scheduler : is_scheduler (slot_at k.objects SCHEDULER) ≡ true) where
    rings_settled : (i : ℕ) → CountsEntries (slot_at n.objects i) (world_of n.objects after w)
    unfolding world_of state_of
    rings_settled = settled_rings m.objects n.objects core id (slice - 1) _ done (world_of n.objects after w) settles (scheduler_obeyed scheduler)
        (λ i. entries_kept (slot_at m.objects i) (world_of n.objects after w) (world_of m.objects after w) (λ channel. refl) (obeys.rings i))

    pub now_settled : n.numbers ≡ m.numbers → IsNow n memory after w
        (state_of_effect (state_of k.objects rest) core (record { occupant = record { thread = id; slice = slice }; queue = list_at k.objects.links RUN_QUEUE }) e)
    now_settled numbers = record {
      state = ticked k m n.objects rest after memory w core id slice e done obeys settles scheduler;
      counted = rw numbers (settled_counted m.numbers m.objects n.objects after w core id (slice - 1) _ before done settles there (scheduler_obeyed scheduler) obeys.counted);
      rings = rings_settled;
      content = obeys.content;
      entries = obeys.entries;
    }
