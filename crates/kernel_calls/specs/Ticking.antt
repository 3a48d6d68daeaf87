-- How a thread is taken from a core or from the run queue, and put down again.
use Rattle.std.specs.Prelude.{◌≡◌, ◌≢◌, ℕ, ◌++◌, Some, slice_set}
use Rattle.sls_base.specs.declared.fixed.TheConstants.{SCHEDULER}
use Rattle.sls_base.specs.declared.thread.Thread.{Thread as ThreadRecord}
use Rattle.link_lists.specs.Lists.{list_at}
use Rattle.ipc_note.specs.declared.lists.TheConstants.{RUN_QUEUE}
use Rattle.kobj_table.specs.declared.objects.Objects.{Objects}
use Rattle.kobj_table.specs.declared.slot.Slot.{Slot}
use Rattle.kobj_table.specs.Slots.{cores_of, is_scheduler}
use Rattle.kobj_table.specs.Objects.{Rest, slot_at, state_of}
use Rattle.plain_state.specs.Ticks.{chosen, at_slice_end, state_after, on_core, at_back}
use Rattle.kernel_calls.specs.declared.done.Done.{Done}

-- A thread was taken: it is the one that the plain machine chooses, and the queue is what that leaves. Nothing else has
-- changed.
pub record Takes (old new : Objects) (core id slice : ℕ) : Type 0 where
  pub chosen_is : (rest : Rest) → chosen (state_of old rest) core
      ≡ Some (record { occupant = record { thread = id; slice = slice }; queue = list_at new.links RUN_QUEUE })
  pub slots : new.slots ≡ old.slots
  pub lists : (i : ℕ) → i ≢ RUN_QUEUE → list_at new.links i ≡ list_at old.links i

-- It was put down, with so much left of its slice: on its core, at the queue's back, or in neither.
pub record Settles (old new : Objects) (core id left : ℕ) (thread : ThreadRecord) (done : Done) : Type 0 where
  pub there : slot_at new id ≡ Slot.Thread (record {
    group = thread.group;
    space = thread.space;
    state = state_after core (at_slice_end left done.goes);
    pc = done.regs.pc;
    x = done.regs.x;
  })
  pub others : (i : ℕ) → i ≢ id → i ≢ SCHEDULER → slot_at new i ≡ slot_at old i
  pub cores : cores_of (slot_at new SCHEDULER)
      ≡ slice_set (cores_of (slot_at old SCHEDULER)) core (on_core id left (at_slice_end left done.goes))
  pub scheduler : is_scheduler (slot_at new SCHEDULER) ≡ is_scheduler (slot_at old SCHEDULER)
  pub queue : list_at new.links RUN_QUEUE ≡ list_at old.links RUN_QUEUE ++ at_back id (at_slice_end left done.goes)
  pub lists : (i : ℕ) → i ≢ RUN_QUEUE → list_at new.links i ≡ list_at old.links i
