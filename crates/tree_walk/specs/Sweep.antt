-- What the sweep leaves in the table.
use Rattle.std.specs.Prelude.{ℕ, ◌==◌, if◌then◌else◌, List, [], ◌++◌, map, filter, take, drop, Option, None, option_map}
use Rattle.sls_base.specs.declared.fixed.TheConstants.{SCHEDULER}
use Rattle.link_lists.specs.Lists.{list_at}
use Rattle.plain_model.specs.States.{State}
use Rattle.plain_model.specs.Sweep.{is_reached, is_lost, kept, settled_state, thread_on}
use Rattle.kobj_table.specs.declared.slot.Cores.{Cores}
use Rattle.kobj_table.specs.declared.slot.Slot.{Slot}
use Rattle.kobj_table.specs.declared.slot.Slot.TheVariants as slots
use Rattle.kobj_table.specs.declared.objects.Objects.{Objects}
use Rattle.kobj_table.specs.Slots.{occupant_of}
use Rattle.kobj_table.specs.Objects.{slot_at}

-- what a core runs, unless that has vanished
abbrev pub left_on : State → Option (ℕ × ℕ) → Option (ℕ × ℕ)
left_on s running = if is_lost s (thread_on (option_map occupant_of running)) then None else running

-- so it is of each core that there is
abbrev pub left_cores : State → Cores → Cores
left_cores s cores = record {
  cores = cores.cores;
  running = map (left_on s) (take cores.cores cores.running) ++ drop cores.cores cores.running;
}

-- What is left in the slot of a number that is reached: a thread stops where what it waits for has vanished, a
-- connection loses a client that has vanished, and the scheduler the threads that have vanished from cores.
abbrev pub left_in : State → ℕ → Slot → Slot
left_in s i (slots.Thread thread) =
    slots.Thread (record {
      group = thread.group;
      space = thread.space;
      state = settled_state s thread.state;
      pc = thread.pc;
      x = thread.x;
    })
left_in s i (slots.Connection c) = slots.Connection (record { server = c.server; client = kept s c.client })
left_in s i (slots.Scheduler cores) = slots.Scheduler (if i == SCHEDULER then left_cores s cores else cores)
left_in s i slot = slot

-- what is left at a number, and of its list: nothing where it isn't reached

abbrev pub left_at : State → Objects → ℕ → Slot
left_at s o i = if is_reached s i then left_in s i (slot_at o i) else slots.Empty

abbrev pub threads_left : State → Objects → ℕ → List ℕ
threads_left s o i = if is_reached s i then filter (is_reached s) (list_at o.links i) else []
