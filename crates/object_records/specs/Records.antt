-- The record of what stands in a slot, and what a record stands for.
use Rattle.std.specs.Prelude.{◌≡◌, ℕ, Bool, true, false, List, [], Contains, Option, Some, None}
use Rattle.std.specs.Option.{option_and_then}
use Rattle.arrayvec.specs.ArrayVec.{ArrayVec}
use Rattle.sls_base.specs.declared.fixed.TheConstants.{SCHEDULER}
use Rattle.link_lists.specs.Lists.{list_at}
use Rattle.mem_space.specs.declared.memory.MemPage.{MemPage}
use Rattle.plain_state.specs.declared.objects.Occupant.{Occupant}
use Rattle.plain_model.specs.Objects.{Object}
use Rattle.plain_model.specs.States.{State}
use Rattle.kobj_table.specs.declared.slot.Slot.{Slot}
use Rattle.kobj_table.specs.declared.slot.Slot.TheVariants as slots
use Rattle.kobj_table.specs.declared.objects.Objects.{Objects}
use Rattle.kobj_table.specs.Slots.{object_of, cores_of, has_list, is_scheduler}
use Rattle.kobj_table.specs.Objects.{slot_at, Rest}
use Rattle.kobj_codec.specs.declared.obj.Obj.{Obj}
use Rattle.kobj_codec.specs.declared.obj.Obj.TheVariants as objs

-- a list as records have it
abbrev pub listed : List ℕ → ArrayVec ℕ
listed ids = record { items = ids }

-- The record of what stands in a slot, where its list has these threads: a connection's clients, a notification's
-- waiters or the run queue. The record of any other object has no list.
abbrev pub record_of : Slot → List ℕ → Option Obj
record_of slots.Empty threads = None
record_of (slots.Group group) threads = Some (objs.Group group)
record_of (slots.Thread thread) threads = Some (objs.Thread thread)
record_of (slots.Space space) threads = Some (objs.Space space)
record_of (slots.Memory memory) threads = Some (objs.Memory memory)
record_of (slots.Connection c) threads =
    Some (objs.Connection (record { server = c.server; client = c.client; clients = listed threads }))
record_of (slots.Notification note) threads =
    Some (objs.Notification (record { count = note.count; waiters = listed threads }))
record_of (slots.Ring ring) threads = Some (objs.Ring ring)
record_of (slots.Scheduler cores) threads =
    Some (objs.Scheduler (record { cores = cores.cores; running = cores.running; queue = listed threads }))

-- The record of the object of a number, with the list of that number. That of the scheduler's number is the run queue.
abbrev pub record_at : Objects → ℕ → Option Obj
record_at o i = record_of (slot_at o i) (list_at o.links i)

-- what stands in the slot of a record's object, and the threads in its list

abbrev pub slot_of : Obj → Slot
slot_of (objs.Group group) = slots.Group group
slot_of (objs.Thread thread) = slots.Thread thread
slot_of (objs.Space space) = slots.Space space
slot_of (objs.Memory memory) = slots.Memory memory
slot_of (objs.Connection c) = slots.Connection (record { server = c.server; client = c.client })
slot_of (objs.Notification note) = slots.Notification (record { count = note.count })
slot_of (objs.Ring ring) = slots.Ring ring
slot_of (objs.Scheduler s) = slots.Scheduler (record { cores = s.cores; running = s.running })

abbrev pub threads_of : Obj → List ℕ
threads_of (objs.Connection c) = c.clients.items
threads_of (objs.Notification note) = note.waiters.items
threads_of (objs.Scheduler s) = s.queue.items
threads_of obj = []

-- the record of such a slot has the slot's list
abbrev pub keeps_list : Slot → Bool
keeps_list (slots.Scheduler cores) = true
keeps_list slot = has_list slot

-- no other slot's list has threads
abbrev pub HasOwnThreads : Slot → List ℕ → Type 0
HasOwnThreads slot threads = keeps_list slot ≡ false → threads ≡ []

-- each list that has threads is that of what stands at its number
abbrev pub HasOwnLists : Objects → Type 0
HasOwnLists o = (i : ℕ) → HasOwnThreads (slot_at o i) (list_at o.links i)

-- What records stand for.

-- the plain object that a record stands for, where each page number stands for some content
abbrev pub object_of_record : (ℕ → ℕ → ℕ) → Obj → Option Object
object_of_record content obj = object_of content (slot_of obj) (threads_of obj)

-- that of a number's record, if it has one
abbrev pub object_in : (ℕ → ℕ → ℕ) → Option Obj → Option Object
object_in content told = option_and_then (object_of_record content) told

-- the threads in the list of a number, and what each core runs, by the record of that number, if it has one

abbrev pub list_in : Option Obj → List ℕ
list_in None = []
list_in (Some obj) = threads_of obj

abbrev pub cores_in : Option Obj → List (Option Occupant)
cores_in None = []
cores_in (Some obj) = cores_of (slot_of obj)

-- a number has the scheduler's record
abbrev pub is_scheduler_in : Option Obj → Bool
is_scheduler_in None = false
is_scheduler_in (Some obj) = is_scheduler (slot_of obj)

-- The state that records by number stand for, with what else there is of a state.
unfoldable pub state_of_records : (ℕ → Option Obj) → Rest → State
state_of_records records rest = record {
  objects = λ i. object_in rest.content (records i);
  queue = list_in (records SCHEDULER);
  cores = cores_in (records SCHEDULER);
  out = rest.out;
  inputs = rest.inputs;
}

-- The bytes of a page are read by a record: it is a page of a memory object, and isn't fresh. A fresh page is zero,
-- whatever its number stands for.

abbrev pub pages_in : Obj → List MemPage
pages_in (objs.Memory memory) = memory.pages.items
pages_in obj = []

abbrev pub ReadsPage : Obj → ℕ → Type 0
ReadsPage obj page = Contains (pages_in obj) (record { page = page; fresh = false })

-- A page number has the same bytes in two contents where a record reads them.
abbrev pub SameBytes : (ℕ → ℕ → ℕ) → (ℕ → ℕ → ℕ) → Obj → Type 0
SameBytes a b obj = (page offset : ℕ) → ReadsPage obj page → b page offset ≡ a page offset
