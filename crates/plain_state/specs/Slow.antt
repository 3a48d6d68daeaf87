-- What the values of the slow form mean.
use Rattle.std.specs.Prelude.{ℕ, All, ◌==◌, List, map, filter, Option, None, option_map, slice_index, slice_index_or}
use Rattle.plain_state.specs.declared.page.Page.{Page as SlowPage}
use Rattle.plain_state.specs.declared.object.Object.{Object as SlowObject}
use Rattle.plain_state.specs.declared.object.Object.TheVariants.{Group as SlowGroup, Thread as SlowThread, Space as SlowSpace, Memory as SlowMemory, Connection as SlowConnection, Notification as SlowNotification, OutputRing as SlowOutputRing, InputRing as SlowInputRing, Scheduler as SlowScheduler}
use Rattle.plain_state.specs.declared.effect.Output.{Output}
use Rattle.plain_state.specs.declared.slow_effect.Effect.{Effect as SlowEffect}
use Rattle.plain_state.specs.declared.slow_effect.Change.{Change as SlowChange}
use Rattle.plain_state.specs.declared.state.State.{State as SlowState}
use Rattle.plain_state.specs.declared.state.Waiting.{Waiting as SlowInput}
use Rattle.plain_state.specs.Objects.{Page, Object, Group, Thread, Space, Memory, Connection, Notification, OutputRing, InputRing, Scheduler}
use Rattle.plain_state.specs.States.{State}
use Rattle.plain_state.specs.Effects.{Effect, Change}
use Rattle.plain_state.specs.InPages.{StoresInPage}

abbrev pub page_of : SlowPage → Page
page_of page = record { number = page.number; byte = slice_index page.bytes.items }

abbrev pub object_of : SlowObject → Object
object_of (SlowGroup slots) = Group slots.items
object_of (SlowThread thread) = Thread thread
object_of (SlowSpace regions) = Space regions.items
object_of (SlowMemory pages) = Memory (map page_of pages.items)
object_of (SlowConnection server client clients) = Connection server client clients.items
object_of (SlowNotification count waiters) = Notification count waiters.items
object_of (SlowOutputRing channel) = OutputRing channel
object_of SlowInputRing = InputRing
object_of SlowScheduler = Scheduler

abbrev pub slot_of : Option SlowObject → Option Object
slot_of object = option_map object_of object

-- the objects by number
abbrev pub objects_of : List (Option SlowObject) → ℕ → Option Object
objects_of objects i = slice_index_or (map slot_of objects) i None

-- the entries that were put on a channel, in order
abbrev pub entries_of : List Output → ℕ → List (List ℕ)
entries_of outputs channel = map (λ output. output.bytes.items) (filter (λ output. output.channel == channel) outputs)

abbrev pub inputs_of : List SlowInput → List (List ℕ)
inputs_of inputs = map (λ input. input.bytes.items) inputs

unfoldable pub state_of : SlowState → State
state_of s = record {
  objects = objects_of s.objects.items;
  queue = s.queue.items;
  cores = s.cores.items;
  out = entries_of s.out.items;
  inputs = inputs_of s.inputs.items;
}

abbrev pub change_of : SlowChange → Change
change_of change = record { id = change.id; object = object_of change.object }

unfoldable pub effect_of : SlowEffect → Effect
effect_of e = record {
  regs = e.regs;
  goes = e.goes;
  loads = e.loads.items;
  stores = e.stores.items;
  changes = map change_of e.changes.items;
  wakes = e.wakes.items;
  output = e.output;
  takes = e.takes;
  wishes = e.wishes;
}

-- each byte that it stores is within its page
abbrev pub StoresInPages : SlowEffect → Type 0
StoresInPages e = All StoresInPage e.stores.items
