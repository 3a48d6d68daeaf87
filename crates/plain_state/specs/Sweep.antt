-- Which objects are reached, and what a commit sweeps away.
use Rattle.std.specs.Prelude.{ℕ, zero, suc, ◌==◌, ◌&&◌, ◌||◌, nat_lt, not, Bool, false, if◌then◌else◌, List, map, filter, Option, Some, None, is_some, option_map}
use Rattle.std.specs.List.{list_any}
use Rattle.sls_base.specs.declared.limits.TheConstants.{OBJECTS}
use Rattle.sls_base.specs.declared.fixed.TheConstants.{FIRST_PROGRAM_OBJECT}
use Rattle.sls_base.specs.declared.causes.TheConstants.{LOST_OBJECT}
use Rattle.sls_base.specs.declared.thread.ThreadState.{ThreadState}
use Rattle.sls_base.specs.declared.thread.ThreadState.TheVariants.{Waiting, Calling, Served, Serving, Stopped}
use Rattle.plain_state.specs.declared.objects.Capability.{Capability}
use Rattle.plain_state.specs.declared.objects.Occupant.{Occupant}
use Rattle.plain_state.specs.Objects.{Object, Group, Thread, Space, Connection, Notification, Scheduler, every_object}
use Rattle.plain_state.specs.States.{State}

-- Edges.

abbrev pub is_to : ℕ → Option Capability → Bool
is_to i None = false
is_to i (Some cap) = cap.object == i

-- a group leads to the objects of its slots, a thread to its group and its space, a space to the memory objects of its
-- regions, a connection to its server. Lists of threads, and the client that is served, lead nowhere.
abbrev pub leads_to : Option Object → ℕ → Bool
leads_to (Some (Group slots)) i = list_any (is_to i) slots
leads_to (Some (Thread thread)) i = (thread.group == i) || (thread.space == i)
leads_to (Some (Space regions)) i = list_any (λ region. region.memory == i) regions
leads_to (Some (Connection server client clients)) i = server == i
leads_to _ i = false

-- Reached is the least set that has the objects which are always there, and is closed under the edges: an object is in it
-- that a path leads to from one of those, and then one of at most as many edges as there are objects.

-- a path of at most n edges leads to it
unfoldable pub is_within : State → ℕ → ℕ → Bool
is_within s zero i = nat_lt i FIRST_PROGRAM_OBJECT
is_within s (suc n) i = is_within s n i
    || list_any (λ from. is_within s n from && leads_to (s.objects from) i) every_object

unfoldable pub is_reached : State → ℕ → Bool
is_reached s i = is_within s OBJECTS i

-- What is left of an object that is reached.

-- what a thread waits on, calls, is served by or serves
abbrev pub waits_for : ThreadState → Option ℕ
waits_for (Waiting id) = Some id
waits_for (Calling id) = Some id
waits_for (Served id) = Some id
waits_for (Serving id) = Some id
waits_for _ = None

abbrev pub is_lost : State → Option ℕ → Bool
is_lost s None = false
is_lost s (Some id) = not (is_reached s id)

-- a thread stops where that has vanished
abbrev pub settled_state : State → ThreadState → ThreadState
settled_state s state = if is_lost s (waits_for state) then Stopped LOST_OBJECT else state

abbrev pub kept : State → Option ℕ → Option ℕ
kept s id = if is_lost s id then None else id

-- an object without the threads that have vanished, and a thread stopped that waited for what has vanished
abbrev pub settled : State → Object → Object
settled s (Thread thread) =
    Thread (record {
      group = thread.group;
      space = thread.space;
      state = settled_state s thread.state;
      pc = thread.pc;
      x = thread.x;
    })
settled s (Connection server client clients) = Connection server (kept s client) (filter (is_reached s) clients)
settled s (Notification count waiters) = Notification count (filter (is_reached s) waiters)
settled s other = other

abbrev pub thread_on : Option Occupant → Option ℕ
thread_on core = option_map (λ occupant. occupant.thread) core

abbrev pub kept_on_core : State → Option Occupant → Option Occupant
kept_on_core s core = if is_lost s (thread_on core) then None else core

-- The state without the objects that aren't reached.
abbrev pub swept : State → State
swept s = record s {
  objects = λ i. if is_reached s i then option_map (settled s) (s.objects i) else None;
  queue = filter (is_reached s) s.queue;
  cores = map (kept_on_core s) s.cores;
}

-- Whether the sweep makes an object another.

abbrev pub loses_any : State → List ℕ → Bool
loses_any s ids = list_any (λ id. not (is_reached s id)) ids

-- one that is reached: it loses a thread, or what it waits for
abbrev pub is_settled_otherwise : State → Option Object → Bool
is_settled_otherwise s (Some (Thread thread)) = is_lost s (waits_for thread.state)
is_settled_otherwise s (Some (Connection server client clients)) = is_lost s client || loses_any s clients
is_settled_otherwise s (Some (Notification count waiters)) = loses_any s waiters
is_settled_otherwise s (Some Scheduler) = loses_any s s.queue || list_any (λ core. is_lost s (thread_on core)) s.cores
is_settled_otherwise s _ = false

-- or takes it away
abbrev pub is_swept_otherwise : State → ℕ → Bool
is_swept_otherwise s i = if is_reached s i then is_settled_otherwise s (s.objects i) else is_some (s.objects i)
