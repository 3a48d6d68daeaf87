-- What a call does that isn't refused. Where an object is of no kind that the call wants, an equation is there to be whole: such a
-- call is refused.
use Rattle.std.specs.Prelude.{ℕ, ◌+◌, ◌-◌, ◌/◌, ◌==◌, not, min, Bool, true, false, if◌then◌else◌, List, [], ◌∷◌, ◌++◌, length, map, filter, take, Option, Some, None, unwrap_or, slice_set, slice_index_or}
use Rattle.sls_base.specs.declared.limits.TheConstants.{PAGE_BYTES}
use Rattle.sls_base.specs.declared.rights.TheConstants.{READ, WRITE, ALL_RIGHTS}
use Rattle.sls_base.specs.declared.causes.TheConstants.{HALTED}
use Rattle.sls_base.specs.declared.thread.Thread.{Thread as ThreadRecord}
use Rattle.sls_base.specs.declared.thread.ThreadState.{ThreadState}
use Rattle.sls_base.specs.declared.thread.ThreadState.TheVariants.{Ready, Waiting, Calling, Served, Serving}
use Rattle.plain_state.specs.declared.objects.Capability.{Capability}
use Rattle.plain_state.specs.declared.objects.Region.{Region}
use Rattle.plain_state.specs.declared.effect.Goes.TheVariants.{Back}
use Rattle.plain_state.specs.declared.calls.TheConstants.{ANSWER}
use Rattle.plain_state.specs.declared.calls.Call.{Call}
use Rattle.plain_state.specs.declared.calls.Call.TheVariants.{Yield, Halt, Put, Get, MemNew, Map, Unmap, SpaceNew, GroupNew, CapCopy, CapDrop, ThreadNew, NoteNew, Signal, Wait, ConnNew, ConnCall, Serve, Checkpoint}
use Rattle.plain_state.specs.declared.calls.Refusal.{Refusal}
use Rattle.plain_state.specs.declared.calls.Refusal.TheVariants.{BadCall}
use Rattle.plain_state.specs.Objects.{Object, Group, Thread, Space, Connection, Notification, OutputRing, slots_of, regions_of, new_memory, new_group, inserted}
use Rattle.plain_state.specs.States.{State, thread_at, zero_registers}
use Rattle.plain_state.specs.Memory.{places_of, stores_at, byte_at}
use Rattle.plain_state.specs.Worlds.{World, free_objects, free_pages}
use Rattle.plain_state.specs.Effects.{Effect, Change, goes_on, stops, answers, waits, next_pc}
use Rattle.plain_state.specs.Calls.{arg, id_named, named, free_slot, call_named}
use Rattle.plain_state.specs.CallRefusals.{refusal_of, pages_wanted}
use Rattle.plain_state.specs.Refusals.{refusal_number}

abbrev pub change : ℕ → Object → Change
change id object = record { id = id; object = object }

-- a call is answered and makes changes
abbrev pub answers_with : ThreadRecord → ℕ → List Change → Effect
answers_with thread answer changes = record (answers thread answer) { changes = changes }

-- Other threads.

-- a thread in another state and with other registers
abbrev pub thread_with : ThreadRecord → ThreadState → List ℕ → Object
thread_with thread state x =
    Thread (record { group = thread.group; space = thread.space; state = state; pc = thread.pc; x = x })

-- the registers with 0 for an answer, and two values in the registers after it
abbrev pub handed : List ℕ → ℕ → ℕ → List ℕ
handed x a b = slice_set (slice_set (slice_set x ANSWER 0) (ANSWER + 1) a) (ANSWER + 2) b

-- a thread that waited becomes Ready with these registers
abbrev pub ready_with : State → ℕ → List ℕ → Change
ready_with s id x = change id (thread_with (thread_at s id) Ready x)

-- Calls that make an object: a capability with all rights comes into the lowest free slot of the caller's own group, and that
-- slot is the answer.

abbrev pub new_id : World → ℕ
new_id w = slice_index_or (free_objects w) 0 0

abbrev pub own_slots : World → ThreadRecord → List (Option Capability)
own_slots w thread = slots_of (w.now.objects thread.group)

-- a group's slots with a capability in the lowest free one
abbrev pub with_cap : List (Option Capability) → Capability → Object
with_cap slots cap = Group (slice_set slots (unwrap_or (free_slot slots) 0) (Some cap))

abbrev pub makes : World → ThreadRecord → Object → Effect
makes w thread object =
    answers_with thread (unwrap_or (free_slot (own_slots w thread)) 0)
    (change (new_id w) object
    ∷ change thread.group (with_cap (own_slots w thread) (record { object = new_id w; rights = ALL_RIGHTS })) ∷ [])

-- Rings.

abbrev pub channel_of : Option Object → ℕ
channel_of (Some (OutputRing channel)) = channel
channel_of _ = 0

abbrev pub put_effect : State → ThreadRecord → Effect
put_effect s thread =
    let places = places_of (regions_of (s.objects thread.space)) READ (arg thread 1) (arg thread 2) in
    record (answers thread 0) {
      loads = places;
      output = Some (record {
        channel = channel_of (named s thread 0);
        bytes = record { items = map (byte_at s.objects) places };
      });
    }

-- the first input's bytes, as far as there is room for them; the answer is its whole length
abbrev pub get_effect : State → ThreadRecord → Effect
get_effect s thread =
    let input = slice_index_or s.inputs 0 [] in
    let count = min (length input) (arg thread 2) in
    record (answers thread (length input)) {
      stores = stores_at (places_of (regions_of (s.objects thread.space)) WRITE (arg thread 1) count)
          (take count input);
      takes = true;
    }

-- Spaces.

-- the region that map makes
abbrev pub new_region : State → ThreadRecord → Region
new_region s thread = record {
  base = arg thread 2 / PAGE_BYTES;
  count = arg thread 4;
  first = arg thread 3;
  memory = id_named s thread 1;
  rights = arg thread 5;
}

abbrev pub map_effect : State → ThreadRecord → Effect
map_effect s thread =
    answers_with thread 0 (change (id_named s thread 0)
    (Space (inserted (new_region s thread) (regions_of (named s thread 0)))) ∷ [])

abbrev pub unmap_effect : State → ThreadRecord → Effect
unmap_effect s thread =
    let left = filter (λ region. not (region.base == arg thread 1 / PAGE_BYTES)) (regions_of (named s thread 0)) in
    answers_with thread 0 (change (id_named s thread 0) (Space left) ∷ [])

-- Groups.

-- the capability that cap_copy makes
abbrev pub new_cap : State → ThreadRecord → Capability
new_cap s thread = record { object = id_named s thread 0; rights = arg thread 2 }

abbrev pub copy_effect : State → ThreadRecord → Effect
copy_effect s thread =
    let slots = slots_of (named s thread 1) in
    answers_with thread (unwrap_or (free_slot slots) 0)
    (change (id_named s thread 1) (with_cap slots (new_cap s thread)) ∷ [])

abbrev pub drop_effect : State → ThreadRecord → Effect
drop_effect s thread =
    answers_with thread 0 (change (id_named s thread 0)
    (Group (slice_set (slots_of (named s thread 0)) (arg thread 1) None)) ∷ [])

-- Threads.

abbrev pub new_thread : State → ThreadRecord → ThreadRecord
new_thread s thread = record {
  group = id_named s thread 0;
  space = id_named s thread 1;
  state = Ready;
  pc = arg thread 2;
  x = slice_set zero_registers ANSWER (arg thread 3);
}

abbrev pub thread_effect : World → ThreadRecord → Effect
thread_effect w thread = record (makes w thread (Thread (new_thread w.now thread))) { wakes = new_id w ∷ [] }

-- Notifications.

-- the first waiter becomes Ready, or the count rises
abbrev pub signal_effect : State → ThreadRecord → ℕ → Option Object → Effect
signal_effect s thread note (Some (Notification count [])) =
    answers_with thread 0 (change note (Notification (count + 1) []) ∷ [])
signal_effect s thread note (Some (Notification count (waiter ∷ waiters))) =
    record (answers_with thread 0
    (change note (Notification count waiters) ∷ ready_with s waiter (slice_set (thread_at s waiter).x ANSWER 0)
    ∷ [])) {
      wakes = waiter ∷ [];
    }
signal_effect s thread note _ = answers thread 0

-- one is taken from the count, or the caller waits
abbrev pub wait_effect : ℕ → ThreadRecord → ℕ → Option Object → Effect
wait_effect id thread note (Some (Notification count waiters)) =
    if count == 0
    then record (waits thread (Waiting note)) { changes = change note (Notification 0 (waiters ++ id ∷ [])) ∷ [] }
    else answers_with thread 0 (change note (Notification (count - 1) waiters) ∷ [])
wait_effect id thread note _ = answers thread 0

-- Connections.

-- a thread waits for clients on a connection
abbrev pub is_serving : ThreadState → ℕ → Bool
is_serving (Serving connection) id = connection == id
is_serving _ id = false

-- a server that waits for clients serves the caller at once; else the caller joins the clients
abbrev pub call_effect : State → ℕ → ThreadRecord → ℕ → Option Object → Effect
call_effect s id thread connection (Some (Connection server client clients)) =
    if is_serving (thread_at s server).state connection
    then record (waits thread (Served connection)) {
      changes = change connection (Connection server (Some id) clients)
          ∷ ready_with s server (handed (thread_at s server).x (arg thread 1) (arg thread 2)) ∷ [];
      wakes = server ∷ [];
    }
    else record (waits thread (Calling connection)) {
      changes = change connection (Connection server client (clients ++ id ∷ [])) ∷ [];
    }
call_effect s id thread connection _ = answers thread 0

-- the client that was served becomes Ready with the server's values
abbrev pub client_done : State → ThreadRecord → Option ℕ → List Change
client_done s thread (Some client) =
    ready_with s client (handed (thread_at s client).x (arg thread 1) (arg thread 2)) ∷ []
client_done s thread None = []

abbrev pub client_woken : Option ℕ → List ℕ
client_woken (Some client) = client ∷ []
client_woken None = []

-- then the first that waits is served, and the server gets its values; where none waits, the server waits for clients
abbrev pub serve_next : State → ThreadRecord → ℕ → ℕ → Option ℕ → List ℕ → Effect
serve_next s thread connection server client (next ∷ clients) =
    let caller = thread_at s next in
    record (goes_on (record { pc = next_pc thread; x = handed thread.x (arg caller 1) (arg caller 2) })) {
      changes = client_done s thread client ++ change connection (Connection server (Some next) clients)
          ∷ change next (thread_with caller (Served connection) caller.x) ∷ [];
      wakes = client_woken client;
    }
serve_next s thread connection server (Some client) [] =
    record (waits thread (Serving connection)) {
      changes = client_done s thread (Some client) ++ change connection (Connection server None []) ∷ [];
      wakes = client ∷ [];
    }
serve_next s thread connection server None [] = waits thread (Serving connection)

abbrev pub serve_effect : State → ThreadRecord → ℕ → Option Object → Effect
serve_effect s thread connection (Some (Connection server client clients)) =
    serve_next s thread connection server client clients
serve_effect s thread connection _ = answers thread 0

-- What a call of thread `id` does that isn't refused.
unfoldable pub effect_of_call : World → ℕ → ThreadRecord → Call → Effect
effect_of_call w id thread Yield = record (answers thread 0) { goes = Back }
effect_of_call w id thread Halt = stops thread HALTED
effect_of_call w id thread Put = put_effect w.now thread
effect_of_call w id thread Get = get_effect w.now thread
effect_of_call w id thread MemNew = makes w thread (new_memory (take (pages_wanted (arg thread 0)) (free_pages w)))
effect_of_call w id thread Map = map_effect w.now thread
effect_of_call w id thread Unmap = unmap_effect w.now thread
effect_of_call w id thread SpaceNew = makes w thread (Space [])
effect_of_call w id thread GroupNew = makes w thread new_group
effect_of_call w id thread CapCopy = copy_effect w.now thread
effect_of_call w id thread CapDrop = drop_effect w.now thread
effect_of_call w id thread ThreadNew = thread_effect w thread
effect_of_call w id thread NoteNew = makes w thread (Notification 0 [])
effect_of_call w id thread Signal = signal_effect w.now thread (id_named w.now thread 0) (named w.now thread 0)
effect_of_call w id thread Wait = wait_effect id thread (id_named w.now thread 0) (named w.now thread 0)
effect_of_call w id thread ConnNew = makes w thread (Connection id None [])
effect_of_call w id thread ConnCall = call_effect w.now id thread (id_named w.now thread 0) (named w.now thread 0)
effect_of_call w id thread Serve = serve_effect w.now thread (id_named w.now thread 0) (named w.now thread 0)
effect_of_call w id thread Checkpoint = record (answers thread 0) { wishes = true }

-- a refused call changes x10 and pc alone
abbrev pub unless_refused : World → ℕ → ThreadRecord → Call → Option Refusal → Effect
unless_refused w id thread call None = effect_of_call w id thread call
unless_refused w id thread call (Some refusal) = answers thread (refusal_number refusal)

abbrev pub called : World → ℕ → ThreadRecord → Option Call → Effect
called w id thread None = answers thread (refusal_number BadCall)
called w id thread (Some call) = unless_refused w id thread call (refusal_of w id thread call)

-- What ECALL does in thread `id`.
abbrev pub ecall : World → ℕ → ThreadRecord → Effect
ecall w id thread = called w id thread (call_named thread)
