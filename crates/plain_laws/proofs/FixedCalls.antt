-- The objects that are always there: no call and no instruction changes them, but the root group's slots.
use Rattle.std.specs.Prelude.{◌≡◌, ℕ, ◌==◌, ◌||◌, not, Bool, true, false, if◌then◌else◌, List, [], ◌∷◌, Option, Some, None}
use Rattle.std.proofs.Common.{refl}
use Rattle.std.proofs.lemmas.Bool.{not-false}
use Rattle.sls_base.proofs.ListTests.{or_false}
use Rattle.sls_base.specs.declared.thread.Thread.{Thread as ThreadRecord}
use Rattle.sls_base.specs.declared.thread.ThreadState.TheVariants.{Waiting, Calling, Served, Serving}
use Rattle.plain_state.specs.declared.calls.Refusal.TheVariants.{NoSlot, NoObjects}
use Rattle.plain_state.specs.declared.calls.Call.{Call}
use Rattle.plain_state.specs.declared.calls.Call.TheVariants.{Yield, Halt, Put, Get, MemNew, Map, Unmap, SpaceNew, GroupNew, CapCopy, CapDrop, ThreadNew, NoteNew, Signal, Wait, ConnNew, ConnCall, Serve, Checkpoint}
use Rattle.plain_state.specs.declared.objects.Kind.TheVariants.{SpaceKind, MemoryKind, GroupKind}
use Rattle.plain_model.specs.Objects.{Object, Thread, Connection, Notification, is_kind}
use Rattle.plain_model.specs.States.{State, thread_at}
use Rattle.plain_model.specs.Worlds.{World}
use Rattle.plain_model.specs.Effects.{Effect, Change}
use Rattle.plain_model.specs.Calls.{id_named, named}
use Rattle.plain_model.specs.CallRefusals.{is_refused_besides, no_room}
use Rattle.plain_model.specs.CallEffects.{effect_of_call, makes, signal_effect, wait_effect, call_effect, serve_effect, is_serving}
use Rattle.plain_model.specs.Instructions.{instruction}
use Rattle.plain_laws.specs.Places.{StandsIn, IsPlaced}
use Rattle.plain_laws.specs.Fixed.{is_single}
use Rattle.plain_laws.proofs.PlacedCalls.{IsAllowed, allowed, HasRoom}
use Rattle.plain_laws.proofs.PlacedNotifications.{first_is_there}
use Rattle.plain_laws.proofs.PlacedConnections.{serving_does}
use Rattle.plain_laws.proofs.PlacedInstructions.{room_for, wants}
use Rattle.plain_laws.proofs.NamesCalls.{group_for}
use Rattle.plain_laws.proofs.Walk.{holds_of_instruction}
use Rattle.plain_laws.proofs.WalkStates.{OfChanges}
use Rattle.plain_laws.proofs.FixedObjects.{Stays, stays_new, stays_group, stays_space, stays_thread, stays_notification, WasConnection, stays_connection}

-- each change leaves the objects that are always there
abbrev pub AllStay : State → List Change → Type 0
AllStay s changes = OfChanges (λ i o. Stays (s.objects i) o) changes

either_stay : (s : State) (b : Bool) (e f : Effect) → AllStay s e.changes → AllStay s f.changes → AllStay s (if b then e else f).changes
either_stay s true e f first second = first
either_stay s false e f first second = second

-- Calls on notifications and connections.

signal_stays : (s : State) (thread : ThreadRecord) (note : ℕ) (o : Option Object) → s.objects note ≡ o → IsPlaced s → AllStay s (signal_effect s thread note o).changes
signal_stays s thread note (Some (Notification count [])) e placed = (stays_notification (s.objects note) _ count [] [] e, tt)
signal_stays s thread note (Some (Notification count (waiter ∷ waiters))) e placed =
    let stood : StandsIn s waiter (Waiting note) = rw e (first_is_there waiter waiters) in
    (stays_notification (s.objects note) count count waiters (waiter ∷ waiters) e, (stays_thread (s.objects waiter) _ (Waiting note) (placed.does (Waiting note) waiter stood), tt))
signal_stays s thread note o e placed = tt

wait_stays : (s : State) (id : ℕ) (thread : ThreadRecord) (note : ℕ) (o : Option Object) → s.objects note ≡ o → AllStay s (wait_effect id thread note o).changes
wait_stays s id thread note (Some (Notification count waiters)) e =
    either_stay s (count == 0) _ _ (stays_notification (s.objects note) _ count _ waiters e, tt) (stays_notification (s.objects note) _ count waiters waiters e, tt)
wait_stays s id thread note o e = tt

call_stays_if : (s : State) (id : ℕ) (thread : ThreadRecord) (connection server : ℕ) (client : Option ℕ) (clients : List ℕ) (b : Bool)
    → s.objects connection ≡ Some (Connection server client clients) → is_serving (thread_at s server).state connection ≡ b
    → AllStay s (call_effect s id thread connection (Some (Connection server client clients))).changes
call_stays_if s id thread connection server client clients true e serves =
    let was : WasConnection (s.objects connection) = record { server = server; client = client; clients = clients; is = e } in
    rw serves (stays_connection (s.objects connection) server (Some id) clients was, (stays_thread (s.objects server) _ (Serving connection) (serving_does (s.objects server) connection serves), tt))
call_stays_if s id thread connection server client clients false e serves =
    let was : WasConnection (s.objects connection) = record { server = server; client = client; clients = clients; is = e } in
    rw serves (stays_connection (s.objects connection) server client _ was, tt)

call_stays : (s : State) (id : ℕ) (thread : ThreadRecord) (connection : ℕ) (o : Option Object) → s.objects connection ≡ o → AllStay s (call_effect s id thread connection o).changes
call_stays s id thread connection (Some (Connection server client clients)) e =
    call_stays_if s id thread connection server client clients (is_serving (thread_at s server).state connection) e refl
call_stays s id thread connection o e = tt

-- the first that waits, and the client that is served, are threads

next_stays : (s : State) (connection server next : ℕ) (client : Option ℕ) (rest : List ℕ) (thread : ThreadRecord) → s.objects connection ≡ Some (Connection server client (next ∷ rest)) → IsPlaced s
    → Stays (s.objects next) (Some (Thread thread))
next_stays s connection server next client rest thread e placed =
    let stood : StandsIn s next (Calling connection) = rw e (first_is_there next rest) in
    stays_thread (s.objects next) thread (Calling connection) (placed.does (Calling connection) next stood)

client_stays : (s : State) (connection server client : ℕ) (clients : List ℕ) (thread : ThreadRecord) → s.objects connection ≡ Some (Connection server (Some client) clients) → IsPlaced s
    → Stays (s.objects client) (Some (Thread thread))
client_stays s connection server client clients thread e placed =
    let stood : StandsIn s client (Served connection) = rw e (first_is_there client []) in
    stays_thread (s.objects client) thread (Served connection) (placed.does (Served connection) client stood)

serve_stays : (s : State) (thread : ThreadRecord) (connection : ℕ) (o : Option Object) → s.objects connection ≡ o → IsPlaced s → AllStay s (serve_effect s thread connection o).changes
serve_stays s thread connection (Some (Connection server None (next ∷ rest))) e placed =
    let was : WasConnection (s.objects connection) = record { server = server; client = None; clients = next ∷ rest; is = e } in
    (stays_connection (s.objects connection) server (Some next) rest was, (next_stays s connection server next None rest _ e placed, tt))
serve_stays s thread connection (Some (Connection server (Some client) (next ∷ rest))) e placed =
    let was : WasConnection (s.objects connection) = record { server = server; client = Some client; clients = next ∷ rest; is = e } in (
      client_stays s connection server client (next ∷ rest) _ e placed,
      (stays_connection (s.objects connection) server (Some next) rest was, (next_stays s connection server next (Some client) rest _ e placed, tt)),
    )
serve_stays s thread connection (Some (Connection server (Some client) [])) e placed =
    let was : WasConnection (s.objects connection) = record { server = server; client = Some client; clients = []; is = e } in
    (client_stays s connection server client [] _ e placed, (stays_connection (s.objects connection) server None [] was, tt))
serve_stays s thread connection (Some (Connection server None [])) e placed = tt
serve_stays s thread connection o e placed = tt

-- Calls that make an object.

made_stays : (w : World) (id : ℕ) (thread : ThreadRecord) (call : Call) (object : Object) → is_refused_besides w id thread call NoSlot ≡ no_room w thread NoSlot
    → is_refused_besides w id thread call NoObjects ≡ no_room w thread NoObjects → is_single (Some object) ≡ false → IsAllowed w id thread call → AllStay w.now (makes w thread object).changes
made_stays w id thread call object slot number e a =
    let room : HasRoom w thread = room_for w id thread call slot number a in
    (stays_new (w.now.objects _) object room.free e, (stays_group (w.now.objects thread.group) _ (group_for w id thread call slot a), tt))

call_stays_of : (w : World) (id : ℕ) (thread : ThreadRecord) (call : Call) → IsPlaced w.now → IsAllowed w id thread call → AllStay w.now (effect_of_call w id thread call).changes
unfolding effect_of_call
call_stays_of w id thread Yield placed a = tt
call_stays_of w id thread Halt placed a = tt
call_stays_of w id thread Put placed a = tt
call_stays_of w id thread Get placed a = tt
call_stays_of w id thread MemNew placed a = made_stays w id thread MemNew _ refl refl refl a
call_stays_of w id thread Map placed a =
    let unmet = or_false (not (is_kind SpaceKind (named w.now thread 0))) (not (is_kind MemoryKind (named w.now thread 1)) || false) (wants w id thread Map a) in
    (stays_space (named w.now thread 0) _ (not-false (is_kind SpaceKind (named w.now thread 0)) unmet.0), tt)
call_stays_of w id thread Unmap placed a =
    let unmet = or_false (not (is_kind SpaceKind (named w.now thread 0))) false (wants w id thread Unmap a) in
    (stays_space (named w.now thread 0) _ (not-false (is_kind SpaceKind (named w.now thread 0)) unmet.0), tt)
call_stays_of w id thread SpaceNew placed a = made_stays w id thread SpaceNew _ refl refl refl a
call_stays_of w id thread GroupNew placed a = made_stays w id thread GroupNew _ refl refl refl a
call_stays_of w id thread CapCopy placed a =
    let unmet = or_false (not (is_kind GroupKind (named w.now thread 1))) false (wants w id thread CapCopy a) in
    (stays_group (named w.now thread 1) _ (not-false (is_kind GroupKind (named w.now thread 1)) unmet.0), tt)
call_stays_of w id thread CapDrop placed a =
    let unmet = or_false (not (is_kind GroupKind (named w.now thread 0))) false (wants w id thread CapDrop a) in
    (stays_group (named w.now thread 0) _ (not-false (is_kind GroupKind (named w.now thread 0)) unmet.0), tt)
call_stays_of w id thread ThreadNew placed a = made_stays w id thread ThreadNew _ refl refl refl a
call_stays_of w id thread NoteNew placed a = made_stays w id thread NoteNew _ refl refl refl a
call_stays_of w id thread Signal placed a = signal_stays w.now thread (id_named w.now thread 0) (named w.now thread 0) refl placed
call_stays_of w id thread Wait placed a = wait_stays w.now id thread (id_named w.now thread 0) (named w.now thread 0) refl
call_stays_of w id thread ConnNew placed a = made_stays w id thread ConnNew _ refl refl refl a
call_stays_of w id thread ConnCall placed a = call_stays w.now id thread (id_named w.now thread 0) (named w.now thread 0) refl
call_stays_of w id thread Serve placed a = serve_stays w.now thread (id_named w.now thread 0) (named w.now thread 0) refl placed
call_stays_of w id thread Checkpoint placed a = tt

-- Instructions.

pub instruction_stays : (w : World) (id : ℕ) (thread : ThreadRecord) → IsPlaced w.now → AllStay w.now (instruction w id thread).changes
instruction_stays w id thread placed = holds_of_instruction (λ e. AllStay w.now e.changes) w id thread (record {
  unfetched = tt;
  fetches = λ e covered h. h;
  illegal = tt;
  sets = λ rd value pc does. tt;
  loads = λ op rd at does covered. tt;
  stores = λ op at value does covered. tt;
  stops_there = λ cause does. tt;
  refuses = λ refusal. tt;
  calls = λ call e none. call_stays_of w id thread call placed (allowed w id thread call none);
})
