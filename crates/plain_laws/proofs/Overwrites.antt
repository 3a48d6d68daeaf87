-- No effect overwrites an object that has pages.
use Rattle.std.specs.Prelude.{◌≡◌, ℕ, ◌==◌, ◌||◌, not, Bool, true, false, if◌then◌else◌, List, [], ◌∷◌, length, Option, Some, None}
use Rattle.std.proofs.Common.{refl, ap}
use Rattle.sls_base.specs.declared.thread.Thread.{Thread as ThreadRecord}
use Rattle.sls_base.specs.declared.thread.ThreadState.{ThreadState}
use Rattle.sls_base.specs.declared.thread.ThreadState.TheVariants.{Waiting, Calling, Served, Serving}
use Rattle.plain_state.specs.declared.objects.Kind.TheVariants.{GroupKind, SpaceKind, MemoryKind}
use Rattle.plain_state.specs.declared.calls.Refusal.TheVariants.{NoSlot, NoObjects}
use Rattle.plain_state.specs.declared.calls.Call.{Call}
use Rattle.plain_state.specs.declared.calls.Call.TheVariants.{Yield, Halt, Put, Get, MemNew, Map, Unmap, SpaceNew, GroupNew, CapCopy, CapDrop, ThreadNew, NoteNew, Signal, Wait, ConnNew, ConnCall, Serve, Checkpoint}
use Rattle.plain_model.specs.Objects.{Object, Group, Thread, Space, Connection, Notification, page_numbers, is_kind}
use Rattle.plain_model.specs.States.{State, thread_at}
use Rattle.plain_model.specs.Worlds.{World, free_objects}
use Rattle.plain_model.specs.Effects.{Effect, Change}
use Rattle.plain_model.specs.Calls.{id_named, named}
use Rattle.plain_model.specs.CallRefusals.{is_refused_besides, no_slot}
use Rattle.plain_model.specs.CallEffects.{effect_of_call, new_id, signal_effect, wait_effect, call_effect, is_serving, serve_effect}
use Rattle.plain_model.specs.Instructions.{instruction}
use Rattle.plain_laws.specs.Places.{state_of, StandsIn, IsPlaced}
use Rattle.plain_laws.proofs.PlacedCalls.{IsAllowed, allowed}
use Rattle.plain_laws.proofs.PlacedNotifications.{first_is_there}
use Rattle.plain_laws.proofs.PlacedConnections.{serving_does}
use Rattle.plain_laws.proofs.PlacedInstructions.{room_for, wants}
use Rattle.plain_laws.proofs.NamesCalls.{is_wanted, group_for}
use Rattle.plain_laws.proofs.Walk.{holds_of_instruction}

-- Objects that have no pages.

pub group_has_none : (o : Option Object) → is_kind GroupKind o ≡ true → page_numbers o ≡ []
group_has_none (Some (Group slots)) e = refl
group_has_none o e = absurd (cc)

pub space_has_none : (o : Option Object) → is_kind SpaceKind o ≡ true → page_numbers o ≡ []
space_has_none (Some (Space regions)) e = refl
space_has_none o e = absurd (cc)

pub thread_has_none : (o : Option Object) (state : ThreadState) → state_of o ≡ Some state → page_numbers o ≡ []
thread_has_none (Some (Thread thread)) state e = refl
thread_has_none o state e = absurd (cc)

pub stands_has_none : (s : State) (id : ℕ) (place : ThreadState) → IsPlaced s → StandsIn s id place → page_numbers (s.objects id) ≡ []
stands_has_none s id place placed stood = thread_has_none (s.objects id) place (placed.does place id stood)

-- the objects that are changed had no pages
abbrev pub HadNone : (ℕ → Option Object) → List Change → Type 0
HadNone objects [] = Unit {0}
HadNone objects (change ∷ changes) = (page_numbers (objects change.id) ≡ []) × HadNone objects changes

-- Calls.

pub made_over_none : (w : World) (id : ℕ) (thread : ThreadRecord) (call : Call) → is_refused_besides w id thread call NoSlot ≡ no_slot (w.now.objects thread.group)
    → is_refused_besides w id thread call NoObjects ≡ (length (free_objects w) == 0) → IsAllowed w id thread call
    → (page_numbers (w.now.objects (new_id w)) ≡ []) × ((page_numbers (w.now.objects thread.group) ≡ []) × Unit {0})
made_over_none w id thread call slot number a = (
  ap page_numbers (room_for w id thread call slot number a).free,
  (group_has_none (w.now.objects thread.group) (group_for w id thread call slot a), tt),
)

pub signal_over_none : (s : State) (thread : ThreadRecord) (note : ℕ) (o : Option Object) → s.objects note ≡ o → IsPlaced s → HadNone s.objects (signal_effect s thread note o).changes
signal_over_none s thread note (Some (Notification count [])) e placed = (ap page_numbers e, tt)
signal_over_none s thread note (Some (Notification count (waiter ∷ waiters))) e placed =
    let stood : StandsIn s waiter (Waiting note) = rw e (first_is_there waiter waiters) in
    (ap page_numbers e, (stands_has_none s waiter (Waiting note) placed stood, tt))
signal_over_none s thread note o e placed = tt

pub either_over_none : (objects : ℕ → Option Object) (b : Bool) (e f : Effect) → HadNone objects e.changes → HadNone objects f.changes → HadNone objects (if b then e else f).changes
either_over_none objects true e f h k = h
either_over_none objects false e f h k = k

pub wait_over_none : (s : State) (id : ℕ) (thread : ThreadRecord) (note : ℕ) (o : Option Object) → s.objects note ≡ o → HadNone s.objects (wait_effect id thread note o).changes
wait_over_none s id thread note (Some (Notification count waiters)) e =
    let none : page_numbers (s.objects note) ≡ [] = ap page_numbers e in
    either_over_none s.objects (count == 0) _ _ (none, tt) (none, tt)
wait_over_none s id thread note o e = tt

pub called_over_none : (s : State) (id : ℕ) (thread : ThreadRecord) (connection server : ℕ) (client : Option ℕ) (clients : List ℕ) (b : Bool)
    → s.objects connection ≡ Some (Connection server client clients) → is_serving (thread_at s server).state connection ≡ b
    → HadNone s.objects (call_effect s id thread connection (Some (Connection server client clients))).changes
called_over_none s id thread connection server client clients true e serves =
    rw serves (ap page_numbers e, (thread_has_none (s.objects server) (Serving connection) (serving_does (s.objects server) connection serves), tt))
called_over_none s id thread connection server client clients false e serves = rw serves (ap page_numbers e, tt)

pub call_over_none : (s : State) (id : ℕ) (thread : ThreadRecord) (connection : ℕ) (o : Option Object) → s.objects connection ≡ o → HadNone s.objects (call_effect s id thread connection o).changes
call_over_none s id thread connection (Some (Connection server client clients)) e =
    called_over_none s id thread connection server client clients (is_serving (thread_at s server).state connection) e refl
call_over_none s id thread connection o e = tt

pub serve_over_none : (s : State) (thread : ThreadRecord) (connection : ℕ) (o : Option Object) → s.objects connection ≡ o → IsPlaced s → HadNone s.objects (serve_effect s thread connection o).changes
serve_over_none s thread connection (Some (Connection server None (next ∷ rest))) e placed =
    let calls : StandsIn s next (Calling connection) = rw e (first_is_there next rest) in
    (ap page_numbers e, (stands_has_none s next (Calling connection) placed calls, tt))
serve_over_none s thread connection (Some (Connection server (Some client) (next ∷ rest))) e placed =
    let calls : StandsIn s next (Calling connection) = rw e (first_is_there next rest) in
    let is_served : StandsIn s client (Served connection) = rw e (first_is_there client []) in
    (stands_has_none s client (Served connection) placed is_served, (ap page_numbers e, (stands_has_none s next (Calling connection) placed calls, tt)))
serve_over_none s thread connection (Some (Connection server (Some client) [])) e placed =
    let is_served : StandsIn s client (Served connection) = rw e (first_is_there client []) in
    (stands_has_none s client (Served connection) placed is_served, (ap page_numbers e, tt))
serve_over_none s thread connection (Some (Connection server None [])) e placed = tt
serve_over_none s thread connection o e placed = tt

pub call_of_over_none : (w : World) (id : ℕ) (thread : ThreadRecord) (call : Call) → IsPlaced w.now → IsAllowed w id thread call → HadNone w.now.objects (effect_of_call w id thread call).changes
unfolding effect_of_call
call_of_over_none w id thread Yield placed a = tt
call_of_over_none w id thread Halt placed a = tt
call_of_over_none w id thread Put placed a = tt
call_of_over_none w id thread Get placed a = tt
call_of_over_none w id thread MemNew placed a = made_over_none w id thread MemNew refl refl a
call_of_over_none w id thread Map placed a =
    (space_has_none (named w.now thread 0) (is_wanted (is_kind SpaceKind (named w.now thread 0)) (not (is_kind MemoryKind (named w.now thread 1)) || false) (wants w id thread Map a)).0, tt)
call_of_over_none w id thread Unmap placed a =
    (space_has_none (named w.now thread 0) (is_wanted (is_kind SpaceKind (named w.now thread 0)) false (wants w id thread Unmap a)).0, tt)
call_of_over_none w id thread SpaceNew placed a = made_over_none w id thread SpaceNew refl refl a
call_of_over_none w id thread GroupNew placed a = made_over_none w id thread GroupNew refl refl a
call_of_over_none w id thread CapCopy placed a =
    (group_has_none (named w.now thread 1) (is_wanted (is_kind GroupKind (named w.now thread 1)) false (wants w id thread CapCopy a)).0, tt)
call_of_over_none w id thread CapDrop placed a =
    (group_has_none (named w.now thread 0) (is_wanted (is_kind GroupKind (named w.now thread 0)) false (wants w id thread CapDrop a)).0, tt)
call_of_over_none w id thread ThreadNew placed a = made_over_none w id thread ThreadNew refl refl a
call_of_over_none w id thread NoteNew placed a = made_over_none w id thread NoteNew refl refl a
call_of_over_none w id thread Signal placed a = signal_over_none w.now thread (id_named w.now thread 0) (named w.now thread 0) refl placed
call_of_over_none w id thread Wait placed a = wait_over_none w.now id thread (id_named w.now thread 0) (named w.now thread 0) refl
call_of_over_none w id thread ConnNew placed a = made_over_none w id thread ConnNew refl refl a
call_of_over_none w id thread ConnCall placed a = call_over_none w.now id thread (id_named w.now thread 0) (named w.now thread 0) refl
call_of_over_none w id thread Serve placed a = serve_over_none w.now thread (id_named w.now thread 0) (named w.now thread 0) refl placed
call_of_over_none w id thread Checkpoint placed a = tt

-- Instructions.

pub instruction_over_none : (w : World) (id : ℕ) (thread : ThreadRecord) → IsPlaced w.now → HadNone w.now.objects (instruction w id thread).changes
instruction_over_none w id thread placed = holds_of_instruction (λ (e : Effect). HadNone w.now.objects e.changes) w id thread (record {
  unfetched = tt;
  fetches = λ e covered h. h;
  illegal = tt;
  sets = λ rd value pc does. tt;
  loads = λ op rd at does covered. tt;
  stores = λ op at value does covered. tt;
  stops_there = λ cause does. tt;
  refuses = λ refusal. tt;
  calls = λ call is unrefused. call_of_over_none w id thread call placed (allowed w id thread call unrefused);
})
