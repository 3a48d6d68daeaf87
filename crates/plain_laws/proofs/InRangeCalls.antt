-- Numbers of objects: each call and each instruction changes objects whose numbers are in range.
use Rattle.std.specs.Prelude.{◌≡◌, ℕ, ◌<◌, ◌==◌, ◌||◌, not, Bool, true, false, if◌then◌else◌, List, [], ◌∷◌, length, Option, Some, None}
use Rattle.std.specs.List.{list_any}
use Rattle.std.proofs.Common.{refl, sym, ◌∙◌, arith}
use Rattle.std.proofs.lemmas.Bool.{eqb-false}
use Rattle.sls_base.proofs.ListTests.{or_false}
use Rattle.sls_base.specs.declared.limits.TheConstants.{OBJECTS}
use Rattle.sls_base.specs.declared.thread.Thread.{Thread as ThreadRecord}
use Rattle.sls_base.specs.declared.thread.ThreadState.TheVariants.{Waiting, Calling, Served, Serving}
use Rattle.plain_state.specs.declared.calls.Refusal.TheVariants.{NoSlot, NoObjects}
use Rattle.plain_state.specs.declared.calls.Call.{Call}
use Rattle.plain_state.specs.declared.calls.Call.TheVariants.{Yield, Halt, Put, Get, MemNew, Map, Unmap, SpaceNew, GroupNew, CapCopy, CapDrop, ThreadNew, NoteNew, Signal, Wait, ConnNew, ConnCall, Serve, Checkpoint}
use Rattle.plain_state.specs.declared.objects.Kind.TheVariants.{SpaceKind, MemoryKind, GroupKind}
use Rattle.plain_model.specs.Objects.{Object, Connection, Notification, is_kind}
use Rattle.plain_model.specs.States.{State, thread_at}
use Rattle.plain_model.specs.Worlds.{World, free_objects}
use Rattle.plain_model.specs.Effects.{Effect}
use Rattle.plain_model.specs.Calls.{id_named, named, needs}
use Rattle.plain_model.specs.CallRefusals.{is_refused_besides, is_unmet, no_room, no_slot}
use Rattle.plain_model.specs.CallEffects.{effect_of_call, new_id, signal_effect, wait_effect, call_effect, serve_effect, is_serving}
use Rattle.plain_model.specs.Instructions.{instruction}
use Rattle.plain_laws.specs.Laws.{AreInRange}
use Rattle.plain_laws.specs.Places.{StandsIn, IsPlaced}
use Rattle.plain_laws.proofs.Free.{least_free}
use Rattle.plain_laws.proofs.PlacedCalls.{IsAllowed, allowed, none_has_slot}
use Rattle.plain_laws.proofs.PlacedNotifications.{first_is_there}
use Rattle.plain_laws.proofs.PlacedConnections.{serving_does}
use Rattle.plain_laws.proofs.PlacedInstructions.{wants}
use Rattle.plain_laws.proofs.InRange.{below, object_below, thread_below, stands_below, ChangeBelow}
use Rattle.plain_laws.proofs.Walk.{holds_of_instruction}

pub either_changes : (b : Bool) (e f : Effect) → ChangeBelow e.changes → ChangeBelow f.changes → ChangeBelow (if b then e else f).changes
either_changes true e f first second = first
either_changes false e f first second = second

-- Calls on notifications and connections.

pub signal_below : (s : State) (thread : ThreadRecord) (note : ℕ) (o : Option Object) → s.objects note ≡ o → IsPlaced s → AreInRange s → ChangeBelow (signal_effect s thread note o).changes
signal_below s thread note (Some (Notification count [])) e placed h = (object_below s note _ h e, tt)
signal_below s thread note (Some (Notification count (waiter ∷ waiters))) e placed h =
    let stood : StandsIn s waiter (Waiting note) = rw e (first_is_there waiter waiters) in
    (object_below s note _ h e, (stands_below s waiter (Waiting note) placed h stood, tt))
signal_below s thread note o e placed h = tt

pub wait_below : (s : State) (id : ℕ) (thread : ThreadRecord) (note : ℕ) (o : Option Object) → s.objects note ≡ o → AreInRange s → ChangeBelow (wait_effect id thread note o).changes
wait_below s id thread note (Some (Notification count waiters)) e h =
    let l = object_below s note (Notification count waiters) h e in
    either_changes (count == 0) _ _ (l, tt) (l, tt)
wait_below s id thread note o e h = tt

pub call_below_if : (s : State) (id : ℕ) (thread : ThreadRecord) (connection server : ℕ) (client : Option ℕ) (clients : List ℕ) (b : Bool)
    → s.objects connection ≡ Some (Connection server client clients) → is_serving (thread_at s server).state connection ≡ b → AreInRange s
    → ChangeBelow (call_effect s id thread connection (Some (Connection server client clients))).changes
call_below_if s id thread connection server client clients true e serves h =
    let l = object_below s connection (Connection server client clients) h e in
    let server_is = thread_below s server (Serving connection) h (serving_does (s.objects server) connection serves) in
    rw serves (l, (server_is, tt))
call_below_if s id thread connection server client clients false e serves h =
    let l = object_below s connection (Connection server client clients) h e in
    rw serves (l, tt)

pub call_below : (s : State) (id : ℕ) (thread : ThreadRecord) (connection : ℕ) (o : Option Object) → s.objects connection ≡ o → AreInRange s → ChangeBelow (call_effect s id thread connection o).changes
call_below s id thread connection (Some (Connection server client clients)) e h =
    call_below_if s id thread connection server client clients (is_serving (thread_at s server).state connection) e refl h
call_below s id thread connection o e h = tt

pub serve_below : (s : State) (thread : ThreadRecord) (connection : ℕ) (o : Option Object) → s.objects connection ≡ o → IsPlaced s → AreInRange s → ChangeBelow (serve_effect s thread connection o).changes
serve_below s thread connection (Some (Connection server None (next ∷ rest))) e placed h =
    let calls : StandsIn s next (Calling connection) = rw e (first_is_there next rest) in
    (object_below s connection _ h e, (stands_below s next (Calling connection) placed h calls, tt))
serve_below s thread connection (Some (Connection server (Some client) (next ∷ rest))) e placed h =
    let calls : StandsIn s next (Calling connection) = rw e (first_is_there next rest) in
    let is_served : StandsIn s client (Served connection) = rw e (first_is_there client []) in
    (stands_below s client (Served connection) placed h is_served, (object_below s connection _ h e, (stands_below s next (Calling connection) placed h calls, tt)))
serve_below s thread connection (Some (Connection server (Some client) [])) e placed h =
    let is_served : StandsIn s client (Served connection) = rw e (first_is_there client []) in
    (stands_below s client (Served connection) placed h is_served, (object_below s connection _ h e, tt))
serve_below s thread connection (Some (Connection server None [])) e placed h = tt
serve_below s thread connection o e placed h = tt

-- Calls that make an object: its number is in range, and so is that of the caller's group.

pub record AreBelow (w : World) (thread : ThreadRecord) : Type 0 where
  pub new : new_id w < OBJECTS
  pub group : thread.group < OBJECTS

pub both_below : (w : World) (thread : ThreadRecord) → no_slot (w.now.objects thread.group) ≡ false → (length (free_objects w) == 0) ≡ false → AreInRange w.now → AreBelow w thread
both_below w thread slot number h = record {
  new = (least_free w (let ne = eqb-false (length (free_objects w)) 0 number in omega arith)).in_range;
  group = below w.now thread.group h (λ none. none_has_slot (w.now.objects thread.group) none slot);
}

pub below_for : (w : World) (id : ℕ) (thread : ThreadRecord) (call : Call) → is_refused_besides w id thread call NoSlot ≡ no_room w thread NoSlot → is_refused_besides w id thread call NoObjects ≡ no_room w thread NoObjects
    → AreInRange w.now → IsAllowed w id thread call → AreBelow w thread
below_for w id thread call slot number h a =
    let s = or_false (list_any (is_unmet w.now thread NoSlot) (needs thread call)) (is_refused_besides w id thread call NoSlot) a.slot in
    let n = or_false (list_any (is_unmet w.now thread NoObjects) (needs thread call)) (is_refused_besides w id thread call NoObjects) a.number in
    both_below w thread (sym slot ∙ s.1) (sym number ∙ n.1) h

-- Objects that are of a kind.

pub no_space : (o : Option Object) → o ≡ None → not (is_kind SpaceKind o) ≡ false → ⊥
no_space o none e = (let f : true ≡ false = rw none at e in absurd (cc))

pub no_group : (o : Option Object) → o ≡ None → not (is_kind GroupKind o) ≡ false → ⊥
no_group o none e = (let f : true ≡ false = rw none at e in absurd (cc))

pub call_changes : (w : World) (id : ℕ) (thread : ThreadRecord) (call : Call) → IsPlaced w.now → AreInRange w.now → IsAllowed w id thread call → ChangeBelow (effect_of_call w id thread call).changes
unfolding effect_of_call
call_changes w id thread Yield placed h a = tt
call_changes w id thread Halt placed h a = tt
call_changes w id thread Put placed h a = tt
call_changes w id thread Get placed h a = tt
call_changes w id thread MemNew placed h a = (let b = below_for w id thread MemNew refl refl h a in (b.new, (b.group, tt)))
call_changes w id thread Map placed h a =
    let unmet = or_false (not (is_kind SpaceKind (named w.now thread 0))) (not (is_kind MemoryKind (named w.now thread 1)) || false) (wants w id thread Map a) in
    (below w.now (id_named w.now thread 0) h (λ none. no_space (named w.now thread 0) none unmet.0), tt)
call_changes w id thread Unmap placed h a =
    let unmet = or_false (not (is_kind SpaceKind (named w.now thread 0))) false (wants w id thread Unmap a) in
    (below w.now (id_named w.now thread 0) h (λ none. no_space (named w.now thread 0) none unmet.0), tt)
call_changes w id thread SpaceNew placed h a = (let b = below_for w id thread SpaceNew refl refl h a in (b.new, (b.group, tt)))
call_changes w id thread GroupNew placed h a = (let b = below_for w id thread GroupNew refl refl h a in (b.new, (b.group, tt)))
call_changes w id thread CapCopy placed h a =
    let unmet = or_false (not (is_kind GroupKind (named w.now thread 1))) false (wants w id thread CapCopy a) in
    (below w.now (id_named w.now thread 1) h (λ none. no_group (named w.now thread 1) none unmet.0), tt)
call_changes w id thread CapDrop placed h a =
    let unmet = or_false (not (is_kind GroupKind (named w.now thread 0))) false (wants w id thread CapDrop a) in
    (below w.now (id_named w.now thread 0) h (λ none. no_group (named w.now thread 0) none unmet.0), tt)
call_changes w id thread ThreadNew placed h a = (let b = below_for w id thread ThreadNew refl refl h a in (b.new, (b.group, tt)))
call_changes w id thread NoteNew placed h a = (let b = below_for w id thread NoteNew refl refl h a in (b.new, (b.group, tt)))
call_changes w id thread Signal placed h a = signal_below w.now thread (id_named w.now thread 0) (named w.now thread 0) refl placed h
call_changes w id thread Wait placed h a = wait_below w.now id thread (id_named w.now thread 0) (named w.now thread 0) refl h
call_changes w id thread ConnNew placed h a = (let b = below_for w id thread ConnNew refl refl h a in (b.new, (b.group, tt)))
call_changes w id thread ConnCall placed h a = call_below w.now id thread (id_named w.now thread 0) (named w.now thread 0) refl h
call_changes w id thread Serve placed h a = serve_below w.now thread (id_named w.now thread 0) (named w.now thread 0) refl placed h
call_changes w id thread Checkpoint placed h a = tt

-- Instructions.

pub instruction_changes : (w : World) (id : ℕ) (thread : ThreadRecord) → IsPlaced w.now → AreInRange w.now → ChangeBelow (instruction w id thread).changes
instruction_changes w id thread placed h = holds_of_instruction (λ (e : Effect). ChangeBelow e.changes) w id thread (record {
  unfetched = tt;
  fetches = λ e covered below. below;
  illegal = tt;
  sets = λ rd value pc does. tt;
  loads = λ op rd at does covered. tt;
  stores = λ op at value does covered. tt;
  stops_there = λ cause does. tt;
  refuses = λ refusal. tt;
  calls = λ call named free. call_changes w id thread call placed h (allowed w id thread call free);
})
