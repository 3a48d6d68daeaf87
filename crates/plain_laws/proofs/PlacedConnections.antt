-- Places of threads: the calls on connections.
use Rattle.std.specs.Prelude.{◌≡◌, ◌≢◌, ℕ, ◌≤◌, Bool, true, false, List, [], ◌∷◌, ◌++◌, Option, Some, None}
use Rattle.std.proofs.Common.{refl, ap, sym, ◌∙◌, arith, inl, inr, append-nil}
use Rattle.std.proofs.lemmas.Bool.{cases_eq, eqb-true}
use Rattle.sls_base.specs.declared.thread.Thread.{Thread as ThreadRecord}
use Rattle.sls_base.specs.declared.thread.ThreadState.{ThreadState}
use Rattle.sls_base.specs.declared.thread.ThreadState.TheVariants.{Ready, Calling, Served, Serving, Stopped}
use Rattle.plain_state.specs.declared.effect.Goes.TheVariants.{Asleep}
use Rattle.plain_model.specs.Objects.{Object, Thread, Connection}
use Rattle.plain_model.specs.States.{State, thread_at, thread_of, with_object}
use Rattle.plain_model.specs.Effects.{Effect, answers, waits}
use Rattle.plain_model.specs.Calls.{arg}
use Rattle.plain_model.specs.CallEffects.{call_effect, serve_effect, serve_next, is_serving, handed, ready_with, change}
use Rattle.plain_model.specs.Ticks.{Chosen, thread_after, state_with}
use Rattle.plain_laws.specs.Places.{state_of, clients_of, served_of, threads_in, times, StandsIn, IsPlaced}
use Rattle.plain_laws.proofs.Changes.{other_object}
use Rattle.plain_laws.proofs.Placed.{IsOff, left_place, one_place, others_off, times_other, times_same}
use Rattle.plain_laws.proofs.PlacedObjects.{HasNoMore, with_objects, one_has_no_more, changed_off, set_off, set_others, there_now, swapped, changed_around, Joins, enters_list}
use Rattle.plain_laws.proofs.PlacedTicks.{IsTaken, without, changed_by, Keeps, acts, acts_alone, off_alike, placed_alike, does_now, woken, woken_off, asleep, falls_asleep}
use Rattle.plain_laws.proofs.PlacedCalls.{nothing_stands, is_other, off_too}
use Rattle.plain_laws.proofs.PlacedNotifications.{first_less, first_is_there, first_only, last_other, last_once, stands_apart, altered, keeps_asleep}

-- Calls: a server that waits for clients stands nowhere.

pub serving_state : (state : ThreadState) (connection : ℕ) → is_serving state connection ≡ true → state ≡ Serving connection
serving_state (Serving other) connection e = ap Serving (eqb-true other connection e)
serving_state state connection e = absurd (cc)

pub serving_does : (o : Option Object) (connection : ℕ) → is_serving (thread_of o).state connection ≡ true → state_of o ≡ Some (Serving connection)
serving_does (Some (Thread thread)) connection e = ap (λ (x : ThreadState). Some x) (serving_state thread.state connection e)
serving_does o connection e = absurd (cc)

-- a thread that does something else stands there not at all
pub not_there : (s : State) (id : ℕ) (place : ThreadState) → IsPlaced s → (state_of (s.objects id) ≡ Some place → ⊥) → times id (threads_in s place) ≡ 0
not_there s id place h other = elim (cases_eq (times id (threads_in s place)) 0) [
  | inl e ↦ e
  | inr ne ↦ absurd (other (h.does place id (omega arith)))
]

pub serving_nowhere : (s : State) (id connection : ℕ) → state_of (s.objects id) ≡ Some (Serving connection) → IsPlaced s → (place : ThreadState) → times id (threads_in s place) ≡ 0
serving_nowhere s id connection e h (Serving other) = refl
serving_nowhere s id connection e h (Stopped cause) = refl
serving_nowhere s id connection e h p = not_there s id p h (λ d. (let f : Some p ≡ Some (Serving connection) = sym d ∙ e in cc))

-- the client that is served goes by none of the clients that wait
pub served_alike : (server : ℕ) (client : Option ℕ) (some others : List ℕ) (id : ℕ) → times id (served_of (Some (Connection server client some))) ≡ times id (served_of (Some (Connection server client others)))
served_alike server None some others id = refl
served_alike server (Some client) some others id = refl

pub joins_clients : (server id connection : ℕ) (client : Option ℕ) (clients : List ℕ) → times id clients ≡ 0 → times id (served_of (Some (Connection server client clients))) ≡ 0
    → Joins (Some (Connection server client clients)) (Some (Connection server client (clients ++ id ∷ []))) id connection (Calling connection)
joins_clients server id connection client clients e f = record {
  waiters = λ other ne. omega arith;
  clients = λ other ne. last_other other id clients ne;
  served = λ other ne. (let a = served_alike server client (clients ++ id ∷ []) clients other in omega arith);
  waits = omega arith;
  calls = last_once id clients e;
  is_served = (let a = served_alike server client (clients ++ id ∷ []) clients id in omega arith);
  waits_there = λ l. absurd (omega arith);
  calls_there = λ l. refl;
  served_there = λ l. (let a = served_alike server client (clients ++ id ∷ []) clients id in absurd (omega arith));
  same = refl;
}

pub joins_served : (server id connection : ℕ) (client : Option ℕ) (clients : List ℕ) → times id clients ≡ 0 → Joins (Some (Connection server client clients)) (Some (Connection server (Some id) clients)) id connection (Served connection)
joins_served server id connection client clients e = record {
  waiters = λ other ne. omega arith;
  clients = λ other ne. omega arith;
  served = λ other ne. (let a = times_other other id ne in omega arith);
  waits = omega arith;
  calls = omega arith;
  is_served = (let a = times_same id in omega arith);
  waits_there = λ l. absurd (omega arith);
  calls_there = λ l. absurd (omega arith);
  served_there = λ l. refl;
  same = refl;
}

-- the caller is served at once, and the server gets its values
pub keeps_served : (s : State) (core : ℕ) (c : Chosen) (thread : ThreadRecord) (connection server : ℕ) (client : Option ℕ) (clients : List ℕ)
    → s.objects connection ≡ Some (Connection server client clients) → state_of (s.objects server) ≡ Some (Serving connection) → IsTaken s core c
    → Keeps s core c (record (waits thread (Served connection)) {
      changes = change connection (Connection server (Some c.occupant.thread) clients) ∷ ready_with s server (handed (thread_at s server).x (arg thread 1) (arg thread 2)) ∷ [];
      wakes = server ∷ [];
    })
keeps_served s core c thread connection server client clients e does taken =
    let me = c.occupant.thread in
    let t = without s core c.queue in
    let new = Connection server (Some me) clients in
    let ready = altered (thread_at s server) Ready (handed (thread_at s server).x (arg thread 1) (arg thread 2)) in
    let none = serving_nowhere s server connection does taken.placed in
    let u = woken t server ready in
    let off = woken_off t me server ready refl (is_other s core c server taken none) (off_too s core c server taken none) taken.off in
    let apart : connection ≢ server = λ same. (let f : Some (Serving connection) ≡ None = sym does ∙ ap (λ (i : ℕ). state_of (s.objects i)) (sym same) ∙ ap state_of e in cc) in
    let still : u.objects connection ≡ Some (Connection server client clients) = other_object t.objects server (Thread ready) connection apart ∙ e in
    let out : times me clients ≡ 0 = rw e at (taken.off.nowhere (Calling connection)) in
    let joins : Joins (u.objects connection) (Some new) me connection (Served connection) = rw still (joins_served server me connection client clients out) in
    let effect : Effect = record (waits thread (Served connection)) {
      changes = change connection new ∷ ready_with s server (handed (thread_at s server).x (arg thread 1) (arg thread 2)) ∷ [];
      wakes = server ∷ [];
    } in
    let after = thread_after core (thread_at s me) (Asleep (Served connection)) effect in
    placed_alike (asleep u me connection new after) (state_with s core c (Asleep (Served connection)) effect)
    (ap (λ (objects : ℕ → Option Object). with_object objects me (Thread after)) (sym (swapped t.objects connection server new (Thread ready) apart)))
    (sym (append-nil (c.queue ++ server ∷ [])))
    refl
    (falls_asleep u me connection new after (Served connection) refl (is_other s core c connection taken (nothing_stands s connection (ap state_of e) taken.placed)) joins off)

pub keeps_call_if : (s : State) (core : ℕ) (c : Chosen) (thread : ThreadRecord) (connection server : ℕ) (client : Option ℕ) (clients : List ℕ) (b : Bool)
    → s.objects connection ≡ Some (Connection server client clients) → is_serving (thread_at s server).state connection ≡ b → IsTaken s core c
    → Keeps s core c (call_effect s c.occupant.thread thread connection (Some (Connection server client clients)))
keeps_call_if s core c thread connection server client clients true e serves taken =
    rw serves (keeps_served s core c thread connection server client clients e (serving_does (s.objects server) connection serves) taken)
keeps_call_if s core c thread connection server client clients false e serves taken =
    let me = c.occupant.thread in
    let out : times me clients ≡ 0 = rw e at (taken.off.nowhere (Calling connection)) in
    let not_served : times me (served_of (Some (Connection server client clients))) ≡ 0 = rw e at (taken.off.nowhere (Served connection)) in
    rw serves (keeps_asleep s core c thread connection (Connection server client (clients ++ me ∷ [])) (Calling connection) (ap state_of e)
    (rw e (joins_clients server me connection client clients out not_served)) taken)

pub keeps_call : (s : State) (core : ℕ) (c : Chosen) (thread : ThreadRecord) (connection : ℕ) (o : Option Object) → s.objects connection ≡ o → IsTaken s core c
    → Keeps s core c (call_effect s c.occupant.thread thread connection o)
keeps_call s core c thread connection (Some (Connection server client clients)) e taken =
    keeps_call_if s core c thread connection server client clients (is_serving (thread_at s server).state connection) e refl taken
keeps_call s core c thread connection o e taken = acts_alone s core c (answers thread 0) refl refl taken

-- Serving: what a client leaves.

pub idle_has_no_more : (server : ℕ) (client : Option ℕ) (clients rest : List ℕ) → ((id : ℕ) → times id rest ≤ times id clients)
    → HasNoMore (Some (Connection server client clients)) (Some (Connection server None rest))
idle_has_no_more server client clients rest less = record { waiters = λ id. omega arith; clients = less; served = λ id. omega arith }

-- the connection serves nobody, and the clients `rest` wait
abbrev pub idle : State → ℕ → ℕ → List ℕ → State
idle s connection server rest = with_objects s (with_object s.objects connection (Connection server None rest))

pub caller_left : (s : State) (connection server next : ℕ) (client : Option ℕ) (rest : List ℕ) → s.objects connection ≡ Some (Connection server client (next ∷ rest)) → IsPlaced s
    → (place : ThreadState) → times next (threads_in (idle s connection server rest) place) ≡ 0
caller_left s connection server next client rest e h =
    let fewer : HasNoMore (s.objects connection) (Some (Connection server None rest)) = rw e (idle_has_no_more server client (next ∷ rest) rest (λ id. first_less id next rest)) in
    let stood : StandsIn s next (Calling connection) = rw e (first_is_there next rest) in
    let once : times next (next ∷ rest) ≤ 1 = rw e at (h.once (Calling connection) next) in
    left_place s (idle s connection server rest) next (Calling connection) h (one_has_no_more s connection (Connection server None rest) fewer) stood
    (ap (λ (o : Option Object). times next (clients_of o)) (there_now s.objects connection (Connection server None rest)) ∙ first_only next rest once)

pub client_left : (s : State) (connection server client : ℕ) (clients rest : List ℕ) → ((id : ℕ) → times id rest ≤ times id clients) → s.objects connection ≡ Some (Connection server (Some client) clients) → IsPlaced s
    → (place : ThreadState) → times client (threads_in (idle s connection server rest) place) ≡ 0
client_left s connection server client clients rest less e h =
    let fewer : HasNoMore (s.objects connection) (Some (Connection server None rest)) = rw e (idle_has_no_more server (Some client) clients rest less) in
    let stood : StandsIn s client (Served connection) = rw e (first_is_there client []) in
    left_place s (idle s connection server rest) client (Served connection) h (one_has_no_more s connection (Connection server None rest) fewer) stood
    (ap (λ (o : Option Object). times client (served_of o)) (there_now s.objects connection (Connection server None rest)))

pub idle_off : (s : State) (me connection server : ℕ) (client : Option ℕ) (clients rest : List ℕ) → ((id : ℕ) → times id rest ≤ times id clients) → s.objects connection ≡ Some (Connection server client clients)
    → IsOff s me → IsOff (idle s connection server rest) me
idle_off s me connection server client clients rest less e off =
    changed_off s me connection (Connection server None rest) (rw e (idle_has_no_more server client clients rest less)) (sym (ap state_of e)) off

-- the next client is served
pub next_off : (s : State) (me connection server next : ℕ) (rest : List ℕ) (thread : ThreadRecord) → s.objects connection ≡ Some (Connection server None rest) → thread.state ≡ Served connection
    → next ≢ me → connection ≢ next → IsOff s next → IsOff s me
    → IsOff (with_objects s (with_object (with_object s.objects next (Thread thread)) connection (Connection server (Some next) rest))) me
next_off s me connection server next rest thread e does ne apart next_is_off off =
    let t = with_objects s (with_object s.objects next (Thread thread)) in
    let new = Connection server (Some next) rest in
    let set = set_off s next thread next_is_off in
    let still : t.objects connection ≡ Some (Connection server None rest) = other_object s.objects next (Thread thread) connection apart ∙ e in
    let out : times next rest ≡ 0 = rw e at (next_is_off.nowhere (Calling connection)) in
    let joins : Joins (t.objects connection) (Some new) next connection (Served connection) = rw still (joins_served server next connection None rest out) in
    others_off t (with_objects t (with_object t.objects connection new)) next me (Served connection) (enters_list t next connection new (Served connection) joins set)
    (does_now s.objects next thread (Served connection) does) (λ same. ne (sym same)) (set_others s next me thread next_is_off off)

-- Serve.

pub connection_apart : (s : State) (connection id : ℕ) (place : ThreadState) → state_of (s.objects connection) ≡ None → StandsIn s id place → IsPlaced s → connection ≢ id
connection_apart s connection id place none stood h same =
    let does = h.does place id stood in
    let f : Some place ≡ None = sym does ∙ ap (λ (i : ℕ). state_of (s.objects i)) (sym same) ∙ none in
    cc

pub keeps_next : (s : State) (core : ℕ) (c : Chosen) (thread : ThreadRecord) (connection server next : ℕ) (rest : List ℕ) → s.objects connection ≡ Some (Connection server None (next ∷ rest)) → IsTaken s core c
    → Keeps s core c (serve_next s thread connection server None (next ∷ rest))
keeps_next s core c thread connection server next rest e taken =
    let me = c.occupant.thread in
    let t = without s core c.queue in
    let placed = taken.off.placed in
    let u = idle t connection server rest in
    let served = altered (thread_at s next) (Served connection) (thread_at s next).x in
    let off = idle_off t me connection server None (next ∷ rest) rest (λ id. first_less id next rest) e taken.off in
    let stood : StandsIn t next (Calling connection) = rw e (first_is_there next rest) in
    let apart = connection_apart t connection next (Calling connection) (ap state_of e) stood placed in
    let next_free : IsOff u next = record { placed = off.placed; nowhere = caller_left t connection server next None rest e placed } in
    let now = next_off u me connection server next rest served (there_now t.objects connection (Connection server None rest)) refl (stands_apart t me next (Calling connection) taken.off stood) apart next_free off in
    let effect = serve_next s thread connection server None (next ∷ rest) in
    acts s core c effect (off_alike
    (with_objects u (with_object (with_object u.objects next (Thread served)) connection (Connection server (Some next) rest)))
    (changed_by t effect) me
    (changed_around t.objects connection next (Connection server None rest) (Thread served) (Connection server (Some next) rest) apart)
    (sym (append-nil c.queue))
    refl
    now)

-- the client that was served, with the server's values
abbrev pub done : State → ThreadRecord → ℕ → ThreadRecord
done s thread client = altered (thread_at s client) Ready (handed (thread_at s client).x (arg thread 1) (arg thread 2))

pub keeps_next_after : (s : State) (core : ℕ) (c : Chosen) (thread : ThreadRecord) (connection server client next : ℕ) (rest : List ℕ) → s.objects connection ≡ Some (Connection server (Some client) (next ∷ rest))
    → IsTaken s core c → Keeps s core c (serve_next s thread connection server (Some client) (next ∷ rest))
keeps_next_after s core c thread connection server client next rest e taken =
    let me = c.occupant.thread in
    let t = without s core c.queue in
    let placed = taken.off.placed in
    let u = idle t connection server rest in
    let ready = done s thread client in
    let served = altered (thread_at s next) (Served connection) (thread_at s next).x in
    let less : (id : ℕ) → times id rest ≤ times id (next ∷ rest) = λ id. first_less id next rest in
    let off = idle_off t me connection server (Some client) (next ∷ rest) rest less e taken.off in
    let calls : StandsIn t next (Calling connection) = rw e (first_is_there next rest) in
    let is_served : StandsIn t client (Served connection) = rw e (first_is_there client []) in
    let other : client ≢ next = λ same.
    (let here : StandsIn t next (Served connection) = rw same at is_served in
    let f = one_place t next (Calling connection) (Served connection) placed calls here in cc) in
    let next_free : IsOff u next = record { placed = off.placed; nowhere = caller_left t connection server next (Some client) rest e placed } in
    let client_free : IsOff u client = record { placed = off.placed; nowhere = client_left t connection server client (next ∷ rest) rest less e placed } in
    let v = woken u client ready in
    let off_v = woken_off u me client ready refl (stands_apart t me client (Served connection) taken.off is_served) client_free off in
    let next_v = woken_off u next client ready refl other client_free next_free in
    let apart = connection_apart t connection next (Calling connection) (ap state_of e) calls placed in
    let client_apart = connection_apart t connection client (Served connection) (ap state_of e) is_served placed in
    let still : v.objects connection ≡ Some (Connection server None rest) = other_object u.objects client (Thread ready) connection client_apart ∙ there_now t.objects connection (Connection server None rest) in
    let now = next_off v me connection server next rest served still refl (stands_apart t me next (Calling connection) taken.off calls) apart next_v off_v in
    let effect = serve_next s thread connection server (Some client) (next ∷ rest) in
    acts s core c effect (off_alike
    (with_objects v (with_object (with_object v.objects next (Thread served)) connection (Connection server (Some next) rest)))
    (changed_by t effect) me
    (ap (λ (objects : ℕ → Option Object). with_object (with_object objects next (Thread served)) connection (Connection server (Some next) rest)) (swapped t.objects connection client (Connection server None rest) (Thread ready) client_apart)
    ∙ changed_around (with_object t.objects client (Thread ready)) connection next (Connection server None rest) (Thread served) (Connection server (Some next) rest) apart)
    refl
    refl
    now)

pub keeps_last : (s : State) (core : ℕ) (c : Chosen) (thread : ThreadRecord) (connection server client : ℕ) → s.objects connection ≡ Some (Connection server (Some client) []) → IsTaken s core c
    → Keeps s core c (serve_next s thread connection server (Some client) [])
keeps_last s core c thread connection server client e taken =
    let me = c.occupant.thread in
    let t = without s core c.queue in
    let placed = taken.off.placed in
    let u = idle t connection server [] in
    let ready = done s thread client in
    let less : (id : ℕ) → times id [] ≤ times id [] = λ id. omega arith in
    let off = idle_off t me connection server (Some client) [] [] less e taken.off in
    let is_served : StandsIn t client (Served connection) = rw e (first_is_there client []) in
    let client_free : IsOff u client = record { placed = off.placed; nowhere = client_left t connection server client [] [] less e placed } in
    let v = woken u client ready in
    let off_v = woken_off u me client ready refl (stands_apart t me client (Served connection) taken.off is_served) client_free off in
    let client_apart = connection_apart t connection client (Served connection) (ap state_of e) is_served placed in
    let effect = serve_next s thread connection server (Some client) [] in
    acts s core c effect (off_alike v (changed_by t effect) me (swapped t.objects connection client (Connection server None []) (Thread ready) client_apart) refl refl off_v)

pub keeps_serve_next : (s : State) (core : ℕ) (c : Chosen) (thread : ThreadRecord) (connection server : ℕ) (client : Option ℕ) (clients : List ℕ) → s.objects connection ≡ Some (Connection server client clients)
    → IsTaken s core c → Keeps s core c (serve_next s thread connection server client clients)
keeps_serve_next s core c thread connection server None (next ∷ rest) e taken = keeps_next s core c thread connection server next rest e taken
keeps_serve_next s core c thread connection server (Some client) (next ∷ rest) e taken = keeps_next_after s core c thread connection server client next rest e taken
keeps_serve_next s core c thread connection server (Some client) [] e taken = keeps_last s core c thread connection server client e taken
keeps_serve_next s core c thread connection server None [] e taken = acts_alone s core c (waits thread (Serving connection)) refl refl taken

pub keeps_serve : (s : State) (core : ℕ) (c : Chosen) (thread : ThreadRecord) (connection : ℕ) (o : Option Object) → s.objects connection ≡ o → IsTaken s core c
    → Keeps s core c (serve_effect s thread connection o)
keeps_serve s core c thread connection (Some (Connection server client clients)) e taken = keeps_serve_next s core c thread connection server client clients e taken
keeps_serve s core c thread connection o e taken = acts_alone s core c (answers thread 0) refl refl taken
