-- Threads that stand where their states say: the calls on connections.
use Rattle.std.specs.Prelude.{◌≡◌, ◌≢◌, ℕ, ◌≤◌, ◌==◌, Bool, true, false, List, [], ◌∷◌, ◌++◌, Option, Some, None}
use Rattle.std.proofs.Common.{refl, ap, sym, ◌∙◌, arith, inl, inr, append-nil}
use Rattle.std.proofs.lemmas.Bool.{cases_eq, eqb-true, eq-eqb}
use Rattle.sls_base.specs.declared.thread.Thread.{Thread as ThreadRecord}
use Rattle.sls_base.specs.declared.thread.ThreadState.{ThreadState}
use Rattle.sls_base.specs.declared.thread.ThreadState.TheVariants.{Ready, Waiting, Calling, Served, Serving}
use Rattle.plain_model.specs.Objects.{Object, Thread, Connection}
use Rattle.plain_model.specs.States.{State, thread_at, thread_of, with_object}
use Rattle.plain_model.specs.Effects.{Effect, answers, waits}
use Rattle.plain_model.specs.Calls.{arg}
use Rattle.plain_model.specs.CallRefusals.{is_server}
use Rattle.plain_model.specs.CallEffects.{call_effect, serve_effect, serve_next, is_serving, handed, ready_with, change}
use Rattle.plain_model.specs.Ticks.{Chosen}
use Rattle.plain_laws.specs.Places.{state_of, waiters_of, served_of, times, StandsIn}
use Rattle.plain_laws.proofs.Changes.{other_object}
use Rattle.plain_laws.proofs.Placed.{times_more, times_other, times_same}
use Rattle.plain_laws.proofs.PlacedObjects.{with_objects, there_now, swapped}
use Rattle.plain_laws.proofs.PlacedTicks.{IsTaken, without, changed_by, does_now, woken}
use Rattle.plain_laws.proofs.PlacedCalls.{is_other}
use Rattle.plain_laws.proofs.PlacedNotifications.{altered, first_less, first_is_there, stands_apart}
use Rattle.plain_laws.proofs.PlacedConnections.{serving_does, serving_nowhere, served_alike, done}
use Rattle.plain_laws.proofs.Present.{IsThere, there_alike, there_back, there_set, there_queued, thread_holds, StillHolds, there_changed}
use Rattle.plain_laws.proofs.PresentTicks.{IsReady, Stays, acts_there, sleeps_there, stays_alone}

-- Who is in a list.

pub other_than : (id x : ℕ) (out : List ℕ) → times id (x ∷ out) ≡ 0 → id ≢ x
other_than id x out e same = (let a = first_is_there x out in let b = ap (λ (i : ℕ). times i (x ∷ out)) same in absurd (omega arith))

pub none_of_rest : (id x : ℕ) (out : List ℕ) → times id (x ∷ out) ≡ 0 → times id out ≡ 0
none_of_rest id x out e = (let a = first_less id x out in omega arith)

pub only_one : (id x : ℕ) → 1 ≤ times id (x ∷ []) → id ≡ x
only_one id x l = elim (cases_eq id x) [
  | inl e ↦ e
  | inr ne ↦ (let a = times_other id x ne in absurd (omega arith))
]

pub last_is_there : (id : ℕ) (xs : List ℕ) → 1 ≤ times id (xs ++ id ∷ [])
last_is_there id xs = (let a = times_more id xs (id ∷ []) in let b = times_same id in omega arith)

-- A connection that changes: its clients still wait, but for those of a list, and it serves the client that it served.
pub connection_still : (s : State) (out : List ℕ) (i server : ℕ) (client new_client : Option ℕ) (clients new_clients : List ℕ) → s.objects i ≡ Some (Connection server client clients)
    → ((id : ℕ) → times id out ≡ 0 → times id clients ≤ times id new_clients)
    → ((id : ℕ) → times id out ≡ 0 → state_of (s.objects id) ≡ Some (Served i) → 1 ≤ times id (served_of (Some (Connection server new_client new_clients))))
    → ((id : ℕ) → times id out ≡ 0 → state_of (s.objects id) ≡ Some (Serving i) → ⊥)
    → IsThere s out → StillHolds s out i (Connection server new_client new_clients)
connection_still s out i server client new_client clients new_clients e calls served serves h = record {
  waiters = λ id none does. (let l : 1 ≤ times id (waiters_of (Some (Connection server client clients))) = rw e at (h.stands id (Waiting i) none does refl) in absurd (omega arith));
  clients = λ id none does. (let l : 1 ≤ times id clients = rw e at (h.stands id (Calling i) none does refl) in let a = calls id none in omega arith);
  served = served;
  serves = λ id none does. absurd (serves id none does);
}

-- a thread that stood somewhere, or waited for clients, is made Ready
pub woken_there : (s : State) (out : List ℕ) (id : ℕ) (thread : ThreadRecord) (state : ThreadState) → state_of (s.objects id) ≡ Some state → thread.state ≡ Ready → IsThere s out
    → IsThere (woken s id thread) out
woken_there s out id thread state e ready h =
    let t = with_objects s (with_object s.objects id (Thread thread)) in
    there_queued t id out (there_set s id thread out (thread_holds (s.objects id) state e) h) (does_now s.objects id thread Ready ready)

-- no connection is a thread
pub is_apart : (s : State) (connection id : ℕ) (state : ThreadState) → state_of (s.objects connection) ≡ None → state_of (s.objects id) ≡ Some state → connection ≢ id
is_apart s connection id state none does same =
    let f : Some state ≡ None = sym does ∙ ap (λ (i : ℕ). state_of (s.objects i)) (sym same) ∙ none in
    cc

-- what a third does is as it was
pub does_too : (objects : ℕ → Option Object) (i j me : ℕ) (a b : Object) (state : ThreadState) → i ≢ me → j ≢ me → state_of (objects me) ≡ Some state
    → state_of (with_object (with_object objects i a) j b me) ≡ Some state
does_too objects i j me a b state first second does =
    ap state_of (other_object (with_object objects i a) j b me (λ same. second (sym same)) ∙ other_object objects i a me (λ same. first (sym same))) ∙ does

-- Calls.

pub does_serving : (o : Option Object) (connection : ℕ) → state_of o ≡ Some (Serving connection) → is_serving (thread_of o).state connection ≡ true
does_serving (Some (Thread thread)) connection e = (let f : thread.state ≡ Serving connection = cc in rw f (eq-eqb connection connection refl))
does_serving o connection e = absurd (cc)

pub stays_served : (s : State) (core : ℕ) (c : Chosen) (thread : ThreadRecord) (connection server : ℕ) (client : Option ℕ) (clients : List ℕ)
    → s.objects connection ≡ Some (Connection server client clients) → state_of (s.objects server) ≡ Some (Serving connection) → IsTaken s core c → IsReady s core c
    → Stays s core c (record (waits thread (Served connection)) {
      changes = change connection (Connection server (Some c.occupant.thread) clients) ∷ ready_with s server (handed (thread_at s server).x (arg thread 1) (arg thread 2)) ∷ [];
      wakes = server ∷ [];
    })
stays_served s core c thread connection server client clients e does taken ready =
    let me = c.occupant.thread in
    let t = without s core c.queue in
    let old = Connection server client clients in
    let new = Connection server (Some me) clients in
    let other = altered (thread_at s server) Ready (handed (thread_at s server).x (arg thread 1) (arg thread 2)) in
    let effect : Effect = record (waits thread (Served connection)) {
      changes = change connection new ∷ ready_with s server (handed (thread_at s server).x (arg thread 1) (arg thread 2)) ∷ [];
      wakes = server ∷ [];
    } in
    let apart = is_apart s connection server (Serving connection) (ap state_of e) does in
    let not_me : server ≢ me = is_other s core c server taken (serving_nowhere s server connection does taken.placed) in
    let u = woken t server other in
    let idle : Some old ≡ Some (Connection server None []) = sym e ∙ ready.there.serves server connection (times_other server me not_me) does in
    let there : IsThere u (me ∷ []) = woken_there t (me ∷ []) server other (Serving connection) does refl ready.there in
    let still : u.objects connection ≡ Some old = other_object t.objects server (Thread other) connection apart ∙ e in
    let holds : StillHolds u (me ∷ []) connection new = connection_still u (me ∷ []) connection server client (Some me) clients clients still
    (λ id none. omega arith)
    (λ id none d.
    let l : 1 ≤ times id (served_of (Some old)) = rw still at (there.stands id (Served connection) none d refl) in
    let no : served_of (Some old) ≡ [] = ap served_of idle in
    let less : 1 ≤ times id [] = rw no at l in
    absurd (omega arith))
    (λ id none d.
    let is : Some old ≡ Some (Connection id None []) = sym still ∙ there.serves id connection none d in
    let same : server ≡ id = cc in
    let now = does_now t.objects server other Ready refl in
    let f : Some Ready ≡ Some (Serving connection) = sym now ∙ ap (λ (i : ℕ). state_of (u.objects i)) same ∙ d in
    cc)
    there in
    let changed = there_changed u connection new (me ∷ []) (ap state_of still) refl holds there in
    let v = changed_by t effect in
    let order = swapped t.objects connection server new (Thread other) apart in
    let after : IsThere v (me ∷ []) = there_alike (with_objects u (with_object u.objects connection new)) v (me ∷ []) (sym order) refl refl changed in
    let there_too : v.objects connection ≡ Some new = other_object (with_object t.objects connection new) server (Thread other) connection apart ∙ there_now t.objects connection new in
    sleeps_there s core c effect ready.own.0 (Served connection) ready refl
    (does_too t.objects connection server me new (Thread other) ready.own.0 (is_apart s connection me ready.own.0 (ap state_of e) ready.own.1) not_me ready.own.1)
    after
    (λ n. rw there_too (first_is_there me []))
    (λ k same. absurd (cc))

pub stays_calling : (s : State) (core : ℕ) (c : Chosen) (thread : ThreadRecord) (connection server : ℕ) (client : Option ℕ) (clients : List ℕ)
    → s.objects connection ≡ Some (Connection server client clients) → is_serving (thread_at s server).state connection ≡ false → IsReady s core c
    → Stays s core c (record (waits thread (Calling connection)) { changes = change connection (Connection server client (clients ++ c.occupant.thread ∷ [])) ∷ [] })
stays_calling s core c thread connection server client clients e idle ready =
    let me = c.occupant.thread in
    let t = without s core c.queue in
    let old = Connection server client clients in
    let new = Connection server client (clients ++ me ∷ []) in
    let effect : Effect = record (waits thread (Calling connection)) { changes = change connection new ∷ [] } in
    let apart = is_apart s connection me ready.own.0 (ap state_of e) ready.own.1 in
    let holds : StillHolds t (me ∷ []) connection new = connection_still t (me ∷ []) connection server client client clients (clients ++ me ∷ []) e
    (λ id none. (let a = times_more id clients (me ∷ []) in omega arith))
    (λ id none d.
    let l : 1 ≤ times id (served_of (Some old)) = rw e at (ready.there.stands id (Served connection) none d refl) in
    let same = served_alike server client (clients ++ me ∷ []) clients id in
    omega arith)
    (λ id none d.
    let is : Some old ≡ Some (Connection id None []) = sym e ∙ ready.there.serves id connection none d in
    let same : id ≡ server = cc in
    let does : state_of (s.objects server) ≡ Some (Serving connection) = rw same at d in
    let f : true ≡ false = sym (does_serving (s.objects server) connection does) ∙ idle in
    cc)
    ready.there in
    let changed = there_changed t connection new (me ∷ []) (ap state_of e) refl holds ready.there in
    let v = changed_by t effect in
    let after : IsThere v (me ∷ []) = there_alike (with_objects t (with_object t.objects connection new)) v (me ∷ []) refl (sym (append-nil c.queue)) refl changed in
    let now = there_now t.objects connection new in
    sleeps_there s core c effect ready.own.0 (Calling connection) ready refl
    (ap state_of (other_object t.objects connection new me (λ same. apart (sym same))) ∙ ready.own.1)
    after
    (λ n. rw now (last_is_there me clients))
    (λ k same. absurd (cc))

pub stays_call_if : (s : State) (core : ℕ) (c : Chosen) (thread : ThreadRecord) (connection server : ℕ) (client : Option ℕ) (clients : List ℕ) (b : Bool)
    → s.objects connection ≡ Some (Connection server client clients) → is_serving (thread_at s server).state connection ≡ b → IsTaken s core c → IsReady s core c
    → Stays s core c (call_effect s c.occupant.thread thread connection (Some (Connection server client clients)))
stays_call_if s core c thread connection server client clients true e serves taken ready =
    rw serves (stays_served s core c thread connection server client clients e (serving_does (s.objects server) connection serves) taken ready)
stays_call_if s core c thread connection server client clients false e serves taken ready =
    rw serves (stays_calling s core c thread connection server client clients e serves ready)

pub stays_call : (s : State) (core : ℕ) (c : Chosen) (thread : ThreadRecord) (connection : ℕ) (o : Option Object) → s.objects connection ≡ o → IsTaken s core c → IsReady s core c
    → Stays s core c (call_effect s c.occupant.thread thread connection o)
stays_call s core c thread connection (Some (Connection server client clients)) e taken ready =
    stays_call_if s core c thread connection server client clients (is_serving (thread_at s server).state connection) e refl taken ready
stays_call s core c thread connection o e taken ready = stays_alone s core c (answers thread 0) refl refl tt ready

-- Serve.

-- the first that waits is served, where nobody is
pub next_there : (s : State) (out : List ℕ) (connection server next : ℕ) (client : Option ℕ) (rest : List ℕ) (thread : ThreadRecord) → s.objects connection ≡ Some (Connection server client (next ∷ rest))
    → state_of (s.objects next) ≡ Some (Calling connection) → thread.state ≡ Served connection → ((id : ℕ) → times id out ≡ 0 → state_of (s.objects id) ≡ Some (Served connection) → ⊥) → IsThere s out
    → IsThere (with_objects s (with_object (with_object s.objects connection (Connection server (Some next) rest)) next (Thread thread))) out
next_there s out connection server next client rest thread e calls does unserved h =
    let old = Connection server client (next ∷ rest) in
    let new = Connection server (Some next) rest in
    let t = with_objects s (with_object s.objects next (Thread thread)) in
    let apart = is_apart s connection next (Calling connection) (ap state_of e) calls in
    let set : IsThere t (next ∷ out) = there_set s next thread out (thread_holds (s.objects next) (Calling connection) calls) h in
    let still : t.objects connection ≡ Some old = other_object s.objects next (Thread thread) connection apart ∙ e in
    let holds : StillHolds t (next ∷ out) connection new = connection_still t (next ∷ out) connection server client (Some next) (next ∷ rest) rest still
    (λ id none. (let a = times_more id (next ∷ []) rest in let b = times_other id next (other_than id next out none) in omega arith))
    (λ id none d.
    let same = ap state_of (other_object s.objects next (Thread thread) id (other_than id next out none)) in
    absurd (unserved id (none_of_rest id next out none) (sym same ∙ d)))
    (λ id none d. (let f : Some old ≡ Some (Connection id None []) = sym still ∙ set.serves id connection none d in cc))
    set in
    let u = with_objects t (with_object t.objects connection new) in
    let changed = there_changed t connection new (next ∷ out) (ap state_of still) refl holds set in
    let now = there_now t.objects connection new in
    let back = there_back u next out (Served connection) changed
    (ap state_of (other_object t.objects connection new next (λ same. apart (sym same))) ∙ does_now s.objects next thread (Served connection) does)
    (λ n. rw now (first_is_there next []))
    (λ k same. absurd (cc)) in
    there_alike u (with_objects s (with_object (with_object s.objects connection new) next (Thread thread))) out (sym (swapped s.objects connection next new (Thread thread) apart)) refl refl back

pub stays_next : (s : State) (core : ℕ) (c : Chosen) (thread : ThreadRecord) (connection server next : ℕ) (rest : List ℕ) → s.objects connection ≡ Some (Connection server None (next ∷ rest))
    → IsTaken s core c → IsReady s core c → Stays s core c (serve_next s thread connection server None (next ∷ rest))
stays_next s core c thread connection server next rest e taken ready =
    let me = c.occupant.thread in
    let t = without s core c.queue in
    let old = Connection server None (next ∷ rest) in
    let new = Connection server (Some next) rest in
    let caller = altered (thread_at s next) (Served connection) (thread_at s next).x in
    let effect = serve_next s thread connection server None (next ∷ rest) in
    let calls : StandsIn t next (Calling connection) = rw e (first_is_there next rest) in
    let not_me = stands_apart t me next (Calling connection) taken.off calls in
    let there = next_there t (me ∷ []) connection server next None rest caller e (taken.off.placed.does (Calling connection) next calls) refl
    (λ id none d. (let l : 1 ≤ times id (served_of (Some old)) = rw e at (ready.there.stands id (Served connection) none d refl) in absurd (omega arith)))
    ready.there in
    let v = changed_by t effect in
    acts_there s core c effect ready.own.0 ready tt
    (does_too t.objects connection next me new (Thread caller) ready.own.0 (is_apart s connection me ready.own.0 (ap state_of e) ready.own.1) not_me ready.own.1)
    (there_alike (with_objects t (with_object (with_object t.objects connection new) next (Thread caller))) v (me ∷ []) refl (sym (append-nil c.queue)) refl there)

-- who was served is Ready: then nobody is served
pub unserved_now : (s : State) (out : List ℕ) (connection server client : ℕ) (clients : List ℕ) (thread : ThreadRecord) → s.objects connection ≡ Some (Connection server (Some client) clients)
    → connection ≢ client → thread.state ≡ Ready → IsThere (woken s client thread) out
    → (id : ℕ) → times id out ≡ 0 → state_of ((woken s client thread).objects id) ≡ Some (Served connection) → ⊥
unserved_now s out connection server client clients thread e apart ready there id none does =
    let t = woken s client thread in
    let still : t.objects connection ≡ Some (Connection server (Some client) clients) = other_object s.objects client (Thread thread) connection apart ∙ e in
    let l : 1 ≤ times id (client ∷ []) = rw still at (there.stands id (Served connection) none does refl) in
    let same = only_one id client l in
    let now = does_now s.objects client thread Ready ready in
    let f : Some Ready ≡ Some (Served connection) = sym now ∙ ap (λ (i : ℕ). state_of (t.objects i)) (sym same) ∙ does in
    cc

pub stays_next_after : (s : State) (core : ℕ) (c : Chosen) (thread : ThreadRecord) (connection server client next : ℕ) (rest : List ℕ) → s.objects connection ≡ Some (Connection server (Some client) (next ∷ rest))
    → IsTaken s core c → IsReady s core c → Stays s core c (serve_next s thread connection server (Some client) (next ∷ rest))
stays_next_after s core c thread connection server client next rest e taken ready =
    let me = c.occupant.thread in
    let t = without s core c.queue in
    let placed = taken.off.placed in
    let old = Connection server (Some client) (next ∷ rest) in
    let new = Connection server (Some next) rest in
    let free = done s thread client in
    let caller = altered (thread_at s next) (Served connection) (thread_at s next).x in
    let effect = serve_next s thread connection server (Some client) (next ∷ rest) in
    let calls : StandsIn t next (Calling connection) = rw e (first_is_there next rest) in
    let is_served : StandsIn t client (Served connection) = rw e (first_is_there client []) in
    let calls_does = placed.does (Calling connection) next calls in
    let served_does = placed.does (Served connection) client is_served in
    let apart = is_apart t connection client (Served connection) (ap state_of e) served_does in
    let other : next ≢ client = λ same. (let f : Some (Calling connection) ≡ Some (Served connection) = sym calls_does ∙ ap (λ (i : ℕ). state_of (t.objects i)) same ∙ served_does in cc) in
    let u = woken t client free in
    let woken_up : IsThere u (me ∷ []) = woken_there t (me ∷ []) client free (Served connection) served_does refl ready.there in
    let still : u.objects connection ≡ Some old = other_object t.objects client (Thread free) connection apart ∙ e in
    let still_calls : state_of (u.objects next) ≡ Some (Calling connection) = ap state_of (other_object t.objects client (Thread free) next other) ∙ calls_does in
    let there = next_there u (me ∷ []) connection server next (Some client) rest caller still still_calls refl
    (unserved_now t (me ∷ []) connection server client (next ∷ rest) free e apart refl woken_up)
    woken_up in
    let me_too : state_of (u.objects me) ≡ Some ready.own.0 =
    ap state_of (other_object t.objects client (Thread free) me (λ same. stands_apart t me client (Served connection) taken.off is_served (sym same))) ∙ ready.own.1 in
    acts_there s core c effect ready.own.0 ready tt
    (does_too u.objects connection next me new (Thread caller) ready.own.0 (is_apart s connection me ready.own.0 (ap state_of e) ready.own.1) (stands_apart t me next (Calling connection) taken.off calls) me_too)
    (there_alike (with_objects u (with_object (with_object u.objects connection new) next (Thread caller))) (changed_by t effect) (me ∷ []) refl refl refl there)

-- a server that nobody calls waits for clients

pub same_server : (server me connection : ℕ) → (server == me) ≡ true → (objects : ℕ → Option Object) → objects connection ≡ Some (Connection server None [])
    → (k : ℕ) → Serving connection ≡ Serving k → objects k ≡ Some (Connection me None [])
same_server server me connection serves objects e k same =
    let is = eqb-true server me serves in
    let here : connection ≡ k = cc in
    ap objects (sym here) ∙ e ∙ ap (λ (i : ℕ). Some (Connection i None [])) is

pub stays_last : (s : State) (core : ℕ) (c : Chosen) (thread : ThreadRecord) (connection server client : ℕ) → s.objects connection ≡ Some (Connection server (Some client) [])
    → (server == c.occupant.thread) ≡ true → IsTaken s core c → IsReady s core c → Stays s core c (serve_next s thread connection server (Some client) [])
stays_last s core c thread connection server client e serves taken ready =
    let me = c.occupant.thread in
    let t = without s core c.queue in
    let old = Connection server (Some client) [] in
    let new = Connection server None [] in
    let free = done s thread client in
    let effect = serve_next s thread connection server (Some client) [] in
    let is_served : StandsIn t client (Served connection) = rw e (first_is_there client []) in
    let served_does = taken.off.placed.does (Served connection) client is_served in
    let apart = is_apart t connection client (Served connection) (ap state_of e) served_does in
    let u = woken t client free in
    let woken_up : IsThere u (me ∷ []) = woken_there t (me ∷ []) client free (Served connection) served_does refl ready.there in
    let still : u.objects connection ≡ Some old = other_object t.objects client (Thread free) connection apart ∙ e in
    let holds : StillHolds u (me ∷ []) connection new = connection_still u (me ∷ []) connection server (Some client) None [] [] still
    (λ id none. omega arith)
    (λ id none d. absurd (unserved_now t (me ∷ []) connection server client [] free e apart refl woken_up id none d))
    (λ id none d. (let f : Some old ≡ Some (Connection id None []) = sym still ∙ woken_up.serves id connection none d in cc))
    woken_up in
    let there = there_changed u connection new (me ∷ []) (ap state_of still) refl holds woken_up in
    let me_too : state_of (u.objects me) ≡ Some ready.own.0 =
    ap state_of (other_object t.objects client (Thread free) me (λ same. stands_apart t me client (Served connection) taken.off is_served (sym same))) ∙ ready.own.1 in
    let connection_too = is_apart s connection me ready.own.0 (ap state_of e) ready.own.1 in
    sleeps_there s core c effect ready.own.0 (Serving connection) ready refl
    (ap state_of (other_object u.objects connection new me (λ same. connection_too (sym same))) ∙ me_too)
    (there_alike (with_objects u (with_object u.objects connection new)) (changed_by t effect) (me ∷ []) refl refl refl there)
    (λ n. absurd (cc))
    (same_server server me connection serves (changed_by t effect).objects (there_now u.objects connection new))

pub stays_idle : (s : State) (core : ℕ) (c : Chosen) (thread : ThreadRecord) (connection server : ℕ) → s.objects connection ≡ Some (Connection server None []) → (server == c.occupant.thread) ≡ true
    → IsReady s core c → Stays s core c (waits thread (Serving connection))
stays_idle s core c thread connection server e serves ready =
    let me = c.occupant.thread in
    let t = without s core c.queue in
    let effect = waits thread (Serving connection) in
    sleeps_there s core c effect ready.own.0 (Serving connection) ready refl
    ready.own.1
    (there_alike t (changed_by t effect) (me ∷ []) refl (sym (append-nil c.queue)) refl ready.there)
    (λ n. absurd (cc))
    (same_server server me connection serves s.objects e)

pub stays_serve_next : (s : State) (core : ℕ) (c : Chosen) (thread : ThreadRecord) (connection server : ℕ) (client : Option ℕ) (clients : List ℕ) → s.objects connection ≡ Some (Connection server client clients)
    → (server == c.occupant.thread) ≡ true → IsTaken s core c → IsReady s core c → Stays s core c (serve_next s thread connection server client clients)
stays_serve_next s core c thread connection server None (next ∷ rest) e serves taken ready = stays_next s core c thread connection server next rest e taken ready
stays_serve_next s core c thread connection server (Some client) (next ∷ rest) e serves taken ready = stays_next_after s core c thread connection server client next rest e taken ready
stays_serve_next s core c thread connection server (Some client) [] e serves taken ready = stays_last s core c thread connection server client e serves taken ready
stays_serve_next s core c thread connection server None [] e serves taken ready = stays_idle s core c thread connection server e serves ready

pub stays_serve : (s : State) (core : ℕ) (c : Chosen) (thread : ThreadRecord) (connection : ℕ) (o : Option Object) → s.objects connection ≡ o → is_server c.occupant.thread o ≡ true → IsTaken s core c → IsReady s core c
    → Stays s core c (serve_effect s thread connection o)
stays_serve s core c thread connection (Some (Connection server client clients)) e serves taken ready = stays_serve_next s core c thread connection server client clients e serves taken ready
stays_serve s core c thread connection o e serves taken ready = stays_alone s core c (answers thread 0) refl refl tt ready
