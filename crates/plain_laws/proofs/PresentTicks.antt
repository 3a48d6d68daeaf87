-- Threads that stand where their states say: a core takes a thread for a tick, and what becomes of it.
use Rattle.std.specs.Prelude.{◌≡◌, ◌≢◌, ℕ, ◌-◌, ◌≤◌, ◌<◌, ◌==◌, Bool, true, false, List, [], ◌∷◌, ◌++◌, length, Option, Some, None, slice_index_or, slice_set, if◌then◌else◌}
use Rattle.std.proofs.Common.{refl, ap, sym, ◌∙◌, arith, inl, inr, subst, append-nil, get_or-set_other}
use Rattle.std.proofs.lemmas.Bool.{cases_eq, ne_eqb, eq-eqb}
use Rattle.std.proofs.lemmas.List.{get_or-set_same, length-set}
use Rattle.sls_base.specs.declared.limits.TheConstants.{CORE_SLICE}
use Rattle.sls_base.specs.declared.thread.Thread.{Thread as ThreadRecord}
use Rattle.sls_base.specs.declared.thread.ThreadState.{ThreadState}
use Rattle.sls_base.specs.declared.thread.ThreadState.TheVariants.{Ready, Running, Waiting, Calling, Served, Serving, Stopped}
use Rattle.plain_state.specs.declared.objects.Occupant.{Occupant}
use Rattle.plain_state.specs.declared.effect.Goes.{Goes}
use Rattle.plain_state.specs.declared.effect.Goes.TheVariants.{On, Back, Asleep, Stop}
use Rattle.plain_state.specs.declared.effect.ByteStore.{ByteStore}
use Rattle.plain_state.specs.declared.effect.Place.{Place}
use Rattle.plain_model.specs.Objects.{Object, Thread, Memory, Connection}
use Rattle.plain_model.specs.States.{State, thread_at, with_object}
use Rattle.plain_model.specs.Memory.{memory_with, with_store, with_stores}
use Rattle.plain_model.specs.Effects.{Effect}
use Rattle.plain_model.specs.Ticks.{Chosen, chosen, own_or_front, state_after, on_core, thread_after, state_with, at_slice_end}
use Rattle.plain_laws.specs.Places.{state_of, waiters_of, clients_of, served_of, running_on, times, StandsIn, names_place, IsPlaced, IsPresent}
use Rattle.plain_laws.proofs.Changes.{other_object}
use Rattle.plain_laws.proofs.PlacedObjects.{with_objects}
use Rattle.plain_laws.proofs.Placed.{times_more, times_same, with_core}
use Rattle.plain_laws.proofs.PlacedTicks.{taken, choice, does_now, set_twice, without, changed_by, finished}
use Rattle.plain_laws.proofs.Present.{IsThere, HaveSlices, all_there, are_present, there_alike, there_back, there_set, there_queued, thread_holds}

-- a core that there is has chosen a thread, and all others stand where their states say
pub record IsReady (s : State) (core : ℕ) (c : Chosen) : Type 0 where
  pub below : core < length s.cores
  pub slices : HaveSlices s.cores
  pub slice : (1 ≤ c.occupant.slice) × (c.occupant.slice ≤ CORE_SLICE)
  pub own : (state : ThreadState) × (state_of (s.objects c.occupant.thread) ≡ Some state)
  pub there : IsThere (without s core c.queue) (c.occupant.thread ∷ [])

-- Another queue and other cores, with no fewer threads.

moves_place : (s : State) (queue : List ℕ) (cores : List (Option Occupant)) (id : ℕ) → times id s.queue ≤ times id queue
    → ((k : ℕ) → times id (running_on (slice_index_or s.cores k None)) ≤ times id (running_on (slice_index_or cores k None)))
    → (place : ThreadState) → StandsIn s id place → StandsIn (record s { queue = queue; cores = cores }) id place
moves_place s queue cores id more runs Ready l = omega arith
moves_place s queue cores id more runs (Running k) l = (let r = runs k in omega arith)
moves_place s queue cores id more runs p l = l

moved : (s : State) (queue : List ℕ) (cores : List (Option Occupant)) (out still : List ℕ) → ((id : ℕ) → times id still ≡ 0 → times id out ≡ 0)
    → ((id : ℕ) → times id still ≡ 0 → times id s.queue ≤ times id queue)
    → ((id k : ℕ) → times id still ≡ 0 → times id (running_on (slice_index_or s.cores k None)) ≤ times id (running_on (slice_index_or cores k None)))
    → IsThere s out → IsThere (record s { queue = queue; cores = cores }) still
moved s queue cores out still fewer more runs h = record {
  stands = λ id place none e n. moves_place s queue cores id (more id none) (λ k. runs id k none) place (h.stands id place (fewer id none) e n);
  serves = λ id connection none e. h.serves id connection (fewer id none) e;
}

-- A core takes a thread.

-- who runs elsewhere than on a core still does where that core gets another thread, or none
core_left : (cores : List (Option Occupant)) (core : ℕ) (o : Option Occupant) (id k : ℕ) → times id (running_on (slice_index_or cores core None)) ≡ 0
    → times id (running_on (slice_index_or cores k None)) ≤ times id (running_on (slice_index_or (slice_set cores core o) k None))
core_left cores core o id k gone = elim (cases_eq k core) [
  | inl is ↦ rw is (omega arith)
  | inr ne ↦ rw (get_or-set_other cores core k o None ne) (omega arith)
]

left_there : (s : State) (core : ℕ) (c : Chosen) → ((id : ℕ) → times id (c.occupant.thread ∷ []) ≡ 0 → times id s.queue ≤ times id c.queue)
    → ((id : ℕ) → times id (c.occupant.thread ∷ []) ≡ 0 → times id (running_on (slice_index_or s.cores core None)) ≡ 0)
    → IsPresent s → IsThere (without s core c.queue) (c.occupant.thread ∷ [])
left_there s core c more gone present =
    moved s c.queue (slice_set s.cores core None) [] (c.occupant.thread ∷ []) (λ id none. refl) more
    (λ id k none. core_left s.cores core None id k (gone id none)) (all_there s present)

ready_or : (s : State) (core : ℕ) (c : Chosen) (o : Option Occupant) (queue : List ℕ) → slice_index_or s.cores core None ≡ o → s.queue ≡ queue → own_or_front o queue ≡ Some c
    → IsPresent s → ((1 ≤ c.occupant.slice) × (c.occupant.slice ≤ CORE_SLICE)) × IsThere (without s core c.queue) (c.occupant.thread ∷ [])
ready_or s core c (Some o) queue is q e present =
    let occupant : o ≡ c.occupant = cc in
    let same : queue ≡ c.queue = cc in
    let runs : slice_index_or s.cores core None ≡ Some c.occupant = cc in
    let waits : s.queue ≡ c.queue = cc in
    (present.slices core c.occupant runs, left_there s core c (λ id none. rw waits (omega arith)) (λ id none. rw runs none) present)
ready_or s core c None [] is q e present = absurd (cc)
ready_or s core c None (id ∷ rest) is q e present =
    let all : choice (record { thread = id; slice = CORE_SLICE }) rest ≡ c = cc in
    let whole : CORE_SLICE ≡ c.occupant.slice = ap (λ (x : Chosen). x.occupant.slice) all in
    let front : id ≡ c.occupant.thread = ap (λ (x : Chosen). x.occupant.thread) all in
    let same : rest ≡ c.queue = ap (λ (x : Chosen). x.queue) all in
    let waits : s.queue ≡ c.occupant.thread ∷ c.queue = cc in (
      (omega arith, omega arith),
      left_there s core c (λ i none. rw waits (let a = times_more i (c.occupant.thread ∷ []) c.queue in omega arith)) (λ i none. rw is refl) present,
    )

pub ready_for : (s : State) (core : ℕ) (c : Chosen) → chosen s core ≡ Some c → core < length s.cores → IsPlaced s → IsPresent s → IsReady s core c
ready_for s core c e below placed present =
    let h = ready_or s core c (slice_index_or s.cores core None) s.queue refl refl e present in
    let t = taken s core c e placed in record {
      below = below;
      slices = present.slices;
      slice = h.0;
      own = (t.place, placed.does t.place c.occupant.thread t.stood);
      there = h.1;
    }

-- the state after an effect has each thread where its state says
abbrev pub Stays : State → ℕ → Chosen → Effect → Type 0
Stays s core c e = IsPresent (state_with s core c (at_slice_end (c.occupant.slice - 1) e.goes) e)

abbrev pub IsAwake : Goes → Type 0
IsAwake (Asleep state) = ⊥
IsAwake goes = Unit {0}

-- The thread after its tick.

out_twice : (id me : ℕ) → times id (me ∷ []) ≡ 0 → times id (me ∷ me ∷ []) ≡ 0
out_twice id me none = (let a = times_more id (me ∷ []) (me ∷ []) in omega arith)

-- the thread does something else
set_there : (s : State) (me : ℕ) (thread : ThreadRecord) (state : ThreadState) → state_of (s.objects me) ≡ Some state → IsThere s (me ∷ [])
    → IsThere (with_objects s (with_object s.objects me (Thread thread))) (me ∷ [])
set_there s me thread state does h =
    let t = with_objects s (with_object s.objects me (Thread thread)) in
    moved t t.queue t.cores (me ∷ me ∷ []) (me ∷ []) (λ id none. out_twice id me none) (λ id none. omega arith) (λ id k none. omega arith)
    (there_set s me thread (me ∷ []) (thread_holds (s.objects me) state does) h)

-- a core that has no thread gets one
put_there : (s : State) (core : ℕ) (o : Option Occupant) (out : List ℕ) → slice_index_or s.cores core None ≡ None → IsThere s out → IsThere (with_core s core o) out
put_there s core o out none h =
    moved s s.queue (slice_set s.cores core o) out out (λ id e. e) (λ id e. omega arith) (λ id k e. core_left s.cores core o id k (rw none refl)) h

freed : (cores : List (Option Occupant)) (core : ℕ) → core < length cores → slice_index_or (slice_set cores core None) core None ≡ None
freed cores core below = get_or-set_same cores core None None below

-- the thread that ran on a core was taken from it
record IsFree (s : State) (core : ℕ) : Type 0 where
  below : core < length s.cores
  free : slice_index_or s.cores core None ≡ None

-- where a thread goes, it stands there, unless it falls asleep
stands_after : (s : State) (core me left : ℕ) (goes : Goes) (thread : ThreadRecord) (state : ThreadState) → thread.state ≡ state_after core goes → IsAwake goes → IsFree s core → state_of (s.objects me) ≡ Some state
    → IsThere s (me ∷ []) → IsThere (finished s core me left goes thread) []
stands_after s core me left On thread state is awake free does h =
    let t = with_objects s (with_object s.objects me (Thread thread)) in
    let o : Occupant = record { thread = me; slice = left } in
    let u = with_core t core (Some o) in
    let set = put_there t core (Some o) (me ∷ []) free.free (set_there s me thread state does h) in
    there_alike u (finished s core me left On thread) [] refl (sym (append-nil s.queue)) refl
    (there_back u me [] (Running core) set (does_now s.objects me thread (Running core) is)
    (λ named. rw (get_or-set_same s.cores core (Some o) None free.below) (let same = times_same me in omega arith))
    (λ connection e. absurd (cc)))
stands_after s core me left Back thread state is awake free does h =
    let t = with_objects s (with_object s.objects me (Thread thread)) in
    let u = with_core t core None in
    let set = put_there t core None (me ∷ []) free.free (set_there s me thread state does h) in
    there_queued u me [] set (does_now s.objects me thread Ready is)
stands_after s core me left (Asleep place) thread state is awake free does h = absurd awake
stands_after s core me left (Stop cause) thread state is awake free does h =
    let t = with_objects s (with_object s.objects me (Thread thread)) in
    let u = with_core t core None in
    let set = put_there t core None (me ∷ []) free.free (set_there s me thread state does h) in
    there_alike u (finished s core me left (Stop cause) thread) [] refl (sym (append-nil s.queue)) refl
    (there_back u me [] (Stopped cause) set (does_now s.objects me thread (Stopped cause) is) (λ named. absurd (cc)) (λ connection e. absurd (cc)))

-- the slices after a tick

slices_set : (cores : List (Option Occupant)) (core : ℕ) (o : Option Occupant) → core < length cores → ((occupant : Occupant) → o ≡ Some occupant → (1 ≤ occupant.slice) × (occupant.slice ≤ CORE_SLICE)) → HaveSlices cores
    → HaveSlices (slice_set cores core o)
slices_set cores core o below new h = λ k occupant e. elim (cases_eq k core) [
  | inl is ↦ new occupant (sym (get_or-set_same cores core o None below) ∙ subst (λ (x : ℕ). slice_index_or (slice_set cores core o) x None ≡ Some occupant) is e)
  | inr ne ↦ h k occupant (sym (get_or-set_other cores core k o None ne) ∙ e)
]

slice_of : (o occupant : Occupant) → Some o ≡ Some occupant → o.slice ≡ occupant.slice
slice_of o occupant e = (let same : o ≡ occupant = cc in ap (λ (x : Occupant). x.slice) same)

left_slice : (me slice : ℕ) (goes : Goes) → slice ≤ CORE_SLICE → (occupant : Occupant) → on_core me (slice - 1) (at_slice_end (slice - 1) goes) ≡ Some occupant → (1 ≤ occupant.slice) × (occupant.slice ≤ CORE_SLICE)
left_slice me slice On most occupant e = elim (cases_eq (slice - 1) 0) [
  | inl is ↦ (let h = rw (eq-eqb (slice - 1) 0 is) at e in absurd (cc))
  | inr ne ↦
      let h = rw (ne_eqb (slice - 1) 0 ne) at e in
      let same : slice - 1 ≡ occupant.slice = slice_of (record { thread = me; slice = slice - 1 }) occupant h in
      (omega arith, omega arith)
]
left_slice me slice goes most occupant e = absurd (cc)

awake_if : (b : Bool) → IsAwake (if b then Back else On)
awake_if true = tt
awake_if false = tt

awake_at_end : (left : ℕ) (goes : Goes) → IsAwake goes → IsAwake (at_slice_end left goes)
awake_at_end left On awake = awake_if (left == 0)
awake_at_end left Back awake = tt
awake_at_end left (Asleep place) awake = absurd awake
awake_at_end left (Stop cause) awake = tt

slices_after : (s : State) (core : ℕ) (c : Chosen) (e : Effect) → IsReady s core c → HaveSlices (state_with s core c (at_slice_end (c.occupant.slice - 1) e.goes) e).cores
slices_after s core c e ready =
    slices_set s.cores core (on_core c.occupant.thread (c.occupant.slice - 1) (at_slice_end (c.occupant.slice - 1) e.goes)) ready.below
    (left_slice c.occupant.thread c.occupant.slice e.goes ready.slice.1) ready.slices

free_core : (s : State) (core : ℕ) (c : Chosen) (e : Effect) → core < length s.cores → IsFree (changed_by (without s core c.queue) e) core
free_core s core c e below = record { below = rw length-set below; free = freed s.cores core below }

-- what an effect does, but for the thread, keeps the others where they say: then so does the tick, where the thread stays awake or stops
pub acts_there : (s : State) (core : ℕ) (c : Chosen) (e : Effect) (state : ThreadState) → IsReady s core c → IsAwake e.goes → state_of ((changed_by (without s core c.queue) e).objects c.occupant.thread) ≡ Some state
    → IsThere (changed_by (without s core c.queue) e) (c.occupant.thread ∷ []) → Stays s core c e
acts_there s core c e state ready awake does there =
    let me = c.occupant.thread in
    let left = c.occupant.slice - 1 in
    let goes = at_slice_end left e.goes in
    let t = changed_by (without s core c.queue) e in
    let thread = thread_after core (thread_at s me) goes e in
    let all = stands_after t core me left goes thread state refl (awake_at_end left e.goes awake) (free_core s core c e ready.below) does there in
    are_present (state_with s core c goes e)
    (there_alike (finished t core me left goes thread) (state_with s core c goes e) [] refl refl (set_twice s.cores core None (on_core me left goes)) all)
    (slices_after s core c e ready)

-- a place of an object has its threads, also where the object of another number becomes a thread
other_place : (s : State) (me : ℕ) (thread : ThreadRecord) (state : ThreadState) (id : ℕ) → state_of (s.objects me) ≡ Some state → (place : ThreadState) → StandsIn s id place
    → StandsIn (with_objects s (with_object s.objects me (Thread thread))) id place
other_place s me thread state id does (Waiting i) l =
    let none = thread_holds (s.objects me) state does in
    let ne : i ≢ me = λ e. (let h : 1 ≤ times id (waiters_of (s.objects me)) = rw e at l in let g : 1 ≤ times id [] = rw none.waiters at h in absurd (omega arith)) in
    rw (other_object s.objects me (Thread thread) i ne) l
other_place s me thread state id does (Calling i) l =
    let none = thread_holds (s.objects me) state does in
    let ne : i ≢ me = λ e. (let h : 1 ≤ times id (clients_of (s.objects me)) = rw e at l in let g : 1 ≤ times id [] = rw none.clients at h in absurd (omega arith)) in
    rw (other_object s.objects me (Thread thread) i ne) l
other_place s me thread state id does (Served i) l =
    let none = thread_holds (s.objects me) state does in
    let ne : i ≢ me = λ e. (let h : 1 ≤ times id (served_of (s.objects me)) = rw e at l in let g : 1 ≤ times id [] = rw none.served at h in absurd (omega arith)) in
    rw (other_object s.objects me (Thread thread) i ne) l
other_place s me thread state id does p l = l

still_serves : (s : State) (me : ℕ) (thread : ThreadRecord) (state : ThreadState) (connection : ℕ) → state_of (s.objects me) ≡ Some state → s.objects connection ≡ Some (Connection me None [])
    → with_object s.objects me (Thread thread) connection ≡ Some (Connection me None [])
still_serves s me thread state connection does e =
    let none = thread_holds (s.objects me) state does in
    let ne : connection ≢ me = λ is. none.no_connection me (ap s.objects (sym is) ∙ e) in
    other_object s.objects me (Thread thread) connection ne ∙ e

-- and where it falls asleep in a place, or waits for clients
pub sleeps_there : (s : State) (core : ℕ) (c : Chosen) (e : Effect) (state place : ThreadState) → IsReady s core c → e.goes ≡ Asleep place → state_of ((changed_by (without s core c.queue) e).objects c.occupant.thread) ≡ Some state
    → IsThere (changed_by (without s core c.queue) e) (c.occupant.thread ∷ []) → (names_place place ≡ true → StandsIn (changed_by (without s core c.queue) e) c.occupant.thread place)
    → ((connection : ℕ) → place ≡ Serving connection → (changed_by (without s core c.queue) e).objects connection ≡ Some (Connection c.occupant.thread None [])) → Stays s core c e
sleeps_there s core c e state place ready asleep does there stands serves =
    let me = c.occupant.thread in
    let t = changed_by (without s core c.queue) e in
    let thread = thread_after core (thread_at s me) (Asleep place) e in
    let u = with_objects t (with_object t.objects me (Thread thread)) in
    let all = there_back u me [] place (set_there t me thread state does there) (does_now t.objects me thread place refl)
    (λ named. other_place t me thread state me does place (stands named)) (λ connection is. still_serves t me thread state connection does (serves connection is)) in
    let end : IsPresent (state_with s core c (Asleep place) e) = are_present (state_with s core c (Asleep place) e)
    (there_alike u (state_with s core c (Asleep place) e) [] refl (sym (append-nil (c.queue ++ e.wakes))) refl all)
    (slices_set s.cores core None ready.below (λ occupant is. absurd (cc)) ready.slices) in
    subst (λ (goes : Goes). IsPresent (state_with s core c (at_slice_end (c.occupant.slice - 1) goes) e)) (sym asleep) end

-- Stores: each object has the threads that it had, and memory none.
record HoldsSame (old new : Option Object) : Type 0 where
  does : state_of new ≡ state_of old
  waiters : waiters_of new ≡ waiters_of old
  clients : clients_of new ≡ clients_of old
  served : served_of new ≡ served_of old
  serves : (server : ℕ) → old ≡ Some (Connection server None []) → new ≡ Some (Connection server None [])

holds_itself : (o : Option Object) → HoldsSame o o
holds_itself o = record { does = refl; waiters = refl; clients = refl; served = refl; serves = λ server e. e }

stored_holds : (o : Option Object) (place : Place) (value : ℕ) → HoldsSame o (memory_with o place value)
stored_holds (Some (Memory pages)) place value = record { does = refl; waiters = refl; clients = refl; served = refl; serves = λ server e. absurd (cc) }
stored_holds o place value = holds_itself o

store_at_holds : (o : Option Object) (store : ByteStore) (b : Bool) → HoldsSame o (if b then memory_with o store.place store.value else o)
store_at_holds o store true = stored_holds o store.place store.value
store_at_holds o store false = holds_itself o

same_place : (s : State) (objects : ℕ → Option Object) → ((i : ℕ) → HoldsSame (s.objects i) (objects i)) → (id : ℕ) (place : ThreadState) → StandsIn s id place → StandsIn (with_objects s objects) id place
same_place s objects h id (Waiting i) l = rw ((h i).waiters) l
same_place s objects h id (Calling i) l = rw ((h i).clients) l
same_place s objects h id (Served i) l = rw ((h i).served) l
same_place s objects h id p l = l

same_there : (s : State) (objects : ℕ → Option Object) (out : List ℕ) → ((i : ℕ) → HoldsSame (s.objects i) (objects i)) → IsThere s out → IsThere (with_objects s objects) out
same_there s objects out h there = record {
  stands = λ id place none e named. same_place s objects h id place (there.stands id place none (sym (h id).does ∙ e) named);
  serves = λ id connection none e. (h connection).serves id (there.serves id connection none (sym (h id).does ∙ e));
}

stores_hold : (stores : List ByteStore) (objects : ℕ → Option Object) (i : ℕ) → HoldsSame (objects i) (with_stores objects stores i)
stores_hold [] objects i = holds_itself (objects i)
stores_hold (store ∷ stores) objects i =
    let first : HoldsSame (objects i) (with_store objects store i) = store_at_holds (objects i) store (i == store.place.memory) in
    let rest = stores_hold stores (with_store objects store) i in record {
      does = rest.does ∙ first.does;
      waiters = rest.waiters ∙ first.waiters;
      clients = rest.clients ∙ first.clients;
      served = rest.served ∙ first.served;
      serves = λ server e. rest.serves server (first.serves server e);
    }

-- an effect that changes no object but memory, and wakes nobody
pub stays_alone : (s : State) (core : ℕ) (c : Chosen) (e : Effect) → e.changes ≡ [] → e.wakes ≡ [] → IsAwake e.goes → IsReady s core c → Stays s core c e
stays_alone s core c e none nobody awake ready =
    let me = c.occupant.thread in
    let t = without s core c.queue in
    let objects = with_stores s.objects e.stores in
    let there = same_there t objects (me ∷ []) (stores_hold e.stores s.objects) ready.there in
    let unchanged : objects ≡ (changed_by t e).objects = rw none refl in
    let does : state_of (objects me) ≡ Some ready.own.0 = (stores_hold e.stores s.objects me).does ∙ ready.own.1 in
    acts_there s core c e ready.own.0 ready awake
    (ap (λ (o : ℕ → Option Object). state_of (o me)) (sym unchanged) ∙ does)
    (there_alike (with_objects t objects) (changed_by t e) (me ∷ []) unchanged (rw nobody (sym (append-nil c.queue))) refl there)
