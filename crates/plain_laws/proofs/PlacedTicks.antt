-- Places of threads: a thread leaves its place for a tick, and comes into one after it.
use Rattle.std.specs.Prelude.{◌≡◌, ◌≢◌, ℕ, zero, suc, ◌-◌, ◌≤◌, List, [], ◌∷◌, ◌++◌, Option, Some, None, slice_index_or, slice_set}
use Rattle.std.proofs.Common.{refl, ap, sym, ◌∙◌, arith, subst, append-nil}
use Rattle.sls_base.specs.declared.thread.Thread.{Thread as ThreadRecord}
use Rattle.sls_base.specs.declared.thread.ThreadState.{ThreadState}
use Rattle.sls_base.specs.declared.thread.ThreadState.TheVariants.{Ready, Running, Waiting, Calling, Served, Serving, Stopped}
use Rattle.sls_base.specs.declared.limits.TheConstants.{CORE_SLICE}
use Rattle.plain_state.specs.declared.objects.Occupant.{Occupant}
use Rattle.plain_state.specs.declared.effect.Goes.{Goes}
use Rattle.plain_state.specs.declared.effect.Goes.TheVariants.{On, Back, Asleep, Stop}
use Rattle.plain_model.specs.Objects.{Object, Thread}
use Rattle.plain_model.specs.States.{State, thread_at, with_object}
use Rattle.plain_model.specs.Memory.{with_stores}
use Rattle.plain_model.specs.Effects.{Effect}
use Rattle.plain_model.specs.Ticks.{Chosen, chosen, own_or_front, state_after, on_core, at_back, thread_after, with_changes, state_with, at_slice_end}
use Rattle.plain_laws.specs.Places.{state_of, waiters_of, clients_of, served_of, running_on, threads_in, times, StandsIn, IsPlaced}
use Rattle.plain_laws.proofs.Changes.{other_object}
use Rattle.plain_laws.proofs.Placed.{IsOff, NoMore, still_off, left_place, entered, others_off, times_more, times_same, queued, enters_queue, with_core, put_on_core, core_others, core_freed, enters_core}
use Rattle.plain_laws.proofs.PlacedObjects.{with_objects, set_off, set_others, there_now, swapped, Joins, enters_list, stores_off}

-- The places go by the objects, the queue and the cores alone.

pub places_same : (s t : State) → s.objects ≡ t.objects → s.queue ≡ t.queue → s.cores ≡ t.cores → (place : ThreadState) → threads_in s place ≡ threads_in t place
places_same s t o q k Ready = q
places_same s t o q k (Running core) = ap (λ (cores : List (Option Occupant)). running_on (slice_index_or cores core None)) k
places_same s t o q k (Waiting i) = ap (λ (objects : ℕ → Option Object). waiters_of (objects i)) o
places_same s t o q k (Calling i) = ap (λ (objects : ℕ → Option Object). clients_of (objects i)) o
places_same s t o q k (Served i) = ap (λ (objects : ℕ → Option Object). served_of (objects i)) o
places_same s t o q k (Serving i) = refl
places_same s t o q k (Stopped cause) = refl

pub times_alike : (s t : State) → s.objects ≡ t.objects → s.queue ≡ t.queue → s.cores ≡ t.cores → (place : ThreadState) (id : ℕ) → times id (threads_in s place) ≡ times id (threads_in t place)
times_alike s t o q k place id = ap (times id) (places_same s t o q k place)

pub placed_alike : (s t : State) → s.objects ≡ t.objects → s.queue ≡ t.queue → s.cores ≡ t.cores → IsPlaced s → IsPlaced t
placed_alike s t o q k h = record {
  once = λ place id. (let a = times_alike s t o q k place id in let b = h.once place id in omega arith);
  does = λ place id l.
      let stood : StandsIn s id place = (let a = times_alike s t o q k place id in omega arith) in
      ap (λ (objects : ℕ → Option Object). state_of (objects id)) (sym o) ∙ h.does place id stood;
}

pub off_alike : (s t : State) (me : ℕ) → s.objects ≡ t.objects → s.queue ≡ t.queue → s.cores ≡ t.cores → IsOff s me → IsOff t me
off_alike s t me o q k h = record {
  placed = placed_alike s t o q k h.placed;
  nowhere = λ place. (let a = times_alike s t o q k place me in let b = h.nowhere place in omega arith);
}

-- A core takes a thread.

-- the state without the thread in its place
abbrev pub without : State → ℕ → List ℕ → State
without s core queue = record s { queue = queue; cores = slice_set s.cores core None }

pub without_has_no_more : (s : State) (core : ℕ) (queue : List ℕ) → ((id : ℕ) → times id queue ≤ times id s.queue) → NoMore s (without s core queue)
without_has_no_more s core queue h Ready id = h id
without_has_no_more s core queue h (Running k) id = core_others s core None id refl (Running k)
without_has_no_more s core queue h p id = omega arith

pub without_placed : (s : State) (core : ℕ) (queue : List ℕ) → NoMore s (without s core queue) → IsPlaced s → IsPlaced (without s core queue)
without_placed s core queue fewer h = record {
  once = λ place id. (let a = fewer place id in let b = h.once place id in omega arith);
  does = λ place id l. h.does place id (let a = fewer place id in omega arith);
}

-- the thread that a core chose stood in a place, and without it the state is placed
pub record IsTaken (s : State) (core : ℕ) (c : Chosen) : Type 0 where
  pub placed : IsPlaced s
  pub place : ThreadState
  pub stood : StandsIn s c.occupant.thread place
  pub fewer : NoMore s (without s core c.queue)
  pub off : IsOff (without s core c.queue) c.occupant.thread

abbrev pub choice : Occupant → List ℕ → Chosen
choice occupant queue = record { occupant = occupant; queue = queue }

pub taken_from : (s : State) (core : ℕ) (c : Chosen) (place : ThreadState) → IsPlaced s → StandsIn s c.occupant.thread place
    → ((id : ℕ) → times id c.queue ≤ times id s.queue) → times c.occupant.thread (threads_in (without s core c.queue) place) ≡ 0 → IsTaken s core c
taken_from s core c place h stood less gone =
    let fewer = without_has_no_more s core c.queue less in record {
      placed = h;
      place = place;
      stood = stood;
      fewer = fewer;
      off = record {
        placed = without_placed s core c.queue fewer h;
        nowhere = left_place s (without s core c.queue) c.occupant.thread place h fewer stood gone;
      };
    }

pub taken_own : (s : State) (core : ℕ) (o : Occupant) → slice_index_or s.cores core None ≡ Some o → IsPlaced s → IsTaken s core (choice o s.queue)
taken_own s core o e h =
    let same = times_same o.thread in
    taken_from s core (choice o s.queue) (Running core) h
    (rw e (omega arith))
    (λ id. omega arith)
    (let a = put_on_core s.cores core None o.thread in omega arith)

pub taken_front : (s : State) (core id : ℕ) (rest : List ℕ) → s.queue ≡ id ∷ rest → IsPlaced s → IsTaken s core (choice (record { thread = id; slice = CORE_SLICE }) rest)
taken_front s core id rest e h =
    let count = times_more id (id ∷ []) rest in
    let same = times_same id in
    let once = rw e at (h.once Ready id) in
    taken_from s core (choice (record { thread = id; slice = CORE_SLICE }) rest) Ready h
    (rw e (omega arith))
    (λ i. rw e (let a = times_more i (id ∷ []) rest in omega arith))
    (omega arith)

pub taken_or : (s : State) (core : ℕ) (c : Chosen) (o : Option Occupant) (queue : List ℕ) → slice_index_or s.cores core None ≡ o → s.queue ≡ queue → own_or_front o queue ≡ Some c
    → IsPlaced s → IsTaken s core c
taken_or s core c (Some o) queue is q e h =
    let t : IsTaken s core (choice o queue) = subst (λ (x : List ℕ). IsTaken s core (choice o x)) q (taken_own s core o is h) in
    let same : choice o queue ≡ c = cc in
    subst (λ (x : Chosen). IsTaken s core x) same t
taken_or s core c None [] is q e h = absurd (cc)
taken_or s core c None (id ∷ rest) is q e h =
    let same : choice (record { thread = id; slice = CORE_SLICE }) rest ≡ c = cc in
    subst (λ (x : Chosen). IsTaken s core x) same (taken_front s core id rest q h)

pub taken : (s : State) (core : ℕ) (c : Chosen) → chosen s core ≡ Some c → IsPlaced s → IsTaken s core c
taken s core c e h = taken_or s core c (slice_index_or s.cores core None) s.queue refl refl e h

-- The thread after its tick.

abbrev pub finished : State → ℕ → ℕ → ℕ → Goes → ThreadRecord → State
finished s core me left goes thread = record s {
  objects = with_object s.objects me (Thread thread);
  queue = s.queue ++ at_back me goes;
  cores = slice_set s.cores core (on_core me left goes);
}

pub does_now : (objects : ℕ → Option Object) (id : ℕ) (thread : ThreadRecord) (state : ThreadState) → thread.state ≡ state → state_of (with_object objects id (Thread thread) id) ≡ Some state
does_now objects id thread state e = rw (there_now objects id (Thread thread)) (ap (λ (x : ThreadState). Some x) e)

pub leaves_core : (s : State) (core me : ℕ) → IsOff s me → IsOff (with_core s core None) me
leaves_core s core me off = still_off s (with_core s core None) me (core_freed s core) (λ i ne. refl) off

pub finishes : (s : State) (core me left : ℕ) (goes : Goes) (thread : ThreadRecord) → thread.state ≡ state_after core goes → IsOff s me → IsPlaced (finished s core me left goes thread)
finishes s core me left On thread e off =
    let t = with_objects s (with_object s.objects me (Thread thread)) in
    let o : Occupant = record { thread = me; slice = left } in
    let set = set_off s me thread off in
    let end = entered t (with_core t core (Some o)) me (Running core) (enters_core t core o set) (does_now s.objects me thread (Running core) e) set.placed in
    placed_alike (with_core t core (Some o)) (finished s core me left On thread) refl (sym (append-nil s.queue)) refl end
finishes s core me left Back thread e off =
    let t = with_objects s (with_object s.objects me (Thread thread)) in
    let u = with_core t core None in
    let set = leaves_core t core me (set_off s me thread off) in
    entered u (queued u me) me Ready (enters_queue u me set) (does_now s.objects me thread Ready e) set.placed
finishes s core me left (Asleep state) thread e off =
    let t = with_objects s (with_object s.objects me (Thread thread)) in
    let set = leaves_core t core me (set_off s me thread off) in
    placed_alike (with_core t core None) (finished s core me left (Asleep state) thread) refl (sym (append-nil s.queue)) refl set.placed
finishes s core me left (Stop cause) thread e off =
    let t = with_objects s (with_object s.objects me (Thread thread)) in
    let set = leaves_core t core me (set_off s me thread off) in
    placed_alike (with_core t core None) (finished s core me left (Stop cause) thread) refl (sym (append-nil s.queue)) refl set.placed

pub set_twice : (cores : List (Option Occupant)) (core : ℕ) (a b : Option Occupant) → slice_set (slice_set cores core a) core b ≡ slice_set cores core b
set_twice [] core a b = refl
set_twice (x ∷ xs) zero a b = refl
set_twice (x ∷ xs) (suc core) a b = ap (λ (ys : List (Option Occupant)). x ∷ ys) (set_twice xs core a b)

-- What an effect does, but for the thread.
abbrev pub changed_by : State → Effect → State
changed_by s e = record s {
  objects = with_changes (with_stores s.objects e.stores) e.changes;
  queue = s.queue ++ e.wakes;
}

-- the state after an effect is placed
abbrev pub Keeps : State → ℕ → Chosen → Effect → Type 0
Keeps s core c e = IsPlaced (state_with s core c (at_slice_end (c.occupant.slice - 1) e.goes) e)

pub acts : (s : State) (core : ℕ) (c : Chosen) (e : Effect) → IsOff (changed_by (without s core c.queue) e) c.occupant.thread → Keeps s core c e
acts s core c e off =
    let me = c.occupant.thread in
    let left = c.occupant.slice - 1 in
    let goes = at_slice_end left e.goes in
    let t = changed_by (without s core c.queue) e in
    let thread = thread_after core (thread_at s me) goes e in
    placed_alike (finished t core me left goes thread) (state_with s core c goes e)
    refl
    refl
    (set_twice s.cores core None (on_core me left goes))
    (finishes t core me left goes thread refl off)

-- an effect that changes no object but memory, and wakes nobody
pub acts_alone : (s : State) (core : ℕ) (c : Chosen) (e : Effect) → e.changes ≡ [] → e.wakes ≡ [] → IsTaken s core c → Keeps s core c e
acts_alone s core c e none nobody taken =
    let t = without s core c.queue in
    let u = with_objects t (with_stores s.objects e.stores) in
    acts s core c e (off_alike u (changed_by t e) c.occupant.thread
    (rw none refl)
    (rw nobody (sym (append-nil c.queue)))
    refl
    (stores_off e.stores t c.occupant.thread taken.off))

-- A thread that stands nowhere is made Ready.

abbrev pub woken : State → ℕ → ThreadRecord → State
woken s id thread = record s { objects = with_object s.objects id (Thread thread); queue = s.queue ++ id ∷ [] }

pub woken_off : (s : State) (me id : ℕ) (thread : ThreadRecord) → thread.state ≡ Ready → id ≢ me → IsOff s id → IsOff s me → IsOff (woken s id thread) me
woken_off s me id thread e ne off me_off =
    let t = with_objects s (with_object s.objects id (Thread thread)) in
    let set = set_off s id thread off in
    others_off t (queued t id) id me Ready (enters_queue t id set) (does_now s.objects id thread Ready e) (λ same. ne (sym same)) (set_others s id me thread off me_off)

-- A thread that falls asleep in a list of an object.

abbrev pub asleep : State → ℕ → ℕ → Object → ThreadRecord → State
asleep s me i object thread = with_objects s (with_object (with_object s.objects i object) me (Thread thread))

pub falls_asleep : (s : State) (me i : ℕ) (object : Object) (thread : ThreadRecord) (place : ThreadState) → thread.state ≡ place → i ≢ me
    → Joins (s.objects i) (Some object) me i place → IsOff s me → IsPlaced (asleep s me i object thread)
falls_asleep s me i object thread place e ne joins off =
    let t = with_objects s (with_object s.objects me (Thread thread)) in
    let set = set_off s me thread off in
    let same : t.objects i ≡ s.objects i = other_object s.objects me (Thread thread) i ne in
    let joins_now : Joins (t.objects i) (Some object) me i place = subst (λ (o : Option Object). Joins o (Some object) me i place) (sym same) joins in
    let u = with_objects t (with_object t.objects i object) in
    placed_alike u (asleep s me i object thread)
    (sym (swapped s.objects i me object (Thread thread) ne))
    refl
    refl
    (entered t u me place (enters_list t me i object place joins_now set) (does_now s.objects me thread place e) set.placed)
