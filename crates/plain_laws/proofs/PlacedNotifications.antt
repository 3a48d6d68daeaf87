-- Places of threads: the calls on notifications.
use Rattle.std.specs.Prelude.{◌≡◌, ◌≢◌, ℕ, ◌+◌, ◌-◌, ◌≤◌, ◌==◌, Bool, true, false, if◌then◌else◌, List, [], ◌∷◌, ◌++◌, Option, Some, None, slice_set}
use Rattle.std.proofs.Common.{refl, ap, sym, ◌∙◌, arith, append-nil}
use Rattle.sls_base.specs.declared.thread.Thread.{Thread as ThreadRecord}
use Rattle.sls_base.specs.declared.thread.ThreadState.{ThreadState}
use Rattle.sls_base.specs.declared.thread.ThreadState.TheVariants.{Ready, Waiting}
use Rattle.plain_state.specs.declared.calls.TheConstants.{ANSWER}
use Rattle.plain_state.specs.declared.effect.Goes.TheVariants.{Asleep}
use Rattle.plain_model.specs.Objects.{Object, Notification}
use Rattle.plain_model.specs.States.{State, thread_at, with_object}
use Rattle.plain_model.specs.Effects.{Effect, answers, waits}
use Rattle.plain_model.specs.CallEffects.{signal_effect, wait_effect, answers_with, change}
use Rattle.plain_model.specs.Ticks.{Chosen, thread_after, state_with}
use Rattle.plain_laws.specs.Places.{state_of, waiters_of, threads_in, times, StandsIn, IsPlaced}
use Rattle.plain_laws.proofs.Placed.{IsOff, left_place, times_more, times_other, times_same}
use Rattle.plain_laws.proofs.PlacedObjects.{HasNoMore, with_objects, one_has_no_more, changed_off, there_now, Joins}
use Rattle.plain_laws.proofs.PlacedTicks.{IsTaken, without, Keeps, acts, acts_alone, placed_alike, woken_off, asleep, falls_asleep}
use Rattle.plain_laws.proofs.PlacedCalls.{keeps_changed, acts_asleep_none, nothing_stands, is_other}

-- Lists with one thread less, or more.

pub first_less : (id x : ℕ) (xs : List ℕ) → times id xs ≤ times id (x ∷ xs)
first_less id x xs = (let a = times_more id (x ∷ []) xs in omega arith)

pub first_is_there : (x : ℕ) (xs : List ℕ) → 1 ≤ times x (x ∷ xs)
first_is_there x xs = (let a = times_more x (x ∷ []) xs in let b = times_same x in omega arith)

pub first_only : (x : ℕ) (xs : List ℕ) → times x (x ∷ xs) ≤ 1 → times x xs ≡ 0
first_only x xs l = (let a = times_more x (x ∷ []) xs in let b = times_same x in omega arith)

pub last_other : (other id : ℕ) (xs : List ℕ) → other ≢ id → times other (xs ++ id ∷ []) ≤ times other xs
last_other other id xs ne = (let a = times_more other xs (id ∷ []) in let b = times_other other id ne in omega arith)

pub last_once : (id : ℕ) (xs : List ℕ) → times id xs ≡ 0 → times id (xs ++ id ∷ []) ≤ 1
last_once id xs e = (let a = times_more id xs (id ∷ []) in let b = times_same id in omega arith)

-- Threads that stand somewhere are others than one that stands nowhere.

pub stands_apart : (s : State) (me id : ℕ) (place : ThreadState) → IsOff s me → StandsIn s id place → id ≢ me
stands_apart s me id place off stood e = (let a = off.nowhere place in let b : StandsIn s me place = rw e at stood in absurd (omega arith))

-- Signal.

pub notified_has_no_more : (count waiter : ℕ) (waiters : List ℕ) → HasNoMore (Some (Notification count (waiter ∷ waiters))) (Some (Notification count waiters))
notified_has_no_more count waiter waiters = record {
  waiters = λ id. first_less id waiter waiters;
  clients = λ id. omega arith;
  served = λ id. omega arith;
}

pub counted_has_no_more : (count new : ℕ) (waiters : List ℕ) → HasNoMore (Some (Notification count waiters)) (Some (Notification new waiters))
counted_has_no_more count new waiters = record { waiters = λ id. omega arith; clients = λ id. omega arith; served = λ id. omega arith }

pub waiter_left : (s : State) (note count waiter : ℕ) (waiters : List ℕ) → s.objects note ≡ Some (Notification count (waiter ∷ waiters)) → IsPlaced s → (place : ThreadState)
    → times waiter (threads_in (with_objects s (with_object s.objects note (Notification count waiters))) place) ≡ 0
waiter_left s note count waiter waiters e h =
    let fewer : HasNoMore (s.objects note) (Some (Notification count waiters)) = rw e (notified_has_no_more count waiter waiters) in
    let stood : StandsIn s waiter (Waiting note) = rw e (first_is_there waiter waiters) in
    let once : times waiter (waiter ∷ waiters) ≤ 1 = rw e at (h.once (Waiting note) waiter) in
    left_place s (with_objects s (with_object s.objects note (Notification count waiters))) waiter (Waiting note) h
    (one_has_no_more s note (Notification count waiters) fewer) stood
    (ap (λ (o : Option Object). times waiter (waiters_of o)) (there_now s.objects note (Notification count waiters)) ∙ first_only waiter waiters once)

-- a thread in another state and with other registers
abbrev pub altered : ThreadRecord → ThreadState → List ℕ → ThreadRecord
altered thread state x = record { group = thread.group; space = thread.space; state = state; pc = thread.pc; x = x }

pub keeps_woken_waiter : (s : State) (core : ℕ) (c : Chosen) (thread : ThreadRecord) (note count waiter : ℕ) (waiters : List ℕ) → s.objects note ≡ Some (Notification count (waiter ∷ waiters))
    → IsTaken s core c → Keeps s core c (signal_effect s thread note (Some (Notification count (waiter ∷ waiters))))
keeps_woken_waiter s core c thread note count waiter waiters e taken =
    let me = c.occupant.thread in
    let t = without s core c.queue in
    let u = with_objects t (with_object t.objects note (Notification count waiters)) in
    let fewer : HasNoMore (t.objects note) (Some (Notification count waiters)) = rw e (notified_has_no_more count waiter waiters) in
    let off = changed_off t me note (Notification count waiters) fewer (sym (ap state_of e)) taken.off in
    let stood : StandsIn t waiter (Waiting note) = rw e (first_is_there waiter waiters) in
    let free : IsOff u waiter = record { placed = off.placed; nowhere = waiter_left t note count waiter waiters e taken.off.placed } in
    acts s core c (signal_effect s thread note (Some (Notification count (waiter ∷ waiters))))
    (woken_off u me waiter (altered (thread_at s waiter) Ready (slice_set (thread_at s waiter).x ANSWER 0)) refl (stands_apart t me waiter (Waiting note) taken.off stood) free off)

pub keeps_signal : (s : State) (core : ℕ) (c : Chosen) (thread : ThreadRecord) (note : ℕ) (o : Option Object) → s.objects note ≡ o → IsTaken s core c → Keeps s core c (signal_effect s thread note o)
keeps_signal s core c thread note (Some (Notification count [])) e taken =
    keeps_changed s core c thread 0 note (Notification (count + 1) []) (record { none_does = refl; none_waits = refl; none_calls = refl; none_served = refl }) (ap state_of e) taken
keeps_signal s core c thread note (Some (Notification count (waiter ∷ waiters))) e taken = keeps_woken_waiter s core c thread note count waiter waiters e taken
keeps_signal s core c thread note o e taken = acts_alone s core c (answers thread 0) refl refl taken

-- Wait.

-- the thread falls asleep in a list of an object
pub keeps_asleep : (s : State) (core : ℕ) (c : Chosen) (thread : ThreadRecord) (i : ℕ) (object : Object) (place : ThreadState) → state_of (s.objects i) ≡ None
    → Joins (s.objects i) (Some object) c.occupant.thread i place → IsTaken s core c → Keeps s core c (record (waits thread place) { changes = change i object ∷ [] })
keeps_asleep s core c thread i object place none joins taken =
    let me = c.occupant.thread in
    let t = without s core c.queue in
    let e : Effect = record (waits thread place) { changes = change i object ∷ [] } in
    let after = thread_after core (thread_at s me) (Asleep place) e in
    placed_alike (asleep t me i object after) (state_with s core c (Asleep place) e)
    refl
    (sym (append-nil c.queue) ∙ sym (append-nil (c.queue ++ [])))
    refl
    (falls_asleep t me i object after place refl (is_other s core c i taken (nothing_stands s i none taken.placed)) joins taken.off)

pub joins_waiters : (count id note : ℕ) (waiters : List ℕ) → times id waiters ≡ 0 → Joins (Some (Notification count waiters)) (Some (Notification 0 (waiters ++ id ∷ []))) id note (Waiting note)
joins_waiters count id note waiters e = record {
  waiters = λ other ne. last_other other id waiters ne;
  clients = λ other ne. omega arith;
  served = λ other ne. omega arith;
  waits = last_once id waiters e;
  calls = omega arith;
  is_served = omega arith;
  waits_there = λ l. refl;
  calls_there = λ l. absurd (omega arith);
  served_there = λ l. absurd (omega arith);
  same = refl;
}

pub keeps_wait_if : (s : State) (core : ℕ) (c : Chosen) (thread : ThreadRecord) (note count : ℕ) (waiters : List ℕ) (b : Bool) → s.objects note ≡ Some (Notification count waiters) → IsTaken s core c
    → Keeps s core c (if b then record (waits thread (Waiting note)) { changes = change note (Notification 0 (waiters ++ c.occupant.thread ∷ [])) ∷ [] } else answers_with thread 0 (change note (Notification (count - 1) waiters) ∷ []))
keeps_wait_if s core c thread note count waiters true e taken =
    let me = c.occupant.thread in
    let out : times me waiters ≡ 0 = rw e at (taken.off.nowhere (Waiting note)) in
    keeps_asleep s core c thread note (Notification 0 (waiters ++ me ∷ [])) (Waiting note) (ap state_of e) (rw e (joins_waiters count me note waiters out)) taken
keeps_wait_if s core c thread note count waiters false e taken =
    let t = without s core c.queue in
    let fewer : HasNoMore (t.objects note) (Some (Notification (count - 1) waiters)) = rw e (counted_has_no_more count (count - 1) waiters) in
    acts_asleep_none s core c (answers_with thread 0 (change note (Notification (count - 1) waiters) ∷ [])) refl
    (changed_off t c.occupant.thread note (Notification (count - 1) waiters) fewer (sym (ap state_of e)) taken.off)

pub keeps_wait : (s : State) (core : ℕ) (c : Chosen) (thread : ThreadRecord) (note : ℕ) (o : Option Object) → s.objects note ≡ o → IsTaken s core c
    → Keeps s core c (wait_effect c.occupant.thread thread note o)
keeps_wait s core c thread note (Some (Notification count waiters)) e taken = keeps_wait_if s core c thread note count waiters (count == 0) e taken
keeps_wait s core c thread note o e taken = acts_alone s core c (answers thread 0) refl refl taken
