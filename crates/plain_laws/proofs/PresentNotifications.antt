-- Threads that stand where their states say: the calls on notifications.
use Rattle.std.specs.Prelude.{◌≡◌, ◌≢◌, ℕ, ◌+◌, ◌-◌, ◌≤◌, ◌==◌, Bool, true, false, if◌then◌else◌, List, [], ◌∷◌, ◌++◌, Option, Some, None, slice_set}
use Rattle.std.proofs.Common.{refl, ap, sym, ◌∙◌, arith, append-nil}
use Rattle.sls_base.specs.declared.thread.Thread.{Thread as ThreadRecord}
use Rattle.sls_base.specs.declared.thread.ThreadState.TheVariants.{Ready, Waiting, Calling, Served}
use Rattle.plain_state.specs.declared.calls.TheConstants.{ANSWER}
use Rattle.plain_model.specs.Objects.{Object, Notification, Thread}
use Rattle.plain_model.specs.States.{State, thread_at, with_object}
use Rattle.plain_model.specs.Effects.{Effect, answers, waits}
use Rattle.plain_model.specs.CallEffects.{signal_effect, wait_effect, answers_with, change}
use Rattle.plain_model.specs.Ticks.{Chosen}
use Rattle.plain_laws.specs.Places.{state_of, times, StandsIn}
use Rattle.plain_laws.proofs.Changes.{other_object}
use Rattle.plain_laws.proofs.Placed.{times_more, times_other, times_same, queued}
use Rattle.plain_laws.proofs.PlacedObjects.{with_objects, there_now, swapped}
use Rattle.plain_laws.proofs.PlacedTicks.{IsTaken, without, changed_by, does_now}
use Rattle.plain_laws.proofs.PlacedNotifications.{first_is_there, stands_apart, altered}
use Rattle.plain_laws.proofs.Present.{IsThere, HoldsNone, StillHolds, there_alike, there_set, there_queued, there_changed, thread_holds}
use Rattle.plain_laws.proofs.PresentTicks.{IsReady, Stays, acts_there, sleeps_there, stays_alone}
use Rattle.plain_laws.proofs.PresentCalls.{not_chosen, acts_quiet, stays_changed}

-- Who stands in a list with one thread less, or more.

pub left_over : (id x : ℕ) (xs : List ℕ) → id ≢ x → 1 ≤ times id (x ∷ xs) → 1 ≤ times id xs
left_over id x xs ne l = (let a = times_more id (x ∷ []) xs in let b = times_other id x ne in omega arith)

pub still_among : (id x : ℕ) (xs : List ℕ) → 1 ≤ times id xs → 1 ≤ times id (xs ++ x ∷ [])
still_among id x xs l = (let a = times_more id xs (x ∷ []) in omega arith)

pub last_is_there : (x : ℕ) (xs : List ℕ) → 1 ≤ times x (xs ++ x ∷ [])
last_is_there x xs = (let a = times_more x xs (x ∷ []) in let b = times_same x in omega arith)

-- A notification changes, and who waits on it still does.
pub notification_still : (s : State) (out : List ℕ) (note count new : ℕ) (waiters left : List ℕ) → s.objects note ≡ Some (Notification count waiters) → IsThere s out
    → ((id : ℕ) → state_of (s.objects id) ≡ Some (Waiting note) → 1 ≤ times id waiters → 1 ≤ times id left) → StillHolds s out note (Notification new left)
notification_still s out note count new waiters left e there still = record {
  waiters = λ id none does. still id does (rw e at (there.stands id (Waiting note) none does refl));
  clients = λ id none does. (let l = rw e at (there.stands id (Calling note) none does refl) in absurd (omega arith));
  served = λ id none does. (let l = rw e at (there.stands id (Served note) none does refl) in absurd (omega arith));
  serves = λ id none does. (let a = there.serves id note none does in absurd (cc));
}

pub notification_holds_none : (o : Option Object) (count : ℕ) → o ≡ Some (Notification count []) → HoldsNone o
notification_holds_none o count e = record {
  waiters = rw e refl;
  clients = rw e refl;
  served = rw e refl;
  no_connection = λ server is. absurd (cc);
}

pub notified_there : (s : State) (out : List ℕ) (note count new : ℕ) (waiters left : List ℕ) → s.objects note ≡ Some (Notification count waiters)
    → ((id : ℕ) → state_of (s.objects id) ≡ Some (Waiting note) → 1 ≤ times id waiters → 1 ≤ times id left) → IsThere s out
    → IsThere (with_objects s (with_object s.objects note (Notification new left))) out
notified_there s out note count new waiters left e still there =
    there_changed s note (Notification new left) out (ap state_of e) refl (notification_still s out note count new waiters left e there still) there

-- Signal.

pub stays_woken_waiter : (s : State) (core : ℕ) (c : Chosen) (thread : ThreadRecord) (note count waiter : ℕ) (waiters : List ℕ) → s.objects note ≡ Some (Notification count (waiter ∷ waiters)) → IsTaken s core c → IsReady s core c
    → Stays s core c (signal_effect s thread note (Some (Notification count (waiter ∷ waiters))))
stays_woken_waiter s core c thread note count waiter waiters e taken ready =
    let me = c.occupant.thread in
    let effect = signal_effect s thread note (Some (Notification count (waiter ∷ waiters))) in
    let t = without s core c.queue in
    let awake = altered (thread_at s waiter) Ready (slice_set (thread_at s waiter).x ANSWER 0) in
    let stood : StandsIn t waiter (Waiting note) = rw e (first_is_there waiter waiters) in
    let did = taken.off.placed.does (Waiting note) waiter stood in
    let apart : note ≢ waiter = λ same. (let none : state_of (s.objects waiter) ≡ None = rw same at (ap state_of e) in absurd (cc)) in
    let not_note : me ≢ note = λ same. not_chosen s core c note (ap state_of e) ready (sym same) in
    let not_waiter : me ≢ waiter = λ same. stands_apart t me waiter (Waiting note) taken.off stood (sym same) in
    let set = with_objects t (with_object t.objects waiter (Thread awake)) in
    let u = queued set waiter in
    let now : state_of (u.objects waiter) ≡ Some Ready = does_now t.objects waiter awake Ready refl in
    let is : u.objects note ≡ Some (Notification count (waiter ∷ waiters)) = other_object t.objects waiter (Thread awake) note apart ∙ e in
    let there : IsThere u (me ∷ []) = there_queued set waiter (me ∷ []) (there_set t waiter awake (me ∷ []) (thread_holds (s.objects waiter) (Waiting note) did) ready.there) now in
    let left : (id : ℕ) → state_of (u.objects id) ≡ Some (Waiting note) → 1 ≤ times id (waiter ∷ waiters) → 1 ≤ times id waiters = λ id does l.
    left_over id waiter waiters (λ same. (let d : state_of (u.objects waiter) ≡ Some (Waiting note) = rw same at does in absurd (cc))) l in
    acts_there s core c effect ready.own.0 ready tt
    (ap state_of (other_object (with_object t.objects note (Notification count waiters)) waiter (Thread awake) me not_waiter) ∙ ap state_of (other_object t.objects note (Notification count waiters) me not_note) ∙ ready.own.1)
    (there_alike (with_objects u (with_object u.objects note (Notification count waiters))) (changed_by t effect) (me ∷ [])
    (sym (swapped t.objects note waiter (Notification count waiters) (Thread awake) apart))
    refl
    refl
    (notified_there u (me ∷ []) note count count (waiter ∷ waiters) waiters is left there))

pub stays_signal : (s : State) (core : ℕ) (c : Chosen) (thread : ThreadRecord) (note : ℕ) (o : Option Object) → s.objects note ≡ o → IsTaken s core c → IsReady s core c → Stays s core c (signal_effect s thread note o)
stays_signal s core c thread note (Some (Notification count [])) e taken ready =
    stays_changed s core c thread 0 note (Notification (count + 1) []) (record { none_does = refl; none_waits = refl; none_calls = refl; none_served = refl }) (ap state_of e)
    (notification_holds_none (s.objects note) count e) taken ready
stays_signal s core c thread note (Some (Notification count (waiter ∷ waiters))) e taken ready = stays_woken_waiter s core c thread note count waiter waiters e taken ready
stays_signal s core c thread note o e taken ready = stays_alone s core c (answers thread 0) refl refl tt ready

-- Wait.

pub stays_waiting : (s : State) (core : ℕ) (c : Chosen) (thread : ThreadRecord) (note count : ℕ) (waiters : List ℕ) → s.objects note ≡ Some (Notification count waiters) → IsReady s core c
    → Stays s core c (record (waits thread (Waiting note)) { changes = change note (Notification 0 (waiters ++ c.occupant.thread ∷ [])) ∷ [] })
stays_waiting s core c thread note count waiters e ready =
    let me = c.occupant.thread in
    let t = without s core c.queue in
    let object = Notification 0 (waiters ++ me ∷ []) in
    let effect : Effect = record (waits thread (Waiting note)) { changes = change note object ∷ [] } in
    let u = with_objects t (with_object t.objects note object) in
    let not_note : me ≢ note = λ same. not_chosen s core c note (ap state_of e) ready (sym same) in
    let now : u.objects note ≡ Some object = there_now t.objects note object in
    sleeps_there s core c effect ready.own.0 (Waiting note) ready refl
    (ap state_of (other_object t.objects note object me not_note) ∙ ready.own.1)
    (there_alike u (changed_by t effect) (me ∷ []) refl (sym (append-nil c.queue)) refl
    (notified_there t (me ∷ []) note count 0 waiters (waiters ++ me ∷ []) e (λ id does l. still_among id me waiters l) ready.there))
    (λ names. rw now (last_is_there me waiters))
    (λ connection same. absurd (cc))

pub stays_wait_if : (s : State) (core : ℕ) (c : Chosen) (thread : ThreadRecord) (note count : ℕ) (waiters : List ℕ) (b : Bool) → s.objects note ≡ Some (Notification count waiters) → IsReady s core c
    → Stays s core c (if b then record (waits thread (Waiting note)) { changes = change note (Notification 0 (waiters ++ c.occupant.thread ∷ [])) ∷ [] } else answers_with thread 0 (change note (Notification (count - 1) waiters) ∷ []))
stays_wait_if s core c thread note count waiters true e ready = stays_waiting s core c thread note count waiters e ready
stays_wait_if s core c thread note count waiters false e ready =
    let me = c.occupant.thread in
    let t = without s core c.queue in
    let not_note : me ≢ note = λ same. not_chosen s core c note (ap state_of e) ready (sym same) in
    acts_quiet s core c (answers_with thread 0 (change note (Notification (count - 1) waiters) ∷ [])) ready.own.0 refl tt ready
    (ap state_of (other_object t.objects note (Notification (count - 1) waiters) me not_note) ∙ ready.own.1)
    (notified_there t (me ∷ []) note count (count - 1) waiters waiters e (λ id does l. l) ready.there)

pub stays_wait : (s : State) (core : ℕ) (c : Chosen) (thread : ThreadRecord) (note : ℕ) (o : Option Object) → s.objects note ≡ o → IsTaken s core c → IsReady s core c
    → Stays s core c (wait_effect c.occupant.thread thread note o)
stays_wait s core c thread note (Some (Notification count waiters)) e taken ready = stays_wait_if s core c thread note count waiters (count == 0) e ready
stays_wait s core c thread note o e taken ready = stays_alone s core c (answers thread 0) refl refl tt ready
