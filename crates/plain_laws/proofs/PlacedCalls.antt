-- Places of threads: the calls that make objects, and those that change objects without threads.
use Rattle.std.specs.Prelude.{◌≡◌, ◌≢◌, ℕ, zero, suc, ◌<◌, ◌==◌, Bool, true, false, List, [], ◌∷◌, length, find, Option, Some, None, slice_get}
use Rattle.std.proofs.Common.{refl, ap, sym, ◌∙◌, arith, inl, inr, append-nil}
use Rattle.std.proofs.lemmas.Bool.{cases_eq, eqb-false}
use Rattle.sls_base.specs.declared.thread.Thread.{Thread as ThreadRecord}
use Rattle.sls_base.specs.declared.thread.ThreadState.{ThreadState}
use Rattle.plain_state.specs.declared.objects.Capability.{Capability}
use Rattle.plain_state.specs.declared.objects.Kind.TheVariants.{SpaceKind, GroupKind}
use Rattle.plain_state.specs.declared.calls.Refusal.{Refusal}
use Rattle.plain_state.specs.declared.calls.Refusal.TheVariants.{WrongKind, NoSlot, NoObjects}
use Rattle.plain_state.specs.declared.calls.Call.{Call}
use Rattle.plain_model.specs.Objects.{Object, Group, Thread, is_kind}
use Rattle.plain_model.specs.States.{State, with_object}
use Rattle.plain_model.specs.Worlds.{World, free_objects}
use Rattle.plain_model.specs.Effects.{Effect}
use Rattle.plain_model.specs.Refusals.{refusal_order}
use Rattle.plain_model.specs.CallRefusals.{is_refused_by, refusal_of, no_slot}
use Rattle.plain_model.specs.CallEffects.{new_id, new_thread, makes, thread_effect, with_cap, own_slots, answers_with, change}
use Rattle.plain_model.specs.Ticks.{Chosen}
use Rattle.plain_laws.specs.Places.{state_of, waiters_of, clients_of, served_of, threads_in, times, StandsIn, IsPlaced}
use Rattle.plain_laws.proofs.Changes.{other_object}
use Rattle.plain_laws.proofs.Free.{least_free}
use Rattle.plain_laws.proofs.Placed.{IsOff}
use Rattle.plain_laws.proofs.PlacedObjects.{HasNoMore, with_objects, changed_off}
use Rattle.plain_laws.proofs.PlacedTicks.{IsTaken, without, changed_by, Keeps, acts, off_alike, woken, woken_off}

-- Why a call that isn't refused may do what it does.

pub none_found : (p : Refusal → Bool) (x : Refusal) (xs : List Refusal) (b : Bool) → p x ≡ b → find p (x ∷ xs) ≡ None → (p x ≡ false) × (find p xs ≡ None)
none_found p x xs true e h = (let t : Some x ≡ None = rw e at h in absurd (cc))
none_found p x xs false e h = (e, rw e at h)

pub not_found : (p : Refusal → Bool) (x : Refusal) (xs : List Refusal) → find p (x ∷ xs) ≡ None → (p x ≡ false) × (find p xs ≡ None)
not_found p x xs h = none_found p x xs (p x) refl h

-- no test of the list holds where none is found
pub passed_over : (p : Refusal → Bool) (xs : List Refusal) (k : ℕ) (r : Refusal) → find p xs ≡ None → slice_get xs k ≡ Some r → p r ≡ false
passed_over p [] k r h e = absurd (cc)
passed_over p (x ∷ xs) zero r h e = (let parts = not_found p x xs h in let same : x ≡ r = cc in ap p (sym same) ∙ parts.0)
passed_over p (x ∷ xs) (suc k) r h e = passed_over p xs k r (not_found p x xs h).1 e

-- Three of the refusals that do not hold.
pub record IsAllowed (w : World) (id : ℕ) (thread : ThreadRecord) (call : Call) : Type 0 where
  pub kind : is_refused_by w id thread call WrongKind ≡ false
  pub slot : is_refused_by w id thread call NoSlot ≡ false
  pub number : is_refused_by w id thread call NoObjects ≡ false

pub allowed : (w : World) (id : ℕ) (thread : ThreadRecord) (call : Call) → refusal_of w id thread call ≡ None → IsAllowed w id thread call
unfolding refusal_of
allowed w id thread call h = record {
  kind = passed_over (is_refused_by w id thread call) refusal_order 1 WrongKind h refl;
  slot = passed_over (is_refused_by w id thread call) refusal_order 6 NoSlot h refl;
  number = passed_over (is_refused_by w id thread call) refusal_order 7 NoObjects h refl;
}

pub group_has_slot : (o : Option Object) → no_slot o ≡ false → state_of o ≡ None
group_has_slot None e = absurd (cc)
group_has_slot (Some (Thread thread)) e = absurd (cc)
group_has_slot o e = refl

-- the number is no group's that has a slot
pub none_has_slot : (o : Option Object) → o ≡ None → no_slot o ≡ false → ⊥
none_has_slot o e h = (let t : true ≡ false = rw e at h in absurd (cc))

pub space_is_no_thread : (o : Option Object) → is_kind SpaceKind o ≡ true → state_of o ≡ None
space_is_no_thread (Some (Thread thread)) e = absurd (cc)
space_is_no_thread o e = refl

pub group_is_no_thread : (o : Option Object) → is_kind GroupKind o ≡ true → state_of o ≡ None
group_is_no_thread (Some (Thread thread)) e = absurd (cc)
group_is_no_thread o e = refl

-- Objects without threads.

-- neither a thread nor one that has threads
pub record IsBare (object : Object) : Type 0 where
  pub none_does : state_of (Some object) ≡ None
  pub none_waits : waiters_of (Some object) ≡ []
  pub none_calls : clients_of (Some object) ≡ []
  pub none_served : served_of (Some object) ≡ []

pub bare_has_no_more : (o : Option Object) (object : Object) → IsBare object → HasNoMore o (Some object)
bare_has_no_more o object bare = record {
  waiters = λ id. rw bare.none_waits (omega arith);
  clients = λ id. rw bare.none_calls (omega arith);
  served = λ id. rw bare.none_served (omega arith);
}

pub bare_off : (s : State) (me id : ℕ) (object : Object) → IsBare object → state_of (s.objects id) ≡ None → IsOff s me → IsOff (with_objects s (with_object s.objects id object)) me
bare_off s me id object bare e off = changed_off s me id object (bare_has_no_more (s.objects id) object bare) (bare.none_does ∙ sym e) off

-- An effect without stores and without threads that it makes Ready.

pub acts_asleep_none : (s : State) (core : ℕ) (c : Chosen) (e : Effect) → e.wakes ≡ [] → IsOff (with_objects (without s core c.queue) (changed_by (without s core c.queue) e).objects) c.occupant.thread → Keeps s core c e
acts_asleep_none s core c e nobody off =
    let t = without s core c.queue in
    acts s core c e (off_alike (with_objects t (changed_by t e).objects) (changed_by t e) c.occupant.thread refl (rw nobody (sym (append-nil c.queue))) refl off)

-- one object without threads changes
pub keeps_changed : (s : State) (core : ℕ) (c : Chosen) (thread : ThreadRecord) (answer id : ℕ) (object : Object) → IsBare object → state_of (s.objects id) ≡ None → IsTaken s core c
    → Keeps s core c (answers_with thread answer (change id object ∷ []))
keeps_changed s core c thread answer id object bare e taken =
    acts_asleep_none s core c (answers_with thread answer (change id object ∷ [])) refl (bare_off (without s core c.queue) c.occupant.thread id object bare e taken.off)

-- Calls that make an object.

pub record HasRoom (w : World) (thread : ThreadRecord) : Type 0 where
  pub free : w.now.objects (new_id w) ≡ None
  pub no_thread : state_of (w.now.objects thread.group) ≡ None
  pub apart : thread.group ≢ new_id w

pub room : (w : World) (thread : ThreadRecord) → no_slot (w.now.objects thread.group) ≡ false → (length (free_objects w) == 0) ≡ false → HasRoom w thread
room w thread slot number =
    let some : 0 < length (free_objects w) = (let ne = eqb-false (length (free_objects w)) 0 number in omega arith) in
    let free = least_free w some in record {
      free = free.now;
      no_thread = group_has_slot (w.now.objects thread.group) slot;
      apart = λ e. none_has_slot (w.now.objects thread.group) (rw e free.now) slot;
    }

pub group_is_bare : (slots : List (Option Capability)) → IsBare (Group slots)
group_is_bare slots = record { none_does = refl; none_waits = refl; none_calls = refl; none_served = refl }

pub keeps_made : (w : World) (core : ℕ) (c : Chosen) (thread : ThreadRecord) (object : Object) → IsBare object → HasRoom w thread → IsTaken w.now core c → Keeps w.now core c (makes w thread object)
keeps_made w core c thread object bare room taken =
    let t = without w.now core c.queue in
    let u = with_objects t (with_object t.objects (new_id w) object) in
    let none : state_of (u.objects thread.group) ≡ None = ap state_of (other_object t.objects (new_id w) object thread.group room.apart) ∙ room.no_thread in
    acts_asleep_none w.now core c (makes w thread object) refl
    (bare_off u c.occupant.thread thread.group (with_cap (own_slots w thread) (record { object = new_id w; rights = _ })) (group_is_bare _) none
    (bare_off t c.occupant.thread (new_id w) object bare (ap state_of room.free) taken.off))

-- no thread stands at a number where nothing is
pub nothing_stands : (s : State) (id : ℕ) → state_of (s.objects id) ≡ None → IsPlaced s → (place : ThreadState) → times id (threads_in s place) ≡ 0
nothing_stands s id e h place = elim (cases_eq (times id (threads_in s place)) 0) [
  | inl is ↦ is
  | inr ne ↦ (let l : StandsIn s id place = omega arith in let d = h.does place id l in absurd (cc))
]

-- the chosen thread is another than one that stands nowhere
pub is_other : (s : State) (core : ℕ) (c : Chosen) (id : ℕ) → IsTaken s core c → ((place : ThreadState) → times id (threads_in s place) ≡ 0) → id ≢ c.occupant.thread
is_other s core c id taken none e =
    let a = none taken.place in
    let b : StandsIn s id taken.place = rw e taken.stood in
    absurd (omega arith)

pub off_too : (s : State) (core : ℕ) (c : Chosen) (id : ℕ) → IsTaken s core c → ((place : ThreadState) → times id (threads_in s place) ≡ 0) → IsOff (without s core c.queue) id
off_too s core c id taken none = record {
  placed = taken.off.placed;
  nowhere = λ place. (let a = taken.fewer place id in let b = none place in omega arith);
}

pub keeps_new_thread : (w : World) (core : ℕ) (c : Chosen) (thread : ThreadRecord) → HasRoom w thread → IsTaken w.now core c → Keeps w.now core c (thread_effect w thread)
keeps_new_thread w core c thread room taken =
    let t = without w.now core c.queue in
    let id = new_id w in
    let none = nothing_stands w.now id (ap state_of room.free) taken.placed in
    let new = new_thread w.now thread in
    let u = woken t id new in
    let up = woken_off t c.occupant.thread id new refl (is_other w.now core c id taken none) (off_too w.now core c id taken none) taken.off in
    let bare : state_of (u.objects thread.group) ≡ None = ap state_of (other_object t.objects id (Thread new) thread.group room.apart) ∙ room.no_thread in
    acts w.now core c (thread_effect w thread)
    (bare_off u c.occupant.thread thread.group (with_cap (own_slots w thread) (record { object = new_id w; rights = _ })) (group_is_bare _) bare up)
