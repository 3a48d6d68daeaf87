-- Threads that stand where their states say: the calls that make objects, and those that change objects without threads.
use Rattle.std.specs.Prelude.{◌≡◌, ◌≢◌, ℕ, List, [], ◌∷◌, Option, Some, None}
use Rattle.std.proofs.Common.{refl, ap, sym, ◌∙◌, append-nil, subst}
use Rattle.sls_base.specs.declared.thread.Thread.{Thread as ThreadRecord}
use Rattle.sls_base.specs.declared.thread.ThreadState.{ThreadState}
use Rattle.sls_base.specs.declared.thread.ThreadState.TheVariants.{Ready}
use Rattle.sls_base.specs.declared.rights.TheConstants.{ALL_RIGHTS}
use Rattle.plain_model.specs.Objects.{Object, Thread}
use Rattle.plain_model.specs.States.{State, with_object}
use Rattle.plain_model.specs.Worlds.{World}
use Rattle.plain_model.specs.Effects.{Effect}
use Rattle.plain_model.specs.CallEffects.{new_id, new_thread, makes, thread_effect, with_cap, own_slots, answers_with, change}
use Rattle.plain_model.specs.Ticks.{Chosen}
use Rattle.plain_laws.specs.Places.{state_of}
use Rattle.plain_laws.proofs.Changes.{other_object}
use Rattle.plain_laws.proofs.Placed.{queued}
use Rattle.plain_laws.proofs.PlacedObjects.{with_objects}
use Rattle.plain_laws.proofs.PlacedTicks.{IsTaken, without, changed_by, does_now}
use Rattle.plain_laws.proofs.PlacedCalls.{IsBare, HasRoom, group_is_bare}
use Rattle.plain_laws.proofs.Present.{IsThere, HoldsNone, there_alike, there_set, there_queued, there_changed, holds_nothing, nothing_holds}
use Rattle.plain_laws.proofs.PresentTicks.{IsReady, Stays, IsAwake, acts_there}

-- The chosen thread is another than what is no thread.

pub not_chosen : (s : State) (core : ℕ) (c : Chosen) (id : ℕ) → state_of (s.objects id) ≡ None → IsReady s core c → id ≢ c.occupant.thread
not_chosen s core c id none ready e =
    let a : state_of (s.objects c.occupant.thread) ≡ None = rw e at none in
    let b = ready.own.1 in
    absurd (cc)

-- what does nothing, and holds nobody, gives way to an object without threads
pub bare_there : (s : State) (id : ℕ) (object : Object) (out : List ℕ) → IsBare object → state_of (s.objects id) ≡ None → HoldsNone (s.objects id) → IsThere s out
    → IsThere (with_objects s (with_object s.objects id object)) out
bare_there s id object out bare e none there = there_changed s id object out e bare.none_does (holds_nothing s out id object none there) there

-- An effect that makes no thread Ready, after which the thread stays awake or stops.

pub acts_quiet : (s : State) (core : ℕ) (c : Chosen) (e : Effect) (state : ThreadState) → e.wakes ≡ [] → IsAwake e.goes → IsReady s core c → state_of ((changed_by (without s core c.queue) e).objects c.occupant.thread) ≡ Some state
    → IsThere (with_objects (without s core c.queue) (changed_by (without s core c.queue) e).objects) (c.occupant.thread ∷ []) → Stays s core c e
acts_quiet s core c e state nobody awake ready does there =
    let t = without s core c.queue in
    acts_there s core c e state ready awake does
    (there_alike (with_objects t (changed_by t e).objects) (changed_by t e) (c.occupant.thread ∷ []) refl (rw nobody (sym (append-nil c.queue))) refl there)

-- one object without threads changes
pub stays_changed : (s : State) (core : ℕ) (c : Chosen) (thread : ThreadRecord) (answer id : ℕ) (object : Object) → IsBare object → state_of (s.objects id) ≡ None → HoldsNone (s.objects id) → IsTaken s core c → IsReady s core c
    → Stays s core c (answers_with thread answer (change id object ∷ []))
stays_changed s core c thread answer id object bare e none taken ready =
    let me = c.occupant.thread in
    let other : me ≢ id = λ same. not_chosen s core c id e ready (sym same) in
    acts_quiet s core c (answers_with thread answer (change id object ∷ [])) ready.own.0 refl tt ready
    (ap state_of (other_object s.objects id object me other) ∙ ready.own.1)
    (bare_there (without s core c.queue) id object (me ∷ []) bare e none ready.there)

-- Calls that make an object.

pub stays_made : (w : World) (core : ℕ) (c : Chosen) (thread : ThreadRecord) (object : Object) → IsBare object → HasRoom w thread → HoldsNone (w.now.objects thread.group) → IsTaken w.now core c → IsReady w.now core c
    → Stays w.now core c (makes w thread object)
stays_made w core c thread object bare room none taken ready =
    let me = c.occupant.thread in
    let t = without w.now core c.queue in
    let u = with_objects t (with_object t.objects (new_id w) object) in
    let cap = with_cap (own_slots w thread) (record { object = new_id w; rights = ALL_RIGHTS }) in
    let group : u.objects thread.group ≡ t.objects thread.group = other_object t.objects (new_id w) object thread.group room.apart in
    let not_new : me ≢ new_id w = λ same. not_chosen w.now core c (new_id w) (ap state_of room.free) ready (sym same) in
    let not_group : me ≢ thread.group = λ same. not_chosen w.now core c thread.group room.no_thread ready (sym same) in
    acts_quiet w.now core c (makes w thread object) ready.own.0 refl tt ready
    (ap state_of (other_object u.objects thread.group cap me not_group) ∙ ap state_of (other_object t.objects (new_id w) object me not_new) ∙ ready.own.1)
    (bare_there u thread.group cap (me ∷ []) (group_is_bare _) (ap state_of group ∙ room.no_thread) (subst (λ (o : Option Object). HoldsNone o) (sym group) none)
    (bare_there t (new_id w) object (me ∷ []) bare (ap state_of room.free) (subst (λ (o : Option Object). HoldsNone o) (sym room.free) nothing_holds) ready.there))

pub stays_new_thread : (w : World) (core : ℕ) (c : Chosen) (thread : ThreadRecord) → HasRoom w thread → HoldsNone (w.now.objects thread.group) → IsTaken w.now core c → IsReady w.now core c
    → Stays w.now core c (thread_effect w thread)
stays_new_thread w core c thread room none taken ready =
    let me = c.occupant.thread in
    let id = new_id w in
    let t = without w.now core c.queue in
    let new = new_thread w.now thread in
    let set = with_objects t (with_object t.objects id (Thread new)) in
    let u = queued set id in
    let cap = with_cap (own_slots w thread) (record { object = id; rights = ALL_RIGHTS }) in
    let group : u.objects thread.group ≡ t.objects thread.group = other_object t.objects id (Thread new) thread.group room.apart in
    let not_new : me ≢ id = λ same. not_chosen w.now core c id (ap state_of room.free) ready (sym same) in
    let not_group : me ≢ thread.group = λ same. not_chosen w.now core c thread.group room.no_thread ready (sym same) in
    acts_there w.now core c (thread_effect w thread) ready.own.0 ready tt
    (ap state_of (other_object u.objects thread.group cap me not_group) ∙ ap state_of (other_object t.objects id (Thread new) me not_new) ∙ ready.own.1)
    (bare_there u thread.group cap (me ∷ []) (group_is_bare _) (ap state_of group ∙ room.no_thread) (subst (λ (o : Option Object). HoldsNone o) (sym group) none)
    (there_queued set id (me ∷ [])
    (there_set t id new (me ∷ []) (subst (λ (o : Option Object). HoldsNone o) (sym room.free) nothing_holds) ready.there)
    (does_now t.objects id new Ready refl)))
