-- Sweeping twice is sweeping once.
use Rattle.std.specs.Prelude.{◌≡◌, ℕ, zero, suc, ◌≤◌, Bool, true, false, not, List, [], ◌∷◌, map, filter, Option, Some, None, option_map}
use Rattle.std.proofs.Common.{refl, ap, arith, sym, ◌∙◌}
use mathlib.Core.Path.{fun_ext}
use Rattle.sls_base.specs.declared.limits.TheConstants.{OBJECTS}
use Rattle.sls_base.specs.declared.thread.ThreadState.{ThreadState}
use Rattle.plain_state.specs.declared.objects.Occupant.{Occupant}
use Rattle.plain_model.specs.Objects.{Object, Group, Thread, Space, Memory, Connection, Notification, OutputRing, InputRing, Scheduler, every_object}
use Rattle.plain_model.specs.States.{State}
use Rattle.plain_model.specs.Sweep.{leads_to, is_within, is_reached, swept, settled, settled_state, waits_for, is_lost, kept, kept_on_core, thread_on}
use Rattle.sls_base.proofs.ListTests.{any_same}
use Rattle.plain_laws.proofs.Reaches.{step_from, within_suc, within_zero, within_up}

-- the sweep leaves an object's edges as they are
pub leads_settled : (s : State) (object : Option Object) (i : ℕ) → leads_to (option_map (settled s) object) i ≡ leads_to object i
leads_settled s None i = refl
leads_settled s (Some (Group slots)) i = refl
leads_settled s (Some (Thread thread)) i = refl
leads_settled s (Some (Space regions)) i = refl
leads_settled s (Some (Memory pages)) i = refl
leads_settled s (Some (Connection server client clients)) i = refl
leads_settled s (Some (Notification count waiters)) i = refl
leads_settled s (Some (OutputRing channel)) i = refl
leads_settled s (Some InputRing) i = refl
leads_settled s (Some Scheduler) i = refl

-- the edges of what is within are those of before
pub swept_leads : (s : State) (n from i : ℕ) → n ≤ OBJECTS → is_within s n from ≡ true → leads_to ((swept s).objects from) i ≡ leads_to (s.objects from) i
unfolding is_reached
swept_leads s n from i l e =
    let r = within_up s n OBJECTS from l e in
    rw r (leads_settled s (s.objects from) i)

pub swept_step : (s : State) (n from i : ℕ) (b : Bool) → n ≤ OBJECTS → is_within s n from ≡ b → is_within (swept s) n from ≡ b → step_from (swept s) n i from ≡ step_from s n i from
swept_step s n from i true l e f = rw (e, f) (swept_leads s n from i l e)
swept_step s n from i false l e f = rw (e, f) refl

pub swept_within : (s : State) (n i : ℕ) → n ≤ OBJECTS → is_within (swept s) n i ≡ is_within s n i
swept_within s zero i l = within_zero (swept s) i ∙ sym (within_zero s i)
swept_within s (suc n) i l =
    let below : n ≤ OBJECTS = omega arith in
    let here = swept_within s n i below in
    let steps = any_same (step_from (swept s) n i) (step_from s n i) every_object (λ from j. swept_step s n from i (is_within s n from) below refl (swept_within s n from below)) in
    within_suc (swept s) n i ∙ rw (here, steps) (sym (within_suc s n i))

pub swept_reached : (s : State) (i : ℕ) → is_reached (swept s) i ≡ is_reached s i
unfolding is_reached
swept_reached s i = swept_within s OBJECTS i (omega arith)

pub swept_set : (s : State) → is_reached (swept s) ≡ is_reached s
swept_set s = fun_ext (swept_reached s)

-- What was settled once stays.

pub filter_on : (p : ℕ → Bool) (x : ℕ) (xs : List ℕ) (b : Bool) → p x ≡ b → filter p (filter p xs) ≡ filter p xs → filter p (filter p (x ∷ xs)) ≡ filter p (x ∷ xs)
filter_on p x xs true e rest = rw e (rw e (ap (λ (ys : List ℕ). x ∷ ys) rest))
filter_on p x xs false e rest = rw e rest

pub filter_twice : (p : ℕ → Bool) (xs : List ℕ) → filter p (filter p xs) ≡ filter p xs
filter_twice p [] = refl
filter_twice p (x ∷ xs) = filter_on p x xs (p x) refl (filter_twice p xs)

-- A test that holds of a reached thing alone, with the sweep's set.

pub lost_same : (s : State) (id : Option ℕ) → is_lost (swept s) id ≡ is_lost s id
lost_same s None = refl
lost_same s (Some id) = ap not (swept_reached s id)

pub kept_twice : (s : State) (id : Option ℕ) (b : Bool) → is_lost s id ≡ b → kept (swept s) (kept s id) ≡ kept s id
kept_twice s id true e = rw e refl
kept_twice s id false e = rw e (rw (lost_same s id) (rw e refl))

pub state_settled : (s : State) (state : ThreadState) (b : Bool) → is_lost s (waits_for state) ≡ b → settled_state (swept s) (settled_state s state) ≡ settled_state s state
state_settled s state true e = rw e refl
state_settled s state false e = rw e (rw (lost_same s (waits_for state)) (rw e refl))

pub core_kept : (s : State) (core : Option Occupant) (b : Bool) → is_lost s (thread_on core) ≡ b → kept_on_core (swept s) (kept_on_core s core) ≡ kept_on_core s core
core_kept s core true e = rw e refl
core_kept s core false e = rw e (rw (lost_same s (thread_on core)) (rw e refl))

pub cores_kept : (s : State) (cores : List (Option Occupant)) → map (kept_on_core (swept s)) (map (kept_on_core s) cores) ≡ map (kept_on_core s) cores
cores_kept s [] = refl
cores_kept s (core ∷ cores) =
    let e = core_kept s core (is_lost s (thread_on core)) refl in
    let f = cores_kept s cores in
    rw (e, f) refl

pub list_kept : (s : State) (ids : List ℕ) → filter (is_reached (swept s)) (filter (is_reached s) ids) ≡ filter (is_reached s) ids
list_kept s ids = rw (swept_set s) (filter_twice (is_reached s) ids)

pub settled_twice : (s : State) (object : Object) → settled (swept s) (settled s object) ≡ settled s object
settled_twice s (Thread thread) =
    ap (λ (state : ThreadState). Thread (record { group = thread.group; space = thread.space; state = state; pc = thread.pc; x = thread.x })) (state_settled s thread.state (is_lost s (waits_for thread.state)) refl)
settled_twice s (Connection server client clients) =
    let e = kept_twice s client (is_lost s client) refl in
    let f = list_kept s clients in
    rw (e, f) refl
settled_twice s (Notification count waiters) = ap (Notification count) (list_kept s waiters)
settled_twice s (Group slots) = refl
settled_twice s (Space regions) = refl
settled_twice s (Memory pages) = refl
settled_twice s (OutputRing channel) = refl
settled_twice s InputRing = refl
settled_twice s Scheduler = refl

pub there_twice : (s : State) (object : Option Object) → option_map (settled (swept s)) (option_map (settled s) object) ≡ option_map (settled s) object
there_twice s None = refl
there_twice s (Some object) = ap (λ (o : Object). Some o) (settled_twice s object)

pub object_twice : (s : State) (i : ℕ) (b : Bool) → is_reached s i ≡ b → (swept (swept s)).objects i ≡ (swept s).objects i
object_twice s i true e = rw (swept_reached s i) (rw e (there_twice s (s.objects i)))
object_twice s i false e = rw (swept_reached s i) (rw e refl)

abbrev pub made : (ℕ → Option Object) → List ℕ → List (Option Occupant) → (ℕ → List (List ℕ)) → List (List ℕ) → State
made objects queue cores out inputs =
    record { objects = objects; queue = queue; cores = cores; out = out; inputs = inputs }

pub state_is : (s t : State) → s.objects ≡ t.objects → s.queue ≡ t.queue → s.cores ≡ t.cores → s.out ≡ t.out → s.inputs ≡ t.inputs → s ≡ t
state_is s t objects queue cores out inputs =
    ap (λ (x : ℕ → Option Object). made x s.queue s.cores s.out s.inputs) objects
    ∙ ap (λ (x : List ℕ). made t.objects x s.cores s.out s.inputs) queue
    ∙ ap (λ (x : List (Option Occupant)). made t.objects t.queue x s.out s.inputs) cores
    ∙ ap (λ (x : ℕ → List (List ℕ)). made t.objects t.queue t.cores x s.inputs) out
    ∙ ap (λ (x : List (List ℕ)). made t.objects t.queue t.cores t.out x) inputs

pub swept_twice : (s : State) → swept (swept s) ≡ swept s
swept_twice s = state_is (swept (swept s)) (swept s) (fun_ext (λ i. object_twice s i (is_reached s i) refl)) (list_kept s s.queue) (cores_kept s s.cores) refl refl
