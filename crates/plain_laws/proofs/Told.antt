-- What the sweep makes another is told exactly.
use Rattle.std.specs.Prelude.{◌≡◌, ◌≢◌, ◌⊎◌, ℕ, suc, ◌≤◌, Bool, true, false, ◌||◌, not, List, [], ◌∷◌, length, map, filter, Option, Some, None, is_some, option_map}
use Rattle.std.specs.List.{list_any}
use Rattle.std.proofs.Common.{refl, ap, arith, inl, inr, sym}
use Rattle.std.proofs.lemmas.Bool.{not-true, not-false}
use Rattle.sls_base.specs.declared.thread.ThreadState.{ThreadState}
use Rattle.sls_base.specs.declared.thread.ThreadState.TheVariants.{Stopped}
use Rattle.sls_base.specs.declared.causes.TheConstants.{LOST_OBJECT}
use Rattle.plain_state.specs.declared.objects.Occupant.{Occupant}
use Rattle.plain_model.specs.Objects.{Object, Group, Thread, Space, Memory, Connection, Notification, OutputRing, InputRing, Scheduler}
use Rattle.plain_model.specs.States.{State}
use Rattle.plain_model.specs.Sweep.{is_reached, swept, settled, settled_state, waits_for, is_lost, kept, kept_on_core, thread_on, loses_any, is_settled_otherwise, is_swept_otherwise}
use Rattle.plain_laws.specs.Laws.{IsToldBySweep}
use Rattle.sls_base.proofs.ListTests.{or_cases, or_false}
use Rattle.plain_laws.proofs.Free.{none_from}

-- Lists of threads.

pub loses_none : (p : ℕ → Bool) (ids : List ℕ) → list_any (λ id. not (p id)) ids ≡ false → filter p ids ≡ ids
loses_none p [] e = refl
loses_none p (id ∷ ids) e =
    let parts = or_false (not (p id)) (list_any (λ other. not (p other)) ids) e in
    let has = not-false (p id) parts.0 in
    let rest = loses_none p ids parts.1 in
    rw (has, rest) refl

pub shorter_by : (p : ℕ → Bool) (id : ℕ) (ids : List ℕ) (b : Bool) → p id ≡ b → length (filter p ids) ≤ length ids → length (filter p (id ∷ ids)) ≤ length (id ∷ ids)
shorter_by p id ids true e rest = rw e (omega arith)
shorter_by p id ids false e rest = rw e (omega arith)

pub filter_shorter : (p : ℕ → Bool) (ids : List ℕ) → length (filter p ids) ≤ length ids
filter_shorter p [] = omega arith
filter_shorter p (id ∷ ids) = shorter_by p id ids (p id) refl (filter_shorter p ids)

pub head_kept : (p : ℕ → Bool) (id : ℕ) (ids : List ℕ) (b : Bool) → p id ≡ b → filter p (id ∷ ids) ≡ id ∷ ids → (p id ≡ true) × (filter p ids ≡ ids)
head_kept p id ids true e same = (e, (let t : id ∷ filter p ids ≡ id ∷ ids = rw e at same in cc))
head_kept p id ids false e same =
    let t : filter p ids ≡ id ∷ ids = rw e at same in
    let l : length (filter p ids) ≡ suc (length ids) = ap length t in
    let s = filter_shorter p ids in
    absurd (omega arith)

pub loses_some : (p : ℕ → Bool) (ids : List ℕ) → list_any (λ id. not (p id)) ids ≡ true → filter p ids ≢ ids
loses_some p [] e same = absurd (cc)
loses_some p (id ∷ ids) e same =
    let kept = head_kept p id ids (p id) refl same in
    elim (or_cases (not (p id)) (list_any (λ other. not (p other)) ids) e) [
      | inl h ↦ (let f = not-true (p id) h in let t = kept.0 in absurd (cc))
      | inr h ↦ loses_some p ids h kept.1
    ]

-- What a thread waits for, and the client that is served.

pub kept_same : (s : State) (id : Option ℕ) → is_lost s id ≡ false → kept s id ≡ id
kept_same s id e = rw e refl

pub kept_other : (s : State) (id : Option ℕ) → is_lost s id ≡ true → kept s id ≢ id
kept_other s None e same = absurd (cc)
kept_other s (Some id) e same = (let none : None ≡ Some id = rw e at same in absurd (cc))

pub state_same : (s : State) (state : ThreadState) → is_lost s (waits_for state) ≡ false → settled_state s state ≡ state
state_same s state e = rw e refl

-- a stopped thread waits for nothing
pub stopped_not_lost : (s : State) (cause : ℕ) (state : ThreadState) → Stopped cause ≡ state → is_lost s (waits_for state) ≡ false
stopped_not_lost s cause state e = ap (λ (x : ThreadState). is_lost s (waits_for x)) (sym e)

pub state_other : (s : State) (state : ThreadState) → is_lost s (waits_for state) ≡ true → settled_state s state ≢ state
state_other s state e same =
    let stopped : Stopped LOST_OBJECT ≡ state = rw e at same in
    let not_lost = stopped_not_lost s LOST_OBJECT state stopped in
    absurd (cc)

-- Objects that are reached.

pub object_same : (s : State) (object : Option Object) → is_settled_otherwise s object ≡ false → option_map (settled s) object ≡ object
object_same s None e = refl
object_same s (Some (Group slots)) e = refl
object_same s (Some (Thread thread)) e =
    ap (λ (state : ThreadState). Some (Thread (record { group = thread.group; space = thread.space; state = state; pc = thread.pc; x = thread.x }))) (state_same s thread.state e)
object_same s (Some (Space regions)) e = refl
object_same s (Some (Memory pages)) e = refl
object_same s (Some (Connection server client clients)) e =
    let parts = or_false (is_lost s client) (loses_any s clients) e in
    let f = kept_same s client parts.0 in
    let g = loses_none (is_reached s) clients parts.1 in
    rw (f, g) refl
object_same s (Some (Notification count waiters)) e = ap (λ (ids : List ℕ). Some (Notification count ids)) (loses_none (is_reached s) waiters e)
object_same s (Some (OutputRing channel)) e = refl
object_same s (Some InputRing) e = refl
object_same s (Some Scheduler) e = refl

-- the state of a thread, or one that is given
abbrev pub state_in : Option Object → ThreadState → ThreadState
state_in (Some (Thread thread)) other = thread.state
state_in _ other = other

pub object_other : (s : State) (object : Option Object) → object ≢ Some Scheduler → is_settled_otherwise s object ≡ true → option_map (settled s) object ≢ object
object_other s None ne e same = absurd (cc)
object_other s (Some (Group slots)) ne e same = absurd (cc)
object_other s (Some (Thread thread)) ne e same =
    state_other s thread.state e (ap (λ (o : Option Object). state_in o thread.state) same)
object_other s (Some (Space regions)) ne e same = absurd (cc)
object_other s (Some (Memory pages)) ne e same = absurd (cc)
object_other s (Some (Connection server client clients)) ne e same = elim (or_cases (is_lost s client) (loses_any s clients) e) [
  | inl h ↦ kept_other s client h (cc)
  | inr h ↦ loses_some (is_reached s) clients h (cc)
]
object_other s (Some (Notification count waiters)) ne e same = loses_some (is_reached s) waiters e (cc)
object_other s (Some (OutputRing channel)) ne e same = absurd (cc)
object_other s (Some InputRing) ne e same = absurd (cc)
object_other s (Some Scheduler) ne e same = ne refl

-- All objects.

pub swept_same : (s : State) (i : ℕ) (b : Bool) → is_reached s i ≡ b → is_swept_otherwise s i ≡ false → (swept s).objects i ≡ s.objects i
swept_same s i true r e = rw r (object_same s (s.objects i) (rw r at e))
swept_same s i false r e = rw r (sym (none_from (s.objects i) (rw r at e)))

pub swept_other : (s : State) (i : ℕ) (b : Bool) → is_reached s i ≡ b → s.objects i ≢ Some Scheduler → is_swept_otherwise s i ≡ true → (swept s).objects i ≢ s.objects i
swept_other s i true r ne e same = object_other s (s.objects i) ne (rw r at e) (rw r at same)
swept_other s i false r ne e same =
    let gone : None ≡ s.objects i = rw r at same in
    let there : is_some (s.objects i) ≡ true = rw r at e in
    let not_there : is_some (s.objects i) ≡ false = ap (λ (o : Option Object). is_some o) (sym gone) in
    absurd (cc)

pub cores_same : (s : State) (cores : List (Option Occupant)) → list_any (λ core. is_lost s (thread_on core)) cores ≡ false → map (kept_on_core s) cores ≡ cores
cores_same s [] e = refl
cores_same s (core ∷ cores) e =
    let parts = or_false (is_lost s (thread_on core)) (list_any (λ other. is_lost s (thread_on other)) cores) e in
    let rest = cores_same s cores parts.1 in
    rw (parts.0, rest) refl

pub scheduler_same : (s : State) (i : ℕ) → s.objects i ≡ Some Scheduler → is_reached s i ≡ true → is_swept_otherwise s i ≡ false → ((swept s).queue ≡ s.queue) × ((swept s).cores ≡ s.cores)
scheduler_same s i is r e =
    let settled_so : is_settled_otherwise s (s.objects i) ≡ false = rw r at e in
    let parts : (loses_any s s.queue || list_any (λ core. is_lost s (thread_on core)) s.cores) ≡ false = rw is at settled_so in
    let both = or_false (loses_any s s.queue) (list_any (λ core. is_lost s (thread_on core)) s.cores) parts in
    (loses_none (is_reached s) s.queue both.0, cores_same s s.cores both.1)

-- a core whose thread is lost has none afterwards
pub core_other : (s : State) (core : Option Occupant) → is_lost s (thread_on core) ≡ true → kept_on_core s core ≢ core
core_other s None e same = absurd (cc)
core_other s (Some occupant) e same = (let none : None ≡ Some occupant = rw e at same in absurd (cc))

pub cores_other : (s : State) (cores : List (Option Occupant)) → list_any (λ core. is_lost s (thread_on core)) cores ≡ true → map (kept_on_core s) cores ≢ cores
cores_other s [] e same = absurd (cc)
cores_other s (core ∷ cores) e same = elim (or_cases (is_lost s (thread_on core)) (list_any (λ other. is_lost s (thread_on other)) cores) e) [
  | inl h ↦ core_other s core h (cc)
  | inr h ↦ cores_other s cores h (cc)
]

pub scheduler_other : (s : State) (i : ℕ) → s.objects i ≡ Some Scheduler → is_reached s i ≡ true → is_swept_otherwise s i ≡ true → ((swept s).queue ≢ s.queue) ⊎ ((swept s).cores ≢ s.cores)
scheduler_other s i is r e =
    let settled_so : is_settled_otherwise s (s.objects i) ≡ true = rw r at e in
    let parts : (loses_any s s.queue || list_any (λ core. is_lost s (thread_on core)) s.cores) ≡ true = rw is at settled_so in
    elim (or_cases (loses_any s s.queue) (list_any (λ core. is_lost s (thread_on core)) s.cores) parts) [
      | inl h ↦ inl (loses_some (is_reached s) s.queue h)
      | inr h ↦ inr (cores_other s s.cores h)
    ]

pub told : (s : State) (i : ℕ) → IsToldBySweep s i
told s i = record {
  same = λ e. swept_same s i (is_reached s i) refl e;
  other = λ ne e. swept_other s i (is_reached s i) refl ne e;
  scheduler = λ is r e. scheduler_same s i is r e;
  other_scheduler = λ is r e. scheduler_other s i is r e;
}
