-- Taking a thread, and putting it down.
use Rattle.std.specs.Prelude.{◌≡◌, ◌≢◌, ◌==◌, ℕ, ◌≤◌, Contains, true, false, List, [], ◌∷◌, drop, slice_get, slice_index_or, Option, Some, None}
use Rattle.std.proofs.Common.{refl, ap, sym, ◌∙◌, arith, cond}
use Rattle.std.proofs.lemmas.List.Sums.{sum_by-cons}
use Rattle.sls_base.specs.declared.thread.Thread.{Thread as ThreadRecord}
use Rattle.sls_base.specs.declared.thread.ThreadState.{ThreadState}
use Rattle.sls_base.specs.declared.thread.ThreadState.TheVariants.{Ready, Running, Waiting, Calling, Served, Serving, Stopped}
use Rattle.sls_base.specs.declared.limits.TheConstants.{CORE_SLICE}
use Rattle.plain_state.specs.declared.objects.Occupant.{Occupant}
use Rattle.plain_state.specs.declared.effect.Goes.{Goes}
use Rattle.plain_state.specs.declared.effect.Goes.TheVariants.{On, Back, Asleep, Stop}
use Rattle.plain_state.specs.States.{State}
use Rattle.plain_state.specs.Ticks.{own_or_front, at_back}
use Rattle.plain_laws.specs.Places.{IsPlaced, times, threads_in, state_of as does}
use Rattle.std.specs.Prelude.{◌++◌, slice_set}
use Rattle.std.proofs.Common.{inl, inr}
use Rattle.std.proofs.lemmas.Bool.{cases_Bool}
use Rattle.sls_base.specs.declared.fixed.TheConstants.{SCHEDULER}
use Rattle.rv_core.specs.declared.registers.Regs.{Regs}
use Rattle.link_lists.specs.Lists.{list_at}
use Rattle.ipc_note.specs.declared.lists.TheConstants.{RUN_QUEUE}
use Rattle.plain_state.specs.Ticks.{at_slice_end, state_after, on_core}
use Rattle.kobj_table.specs.declared.objects.Objects.{Objects}
use Rattle.kobj_table.specs.declared.slot.Cores.{Cores}
use Rattle.kobj_table.specs.declared.slot.Slot.{Slot}
use Rattle.kobj_table.specs.Slots.{cores_of, is_scheduler}
use Rattle.kobj_table.specs.Objects.{Rest, Puts, slot_at, state_of, state_with_queue, state_with_core}
use Rattle.kernel_calls.specs.declared.done.Done.{Done}
use Rattle.std.specs.Prelude.{◌-◌, if◌then◌else◌}
use Rattle.std.specs.Prelude.{Bool}
use mathlib.Core.Path.{fun_ext}
use Rattle.std.proofs.lemmas.Bool.{eqb-true, eqb-false}
use Rattle.pmem_model.specs.Memory.{Memory}
use Rattle.plain_state.specs.Objects as plain
use Rattle.plain_state.specs.Objects.{Object, Thread}
use Rattle.plain_state.specs.States.{thread_at, with_object}
use Rattle.plain_state.specs.Memory.{with_stores}
use Rattle.plain_state.specs.Worlds.{World}
use Rattle.plain_state.specs.Effects.{Effect}
use Rattle.plain_state.specs.Ticks.{with_changes, thread_after, state_of_effect}
use Rattle.kobj_table.specs.Slots.{object_of}
use Rattle.kobj_table.specs.Objects.{object_at}
use Rattle.kernel_calls.specs.declared.runtime.Runtime.{Runtime}
use Rattle.kernel_calls.specs.Does.{Obeys, Tells}
use Rattle.kernel_calls.specs.Ticking.{Settles}
use Rattle.call_readings.specs.declared.numbers.NumbersInUse.{NumbersInUse}
use Rattle.call_readings.specs.Kernel.{world_of, IsCounted}
use Rattle.kernel_calls.proofs.Objects.{told}
use Rattle.kernel_calls.proofs.Numbers.{counted_kept}
use Rattle.kernel_calls.specs.Kernel.{Held, IsSound}
use Rattle.kernel_calls.proofs.Places.{counts}

-- a queue without its front has nobody more
fewer : (ids : List ℕ) (id : ℕ) → times id (drop 1 ids) ≤ times id ids
fewer [] id = omega arith
fewer (x ∷ xs) id = let step = sum_by-cons (λ other. cond (other == id) 1 0) x xs in omega (arith, step)

once_left : (s : State) → IsPlaced s → (place : ThreadState) (id : ℕ) → times id (threads_in (state_with_queue s (drop 1 s.queue)) place) ≤ 1
once_left s p Ready id = let f = fewer s.queue id in let o = p.once Ready id in omega arith
once_left s p (Running core) id = p.once (Running core) id
once_left s p (Waiting note) id = p.once (Waiting note) id
once_left s p (Calling connection) id = p.once (Calling connection) id
once_left s p (Served connection) id = p.once (Served connection) id
once_left s p (Serving connection) id = p.once (Serving connection) id
once_left s p (Stopped cause) id = p.once (Stopped cause) id

does_left : (s : State) → IsPlaced s → (place : ThreadState) (id : ℕ) → 1 ≤ times id (threads_in (state_with_queue s (drop 1 s.queue)) place) → does (s.objects id) ≡ Some place
does_left s p Ready id has = p.does Ready id (let f = fewer s.queue id in omega arith)
does_left s p (Running core) id has = p.does (Running core) id has
does_left s p (Waiting note) id has = p.does (Waiting note) id has
does_left s p (Calling connection) id has = p.does (Calling connection) id has
does_left s p (Served connection) id has = p.does (Served connection) id has
does_left s p (Serving connection) id has = p.does (Serving connection) id has
does_left s p (Stopped cause) id has = p.does (Stopped cause) id has

-- a state without the front of its queue is sound
pub sound_left : (s : State) → IsSound s → IsSound (state_with_queue s (drop 1 s.queue))
sound_left s sound = record {
  placed = record { once = once_left s sound.placed; does = does_left s sound.placed };
  range = sound.range;
  forms = sound.forms;
  names = sound.names;
}

-- what was made by the last tick is nothing of a world
pub held_again : (k : Runtime) (made : Option ℕ) → Held k → Held (record k { made = made })
held_again k made held = record {
  world = held.world;
  rest = held.rest;
  counted = held.counted;
  sound = held.sound;
  scheduler = held.scheduler;
  strays = held.strays;
}

-- who is chosen

pub own_chosen : (own : Option Occupant) (occupant : Occupant) (queue : List ℕ) → own ≡ Some occupant → own_or_front own queue ≡ Some (record { occupant = occupant; queue = queue })
own_chosen own occupant queue is = ap (λ (o : Option Occupant). own_or_front o queue) is

pub front_chosen : (own : Option Occupant) (id : ℕ) (queue : List ℕ) → own ≡ None → slice_get queue 0 ≡ Some id →
    own_or_front own queue ≡ Some (record { occupant = record { thread = id; slice = CORE_SLICE }; queue = drop 1 queue })
front_chosen own id [] none is = absurd (cc)
front_chosen own id (first ∷ rest) none is =
    let same : first ≡ id = cc in
    ap (λ (o : Option Occupant). own_or_front o (first ∷ rest)) none ∙ ap (λ (n : ℕ). Some (record { occupant = record { thread = n; slice = CORE_SLICE }; queue = rest })) same

pub none_chosen : (own : Option Occupant) (queue : List ℕ) → own ≡ None → slice_get queue 0 ≡ None → own_or_front own queue ≡ None
none_chosen own [] none is = ap (λ (o : Option Occupant). own_or_front o []) none
none_chosen own (first ∷ rest) none is = absurd (cc)

-- the front of the queue is Ready
pub front_ready : (s : State) (id : ℕ) → IsPlaced s → slice_get s.queue 0 ≡ Some id → does (s.objects id) ≡ Some Ready
front_ready s id p is = p.does Ready id (counts s.queue id (at_front s.queue id is)) where
  at_front : (ids : List ℕ) (id : ℕ) → slice_get ids 0 ≡ Some id → Contains ids id
  at_front [] id e = absurd (cc)
  at_front (x ∷ xs) id e = let same : x ≡ id = cc in (0, omega arith, same)

-- who stands on a core runs there
pub own_running : (s : State) (core : ℕ) (occupant : Occupant) → IsPlaced s → slice_index_or s.cores core None ≡ Some occupant → does (s.objects occupant.thread) ≡ Some (Running core)
own_running s core occupant p is =
    p.does (Running core) occupant.thread (rw is (counts (occupant.thread ∷ []) occupant.thread (0, omega arith, refl)))

pub at_back_none : (id : ℕ) (goes : Goes) → (goes ≡ Back → ⊥) → at_back id goes ≡ []
at_back_none id On other = refl
at_back_none id Back other = absurd (other refl)
at_back_none id (Asleep state) other = refl
at_back_none id (Stop cause) other = refl

is_that : (slot : Slot) → is_scheduler slot ≡ true → (cores : Cores) × (slot ≡ Slot.Scheduler cores)
is_that (Slot.Scheduler cores) e = (cores, refl)
is_that Slot.Empty e = absurd (cc)
is_that (Slot.Group group) e = absurd (cc)
is_that (Slot.Thread thread) e = absurd (cc)
is_that (Slot.Space space) e = absurd (cc)
is_that (Slot.Memory memory) e = absurd (cc)
is_that (Slot.Connection connection) e = absurd (cc)
is_that (Slot.Notification note) e = absurd (cc)
is_that (Slot.Ring ring) e = absurd (cc)

-- who runs on a core changes, and the scheduler stays one
pub scheduler_stays : (o n : Objects) (now : Cores → Cores) → ((cores : Cores) → slot_at o SCHEDULER ≡ Slot.Scheduler cores → slot_at n SCHEDULER ≡ Slot.Scheduler (now cores)) →
    (is_scheduler (slot_at o SCHEDULER) ≡ false → n ≡ o) → is_scheduler (slot_at n SCHEDULER) ≡ is_scheduler (slot_at o SCHEDULER)
scheduler_stays o n now ran none =
    elim (cases_Bool (is_scheduler (slot_at o SCHEDULER))) [
      | inl is ↦ (let was = is_that (slot_at o SCHEDULER) is in rw (ran was.0 was.1) (sym is))
      | inr other ↦ ap (λ (x : Objects). is_scheduler (slot_at x SCHEDULER)) (none other)
    ]

no_rest : Rest
no_rest = record { content = λ page offset. 0; out = λ channel. []; inputs = [] }

-- what the cores run, from what becomes of the state
pub cores_run : (o n : Objects) (core : ℕ) (now : Option Occupant) → ((rest : Rest) → state_of n rest ≡ state_with_core (state_of o rest) core now) →
    cores_of (slot_at n SCHEDULER) ≡ slice_set (cores_of (slot_at o SCHEDULER)) core now
unfolding state_of
cores_run o n core now same = ap (λ (s : State). s.cores) (same no_rest)

abbrev pub put_down : ThreadRecord → ThreadState → Regs → ThreadRecord
put_down thread state regs = record { group = thread.group; space = thread.space; state = state; pc = regs.pc; x = regs.x }

-- a thread is put at its number, its core is told, and then it may go to the queue's back
pub settled : (o m r n : Objects) (core id left : ℕ) (thread : ThreadRecord) (done : Done) (goes : Goes) (state : ThreadState) (now : Option Occupant) → Puts o m id (Slot.Thread (put_down thread state done.regs)) →
    ((i : ℕ) → i ≢ SCHEDULER → slot_at r i ≡ slot_at m i) → cores_of (slot_at r SCHEDULER) ≡ slice_set (cores_of (slot_at m SCHEDULER)) core now →
    is_scheduler (slot_at r SCHEDULER) ≡ is_scheduler (slot_at m SCHEDULER) → r.links ≡ m.links → n.slots ≡ r.slots →
    list_at n.links RUN_QUEUE ≡ list_at r.links RUN_QUEUE ++ at_back id goes → ((i : ℕ) → i ≢ RUN_QUEUE → list_at n.links i ≡ list_at r.links i) →
    goes ≡ at_slice_end left done.goes → state ≡ state_after core goes → now ≡ on_core id left goes → id ≢ SCHEDULER → Settles o n core id left thread done
settled o m r n core id left thread done goes state now p others cores scheduler links slots queue lists goes_is state_is now_is elsewhere =
    let at_scheduler = p.others SCHEDULER (λ same. elsewhere (sym same)) in
    let here : slot_at r id ≡ Slot.Thread (put_down thread state done.regs) = others id elsewhere ∙ p.there in
    record {
      there = rw slots (here ∙ ap (λ (s : ThreadState). Slot.Thread (put_down thread s done.regs)) (state_is ∙ ap (λ (g : Goes). state_after core g) goes_is));
      others = λ i not_id not_scheduler. rw slots (others i not_scheduler ∙ p.others i not_id);
      cores = rw slots (cores ∙ ap (λ (s : Slot). slice_set (cores_of s) core now) at_scheduler ∙ ap (λ (x : Option Occupant). slice_set (cores_of (slot_at o SCHEDULER)) core x) (now_is ∙ ap (λ (g : Goes). on_core id left g) goes_is));
      scheduler = rw slots (scheduler ∙ ap (λ (s : Slot). is_scheduler s) at_scheduler);
      queue = queue ∙ ap (λ (l : List (List ℕ)). list_at l RUN_QUEUE ++ at_back id goes) (links ∙ p.links) ∙ ap (λ (g : Goes). list_at o.links RUN_QUEUE ++ at_back id g) goes_is;
      lists = λ i other. lists i other ∙ ap (λ (l : List (List ℕ)). list_at l i) (links ∙ p.links);
    }

-- A tick, from its parts.

scheduler_is : (content : ℕ → ℕ → ℕ) (slot : Slot) (threads : List ℕ) → is_scheduler slot ≡ true → object_of content slot threads ≡ Some plain.Scheduler
scheduler_is content slot threads e = let is = is_that slot e in rw is.1 refl

settled_by : (o n : Objects) (core id left : ℕ) (thread : ThreadRecord) (e : Effect) (done : Done) (content : ℕ → ℕ → ℕ) (i : ℕ) (a b : Bool) → (i == id) ≡ a → (i == SCHEDULER) ≡ b →
    Settles o n core id left thread done → is_scheduler (slot_at o SCHEDULER) ≡ true → Tells done e →
    object_at content n i ≡ (if a then Some (Thread (thread_after core thread (at_slice_end left e.goes) e)) else object_at content o i)
settled_by o n core id left thread e done content i true b same same' s scheduler tells = rw (eqb-true i id same) (rw s.there (rw (tells.regs, tells.goes) refl))
settled_by o n core id left thread e done content i false true same same' s scheduler tells =
    rw (eqb-true i SCHEDULER same') (scheduler_is content (slot_at n SCHEDULER) (list_at n.links SCHEDULER) (s.scheduler ∙ scheduler) ∙ sym (scheduler_is content (slot_at o SCHEDULER) (list_at o.links SCHEDULER) scheduler))
settled_by o n core id left thread e done content i false false same same' s scheduler tells =
    rw (s.others i (eqb-false i id same) (eqb-false i SCHEDULER same')) (rw (s.lists i (eqb-false i SCHEDULER same')) refl)

abbrev state_made : (ℕ → Option Object) → List ℕ → List (Option Occupant) → (ℕ → List (List ℕ)) → List (List ℕ) → State
state_made objects queue cores out inputs = record { objects = objects; queue = queue; cores = cores; out = out; inputs = inputs }

state_same : (f g : ℕ → Option Object) (p q : List ℕ) (a b : List (Option Occupant)) (out out' : ℕ → List (List ℕ)) (inputs inputs' : List (List ℕ)) → f ≡ g → p ≡ q → a ≡ b →
    out ≡ out' → inputs ≡ inputs' → state_made f p a out inputs ≡ state_made g q b out' inputs'
state_same f g p q a b out out' inputs inputs' x y z u v =
    ap (λ (h : ℕ → Option Object). state_made h p a out inputs) x ∙ ap (λ (l : List ℕ). state_made g l a out inputs) y ∙ ap (λ (l : List (Option Occupant)). state_made g q l out inputs) z
    ∙ ap (λ (l : ℕ → List (List ℕ)). state_made g q b l inputs) u ∙ ap (λ (l : List (List ℕ)). state_made g q b out' l) v

-- the instruction of a thread, and then it is put down: the state is what the effect makes of it
pub ticked : (k m : Runtime) (n : Objects) (rest after : Rest) (memory : Memory) (w : World) (core id slice : ℕ) (e : Effect) (done : Done) → Obeys k m rest after memory w e done →
    Settles m.objects n core id (slice - 1) (thread_at (state_of k.objects rest) id) done → is_scheduler (slot_at k.objects SCHEDULER) ≡ true →
    state_of n after ≡ state_of_effect (state_of k.objects rest) core (record { occupant = record { thread = id; slice = slice }; queue = list_at k.objects.links RUN_QUEUE }) e
unfolding state_of state_of_effect
ticked k m n rest after memory w core id slice e done d s scheduler =
    let left = slice - 1 in
    let thread = thread_at (state_of k.objects rest) id in
    let goes : at_slice_end left done.goes ≡ at_slice_end left e.goes = ap (λ (g : Goes). at_slice_end left g) d.caller.goes in
    let still : is_scheduler (slot_at m.objects SCHEDULER) ≡ true = rw d.scheduler scheduler in
    let objects : object_at after.content n ≡ with_object (with_changes (with_stores (object_at rest.content k.objects) e.stores) e.changes) id (Thread (thread_after core thread (at_slice_end left e.goes) e)) =
    fun_ext (λ i. settled_by m.objects n core id left thread e done after.content i (i == id) (i == SCHEDULER) refl refl s still d.caller ∙ rw (d.objects i) refl) in
    let queue : list_at n.links RUN_QUEUE ≡ list_at k.objects.links RUN_QUEUE ++ e.wakes ++ at_back id (at_slice_end left e.goes) =
    s.queue ∙ rw d.queue (rw goes refl) in
    let cores : cores_of (slot_at n SCHEDULER) ≡ slice_set (cores_of (slot_at k.objects SCHEDULER)) core (on_core id left (at_slice_end left e.goes)) =
    s.cores ∙ rw d.scheduler (rw goes refl) in
    state_same _ _ _ _ _ _ _ _ _ _ objects queue cores d.out d.inputs

told_settled : (o n : Objects) (core id left : ℕ) (thread before : ThreadRecord) (done : Done) (content : ℕ → ℕ → ℕ) (i : ℕ) (a b : Bool) → (i == id) ≡ a → (i == SCHEDULER) ≡ b →
    Settles o n core id left thread done → slot_at o id ≡ Slot.Thread before → is_scheduler (slot_at o SCHEDULER) ≡ true → told (object_at content n i) ≡ told (object_at content o i)
told_settled o n core id left thread before done content i true b same same' s is scheduler = rw (eqb-true i id same) (rw (s.there, is) refl)
told_settled o n core id left thread before done content i false true same same' s is scheduler =
    rw (eqb-true i SCHEDULER same') (ap told (scheduler_is content (slot_at n SCHEDULER) (list_at n.links SCHEDULER) (s.scheduler ∙ scheduler) ∙ sym (scheduler_is content (slot_at o SCHEDULER) (list_at o.links SCHEDULER) scheduler)))
told_settled o n core id left thread before done content i false false same same' s is scheduler =
    rw (s.others i (eqb-false i id same) (eqb-false i SCHEDULER same')) (rw (s.lists i (eqb-false i SCHEDULER same')) refl)

-- a thread that is put down changes no number in use
pub settled_counted : (numbers : NumbersInUse) (o n : Objects) (rest : Rest) (w : World) (core id left : ℕ) (thread before : ThreadRecord) (done : Done) → Settles o n core id left thread done →
    slot_at o id ≡ Slot.Thread before → is_scheduler (slot_at o SCHEDULER) ≡ true → IsCounted numbers (world_of o rest w) → IsCounted numbers (world_of n rest w)
settled_counted numbers o n rest w core id left thread before done s is scheduler h =
    counted_kept numbers o n rest w (λ i. told_settled o n core id left thread before done rest.content i (i == id) (i == SCHEDULER) refl refl s is scheduler) h
