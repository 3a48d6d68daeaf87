-- Places of threads: what a change of a state does to them.
use Rattle.std.specs.Prelude.{◌≡◌, ◌≢◌, ℕ, ◌+◌, ◌≤◌, ◌==◌, cond, List, [], ◌∷◌, ◌++◌, length, Option, Some, None, slice_index_or, slice_set}
use Rattle.std.proofs.Common.{refl, ap, sym, ◌∙◌, arith, inl, inr, get_or-set_other}
use Rattle.std.proofs.lemmas.Bool.{cases_eq, cases_lt, ne_eqb, eq-eqb}
use Rattle.std.proofs.lemmas.List.{get_or-set_same, get_or_past, set_past}
use Rattle.std.proofs.lemmas.List.Sums.{sum_by-append}
use Rattle.sls_base.specs.declared.thread.ThreadState.{ThreadState}
use Rattle.sls_base.specs.declared.thread.ThreadState.TheVariants.{Ready, Running}
use Rattle.plain_state.specs.declared.objects.Occupant.{Occupant}
use Rattle.plain_model.specs.States.{State}
use Rattle.plain_laws.specs.Places.{state_of, running_on, threads_in, times, StandsIn, IsPlaced}

-- How often a number stands in a list.

pub times_more : (id : ℕ) (xs ys : List ℕ) → times id (xs ++ ys) ≡ times id xs + times id ys
times_more id xs ys = sum_by-append (λ other. cond (other == id) 1 0) xs ys

pub times_other : (id other : ℕ) → id ≢ other → times id (other ∷ []) ≡ 0
times_other id other ne = rw (ne_eqb other id (λ e. ne (sym e))) refl

pub times_same : (id : ℕ) → times id (id ∷ []) ≡ 1
times_same id = rw (eq-eqb id id refl) refl

-- A placed state, where a thread stands nowhere.
pub record IsOff (s : State) (id : ℕ) : Type 0 where
  pub placed : IsPlaced s
  pub nowhere : (place : ThreadState) → times id (threads_in s place) ≡ 0

-- the places of `t` have no more threads than those of `s`
abbrev pub NoMore : State → State → Type 0
NoMore s t = (place : ThreadState) (id : ℕ) → times id (threads_in t place) ≤ times id (threads_in s place)

-- the threads but one do what they did
abbrev pub DoSame : State → State → ℕ → Type 0
DoSame s t id = (i : ℕ) → i ≢ id → state_of (t.objects i) ≡ state_of (s.objects i)

pub still_off : (s t : State) (id : ℕ) → NoMore s t → DoSame s t id → IsOff s id → IsOff t id
still_off s t id fewer same h = record {
  placed = record {
    once = λ place i. (let a = fewer place i in let b = h.placed.once place i in omega arith);
    does = λ place i l. elim (cases_eq i id) [
      | inl e ↦ (let a = fewer place i in let b : times i (threads_in s place) ≡ 0 = rw e (h.nowhere place) in absurd (omega arith))
      | inr ne ↦ same i ne ∙ h.placed.does place i (let a = fewer place i in omega arith)
    ];
  };
  nowhere = λ place. (let a = fewer place id in let b = h.nowhere place in omega arith);
}

pub one_place : (s : State) (id : ℕ) (p q : ThreadState) → IsPlaced s → StandsIn s id p → StandsIn s id q → p ≡ q
one_place s id p q h a b = let e = h.does p id a in let f = h.does q id b in cc

-- who left its only place stands nowhere
pub left_place : (s t : State) (id : ℕ) (place : ThreadState) → IsPlaced s → NoMore s t → StandsIn s id place
    → times id (threads_in t place) ≡ 0 → (p : ThreadState) → times id (threads_in t p) ≡ 0
left_place s t id place h fewer stood gone p = elim (cases_eq (times id (threads_in t p)) 0) [
  | inl e ↦ e
  | inr ne ↦
      let l : StandsIn s id p = (let a = fewer p id in omega arith) in
      let same = one_place s id p place h l stood in
      ap (λ (x : ThreadState). times id (threads_in t x)) same ∙ gone
]

-- A thread that stands nowhere comes into the place that it does.
pub record Enters (s t : State) (id : ℕ) (place : ThreadState) : Type 0 where
  pub others : (p : ThreadState) (i : ℕ) → i ≢ id → times i (threads_in t p) ≤ times i (threads_in s p)
  pub once : (p : ThreadState) → times id (threads_in t p) ≤ 1
  pub there : (p : ThreadState) → StandsIn t id p → p ≡ place
  pub same : (i : ℕ) → state_of (t.objects i) ≡ state_of (s.objects i)

pub entered : (s t : State) (id : ℕ) (place : ThreadState) → Enters s t id place → state_of (s.objects id) ≡ Some place → IsPlaced s → IsPlaced t
entered s t id place f e h = record {
  once = λ p i. elim (cases_eq i id) [
    | inl is ↦ rw is (f.once p)
    | inr ne ↦ (let a = f.others p i ne in let b = h.once p i in omega arith)
  ];
  does = λ p i l. elim (cases_eq i id) [
    | inl is ↦
        let here : StandsIn t id p = rw is at l in
        let same = f.there p here in
        f.same i ∙ rw (is, e, same) refl
    | inr ne ↦ f.same i ∙ h.does p i (let a = f.others p i ne in omega arith)
  ];
}

pub others_off : (s t : State) (id other : ℕ) (place : ThreadState) → Enters s t id place → state_of (s.objects id) ≡ Some place → other ≢ id → IsOff s other → IsOff t other
others_off s t id other place f e ne h = record {
  placed = entered s t id place f e h.placed;
  nowhere = λ p. (let a = f.others p other ne in let b = h.nowhere p in omega arith);
}

-- The run queue.

abbrev pub queued : State → ℕ → State
queued s id = record s { queue = s.queue ++ id ∷ [] }

pub queue_others : (s : State) (id : ℕ) (p : ThreadState) (i : ℕ) → i ≢ id → times i (threads_in (queued s id) p) ≤ times i (threads_in s p)
queue_others s id Ready i ne = (let a = times_more i s.queue (id ∷ []) in let b = times_other i id ne in omega arith)
queue_others s id p i ne = omega arith

pub queue_once : (s : State) (id : ℕ) → IsOff s id → (p : ThreadState) → times id (threads_in (queued s id) p) ≤ 1
queue_once s id h Ready = (let a = times_more id s.queue (id ∷ []) in let b = times_same id in let n = h.nowhere Ready in omega arith)
queue_once s id h p = (let n = h.nowhere p in omega arith)

pub queue_there : (s : State) (id : ℕ) → IsOff s id → (p : ThreadState) → StandsIn (queued s id) id p → p ≡ Ready
queue_there s id h Ready l = refl
queue_there s id h p l = (let n = h.nowhere p in absurd (omega arith))

pub enters_queue : (s : State) (id : ℕ) → IsOff s id → Enters s (queued s id) id Ready
enters_queue s id h = record {
  others = queue_others s id;
  once = queue_once s id h;
  there = queue_there s id h;
  same = λ i. refl;
}

-- A core.

abbrev pub with_core : State → ℕ → Option Occupant → State
with_core s core occupant = record s { cores = slice_set s.cores core occupant }

-- what stands there is the thread that is put there, or nothing where no such core is
pub put_on_core : (cores : List (Option Occupant)) (core : ℕ) (o : Option Occupant) (i : ℕ) → times i (running_on (slice_index_or (slice_set cores core o) core None)) ≤ times i (running_on o)
put_on_core cores core o i = elim (cases_lt core (length cores)) [
  | inl l ↦ rw (get_or-set_same cores core o None l) (omega arith)
  | inr l ↦ rw (set_past cores core o l, get_or_past cores core None l) (omega arith)
]

pub other_core : (cores : List (Option Occupant)) (core k : ℕ) (o : Option Occupant) (i : ℕ) → times i (running_on o) ≡ 0 → times i (running_on (slice_index_or (slice_set cores core o) k None)) ≤ times i (running_on (slice_index_or cores k None))
other_core cores core k o i e = elim (cases_eq k core) [
  | inl is ↦ rw is (let a = put_on_core cores core o i in omega arith)
  | inr ne ↦ rw (get_or-set_other cores core k o None ne) (omega arith)
]

pub core_others : (s : State) (core : ℕ) (o : Option Occupant) (i : ℕ) → times i (running_on o) ≡ 0 → (p : ThreadState) → times i (threads_in (with_core s core o) p) ≤ times i (threads_in s p)
core_others s core o i e (Running k) = other_core s.cores core k o i e
core_others s core o i e p = omega arith

pub core_freed : (s : State) (core : ℕ) → NoMore s (with_core s core None)
core_freed s core place id = core_others s core None id refl place

pub core_once_at : (cores : List (Option Occupant)) (core k : ℕ) (o : Occupant) → times o.thread (running_on (slice_index_or cores k None)) ≡ 0
    → times o.thread (running_on (slice_index_or (slice_set cores core (Some o)) k None)) ≤ 1
core_once_at cores core k o e = elim (cases_eq k core) [
  | inl is ↦ rw is (let a = put_on_core cores core (Some o) o.thread in let b = times_same o.thread in omega arith)
  | inr ne ↦ rw (get_or-set_other cores core k (Some o) None ne) (omega arith)
]

pub core_there_at : (cores : List (Option Occupant)) (core k : ℕ) (o : Occupant) → times o.thread (running_on (slice_index_or cores k None)) ≡ 0
    → 1 ≤ times o.thread (running_on (slice_index_or (slice_set cores core (Some o)) k None)) → Running k ≡ Running core
core_there_at cores core k o e l = elim (cases_eq k core) [
  | inl is ↦ ap Running is
  | inr ne ↦ (let h = rw (get_or-set_other cores core k (Some o) None ne) at l in absurd (omega arith))
]

pub core_once : (s : State) (core : ℕ) (o : Occupant) → IsOff s o.thread → (p : ThreadState) → times o.thread (threads_in (with_core s core (Some o)) p) ≤ 1
core_once s core o h (Running k) = core_once_at s.cores core k o (h.nowhere (Running k))
core_once s core o h p = (let n = h.nowhere p in omega arith)

pub core_there : (s : State) (core : ℕ) (o : Occupant) → IsOff s o.thread → (p : ThreadState) → StandsIn (with_core s core (Some o)) o.thread p → p ≡ Running core
core_there s core o h (Running k) l = core_there_at s.cores core k o (h.nowhere (Running k)) l
core_there s core o h p l = (let n = h.nowhere p in absurd (omega arith))

pub enters_core : (s : State) (core : ℕ) (o : Occupant) → IsOff s o.thread → Enters s (with_core s core (Some o)) o.thread (Running core)
enters_core s core o h = record {
  others = λ p i ne. core_others s core (Some o) i (times_other i o.thread ne) p;
  once = core_once s core o h;
  there = core_there s core o h;
  same = λ i. refl;
}
