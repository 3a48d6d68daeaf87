-- Threads that stand where their states say: what a change of a state does to them.
use Rattle.std.specs.Prelude.{◌≡◌, ◌≢◌, ℕ, ◌≤◌, true, List, [], ◌∷◌, Option, Some, None, slice_index_or}
use Rattle.std.proofs.Common.{refl, ap, sym, ◌∙◌, arith, inl, inr, subst}
use Rattle.std.proofs.lemmas.Bool.{cases_eq}
use Rattle.sls_base.specs.declared.limits.TheConstants.{CORE_SLICE}
use Rattle.sls_base.specs.declared.thread.Thread.{Thread as ThreadRecord}
use Rattle.sls_base.specs.declared.thread.ThreadState.{ThreadState}
use Rattle.sls_base.specs.declared.thread.ThreadState.TheVariants.{Ready, Waiting, Calling, Served, Serving}
use Rattle.plain_state.specs.declared.objects.Occupant.{Occupant}
use Rattle.plain_model.specs.Objects.{Object, Thread, Connection}
use Rattle.plain_model.specs.States.{State, with_object}
use Rattle.plain_laws.specs.Places.{state_of, waiters_of, clients_of, served_of, times, StandsIn, names_place, IsPresent}
use Rattle.plain_laws.proofs.Changes.{other_object}
use Rattle.plain_laws.proofs.Placed.{times_more, times_same, times_other, queued}
use Rattle.plain_laws.proofs.PlacedObjects.{with_objects, there_now}
use Rattle.plain_laws.proofs.PlacedTicks.{places_same}

-- Each thread but those of a list stands where its state says, and serves as its state says.
pub record IsThere (s : State) (out : List ℕ) : Type 0 where
  pub stands : (id : ℕ) (place : ThreadState) → times id out ≡ 0 → state_of (s.objects id) ≡ Some place → names_place place ≡ true → StandsIn s id place
  pub serves : (id connection : ℕ) → times id out ≡ 0 → state_of (s.objects id) ≡ Some (Serving connection) → s.objects connection ≡ Some (Connection id None [])

-- what is left of the slices of those that run
abbrev pub HaveSlices : List (Option Occupant) → Type 0
HaveSlices cores = (core : ℕ) (occupant : Occupant) → slice_index_or cores core None ≡ Some occupant → (1 ≤ occupant.slice) × (occupant.slice ≤ CORE_SLICE)

pub all_there : (s : State) → IsPresent s → IsThere s []
all_there s h = record { stands = λ id place none e n. h.stands id place e n; serves = λ id connection none e. h.serves id connection e }

pub are_present : (s : State) → IsThere s [] → HaveSlices s.cores → IsPresent s
are_present s h slices = record { stands = λ id place e n. h.stands id place refl e n; serves = λ id connection e. h.serves id connection refl e; slices = slices }

-- the same objects, queue and cores
pub there_alike : (s t : State) (out : List ℕ) → s.objects ≡ t.objects → s.queue ≡ t.queue → s.cores ≡ t.cores → IsThere s out → IsThere t out
there_alike s t out o q k h = record {
  stands = λ id place none e n.
      let was : state_of (s.objects id) ≡ Some place = ap (λ (objects : ℕ → Option Object). state_of (objects id)) o ∙ e in
      let a = ap (times id) (places_same s t o q k place) in
      let b = h.stands id place none was n in
      omega arith;
  serves = λ id connection none e.
      let was : state_of (s.objects id) ≡ Some (Serving connection) = ap (λ (objects : ℕ → Option Object). state_of (objects id)) o ∙ e in
      ap (λ (objects : ℕ → Option Object). objects connection) (sym o) ∙ h.serves id connection none was;
}

-- who is in no list is in no part of it

not_in_rest : (i id : ℕ) (out : List ℕ) → times i (id ∷ out) ≡ 0 → times i out ≡ 0
not_in_rest i id out e = (let a = times_more i (id ∷ []) out in omega arith)

not_the_first : (i id : ℕ) (out : List ℕ) → times i (id ∷ out) ≡ 0 → i ≢ id
not_the_first i id out e same =
    let a = times_more i (id ∷ []) out in
    let b : times i (id ∷ []) ≡ 1 = rw same (times_same id) in
    absurd (omega arith)

in_neither : (i id : ℕ) (out : List ℕ) → i ≢ id → times i out ≡ 0 → times i (id ∷ out) ≡ 0
in_neither i id out ne e = (let a = times_more i (id ∷ []) out in let b = times_other i id ne in omega arith)

-- one more is exempt
pub exempt : (s : State) (id : ℕ) (out : List ℕ) → IsThere s out → IsThere s (id ∷ out)
exempt s id out h = record {
  stands = λ i place none e n. h.stands i place (not_in_rest i id out none) e n;
  serves = λ i connection none e. h.serves i connection (not_in_rest i id out none) e;
}

-- one that was exempt stands where its state says
pub there_back : (s : State) (id : ℕ) (out : List ℕ) (state : ThreadState) → IsThere s (id ∷ out) → state_of (s.objects id) ≡ Some state
    → (names_place state ≡ true → StandsIn s id state) → ((connection : ℕ) → state ≡ Serving connection → s.objects connection ≡ Some (Connection id None [])) → IsThere s out
there_back s id out state h does there serves = record {
  stands = λ i place none e n. elim (cases_eq i id) [
    | inl is ↦
        let same : state ≡ place = (let f : Some state ≡ Some place = sym does ∙ ap (λ (k : ℕ). state_of (s.objects k)) (sym is) ∙ e in cc) in
        let stood : StandsIn s id place = subst (λ (p : ThreadState). StandsIn s id p) same (there (rw same n)) in
        rw is stood
    | inr ne ↦ h.stands i place (in_neither i id out ne none) e n
  ];
  serves = λ i connection none e. elim (cases_eq i id) [
    | inl is ↦
        let same : state ≡ Serving connection = (let f : Some state ≡ Some (Serving connection) = sym does ∙ ap (λ (k : ℕ). state_of (s.objects k)) (sym is) ∙ e in cc) in
        rw is (serves connection same)
    | inr ne ↦ h.serves i connection (in_neither i id out ne none) e
  ];
}

-- An object in which no thread stands, and which nobody serves: there is none, or it is a thread.
pub record HoldsNone (o : Option Object) : Type 0 where
  pub waiters : waiters_of o ≡ []
  pub clients : clients_of o ≡ []
  pub served : served_of o ≡ []
  pub no_connection : (server : ℕ) → o ≡ Some (Connection server None []) → ⊥

pub nothing_holds : HoldsNone None
nothing_holds = record { waiters = refl; clients = refl; served = refl; no_connection = λ server e. cc }

pub thread_holds : (o : Option Object) (state : ThreadState) → state_of o ≡ Some state → HoldsNone o
thread_holds (Some (Thread thread)) state e = record { waiters = refl; clients = refl; served = refl; no_connection = λ server f. cc }
thread_holds o state e = absurd (cc)

-- who stands in another object still does
set_stands : (s : State) (id : ℕ) (object : Object) (i : ℕ) (place : ThreadState) → HoldsNone (s.objects id) → StandsIn s i place → StandsIn (with_objects s (with_object s.objects id object)) i place
set_stands s id object i (Waiting k) none l = elim (cases_eq k id) [
  | inl is ↦ (let a = ap (λ (o : Option Object). times i (waiters_of o)) (ap s.objects is) in let b = ap (times i) none.waiters in absurd (omega arith))
  | inr ne ↦ (let a = ap (λ (o : Option Object). times i (waiters_of o)) (other_object s.objects id object k ne) in omega arith)
]
set_stands s id object i (Calling k) none l = elim (cases_eq k id) [
  | inl is ↦ (let a = ap (λ (o : Option Object). times i (clients_of o)) (ap s.objects is) in let b = ap (times i) none.clients in absurd (omega arith))
  | inr ne ↦ (let a = ap (λ (o : Option Object). times i (clients_of o)) (other_object s.objects id object k ne) in omega arith)
]
set_stands s id object i (Served k) none l = elim (cases_eq k id) [
  | inl is ↦ (let a = ap (λ (o : Option Object). times i (served_of o)) (ap s.objects is) in let b = ap (times i) none.served in absurd (omega arith))
  | inr ne ↦ (let a = ap (λ (o : Option Object). times i (served_of o)) (other_object s.objects id object k ne) in omega arith)
]
set_stands s id object i place none l = l

-- a thread is made, or does something else
pub there_set : (s : State) (id : ℕ) (thread : ThreadRecord) (out : List ℕ) → HoldsNone (s.objects id) → IsThere s out → IsThere (with_objects s (with_object s.objects id (Thread thread))) (id ∷ out)
there_set s id thread out none h =
    let object = Thread thread in record {
      stands = λ i place away e n.
          let ne = not_the_first i id out away in
          let was : state_of (s.objects i) ≡ Some place = ap state_of (sym (other_object s.objects id object i ne)) ∙ e in
          set_stands s id object i place none (h.stands i place (not_in_rest i id out away) was n);
      serves = λ i connection away e.
          let ne = not_the_first i id out away in
          let was : state_of (s.objects i) ≡ Some (Serving connection) = ap state_of (sym (other_object s.objects id object i ne)) ∙ e in
          let serves = h.serves i connection (not_in_rest i id out away) was in
          let other : connection ≢ id = λ is. none.no_connection i (ap s.objects (sym is) ∙ serves) in
          other_object s.objects id object connection other ∙ serves;
    }

queue_stands : (s : State) (id i : ℕ) (place : ThreadState) → StandsIn s i place → StandsIn (queued s id) i place
queue_stands s id i Ready l = (let a = times_more i s.queue (id ∷ []) in omega arith)
queue_stands s id i place l = l

queue_has : (s : State) (id : ℕ) (place : ThreadState) → Some Ready ≡ Some place → StandsIn (queued s id) id place
queue_has s id Ready e = (let a = times_more id s.queue (id ∷ []) in let b = times_same id in omega arith)
queue_has s id place e = absurd (cc)

-- a thread comes to the back of the run queue
pub there_queued : (s : State) (id : ℕ) (out : List ℕ) → IsThere s (id ∷ out) → state_of (s.objects id) ≡ Some Ready → IsThere (queued s id) out
there_queued s id out h e = record {
  stands = λ i place away does n. elim (cases_eq i id) [
    | inl is ↦
        let same : Some Ready ≡ Some place = sym e ∙ ap (λ (k : ℕ). state_of (s.objects k)) (sym is) ∙ does in
        rw is (queue_has s id place same)
    | inr ne ↦ queue_stands s id i place (h.stands i place (in_neither i id out ne away) does n)
  ];
  serves = λ i connection away does. elim (cases_eq i id) [
    | inl is ↦ (let f : Some Ready ≡ Some (Serving connection) = sym e ∙ ap (λ (k : ℕ). state_of (s.objects k)) (sym is) ∙ does in absurd (cc))
    | inr ne ↦ h.serves i connection (in_neither i id out ne away) does
  ];
}

-- who stands in an object that is no thread, and who serves it, still does
pub record StillHolds (s : State) (out : List ℕ) (i : ℕ) (object : Object) : Type 0 where
  pub waiters : (id : ℕ) → times id out ≡ 0 → state_of (s.objects id) ≡ Some (Waiting i) → 1 ≤ times id (waiters_of (Some object))
  pub clients : (id : ℕ) → times id out ≡ 0 → state_of (s.objects id) ≡ Some (Calling i) → 1 ≤ times id (clients_of (Some object))
  pub served : (id : ℕ) → times id out ≡ 0 → state_of (s.objects id) ≡ Some (Served i) → 1 ≤ times id (served_of (Some object))
  pub serves : (id : ℕ) → times id out ≡ 0 → state_of (s.objects id) ≡ Some (Serving i) → object ≡ Connection id None []

changed_stands : (s : State) (i : ℕ) (object : Object) (out : List ℕ) (id : ℕ) (place : ThreadState) → StillHolds s out i object → times id out ≡ 0 → state_of (s.objects id) ≡ Some place → StandsIn s id place
    → StandsIn (with_objects s (with_object s.objects i object)) id place
changed_stands s i object out id (Waiting k) still away e l = elim (cases_eq k i) [
  | inl is ↦
      let a = still.waiters id away (e ∙ ap (λ (m : ℕ). Some (Waiting m)) is) in
      let b = ap (λ (m : ℕ). times id (waiters_of (with_object s.objects i object m))) is in
      let d = ap (λ (o : Option Object). times id (waiters_of o)) (there_now s.objects i object) in
      omega arith
  | inr ne ↦ (let a = ap (λ (o : Option Object). times id (waiters_of o)) (other_object s.objects i object k ne) in omega arith)
]
changed_stands s i object out id (Calling k) still away e l = elim (cases_eq k i) [
  | inl is ↦
      let a = still.clients id away (e ∙ ap (λ (m : ℕ). Some (Calling m)) is) in
      let b = ap (λ (m : ℕ). times id (clients_of (with_object s.objects i object m))) is in
      let d = ap (λ (o : Option Object). times id (clients_of o)) (there_now s.objects i object) in
      omega arith
  | inr ne ↦ (let a = ap (λ (o : Option Object). times id (clients_of o)) (other_object s.objects i object k ne) in omega arith)
]
changed_stands s i object out id (Served k) still away e l = elim (cases_eq k i) [
  | inl is ↦
      let a = still.served id away (e ∙ ap (λ (m : ℕ). Some (Served m)) is) in
      let b = ap (λ (m : ℕ). times id (served_of (with_object s.objects i object m))) is in
      let d = ap (λ (o : Option Object). times id (served_of o)) (there_now s.objects i object) in
      omega arith
  | inr ne ↦ (let a = ap (λ (o : Option Object). times id (served_of o)) (other_object s.objects i object k ne) in omega arith)
]
changed_stands s i object out id place still away e l = l

-- what a thread did that still does something
did_before : (s : State) (i : ℕ) (object : Object) (id : ℕ) (place : ThreadState) → state_of (Some object) ≡ None → state_of (with_object s.objects i object id) ≡ Some place → state_of (s.objects id) ≡ Some place
did_before s i object id place none e = elim (cases_eq id i) [
  | inl is ↦ (let f : None ≡ Some place = sym none ∙ ap state_of (sym (there_now s.objects i object)) ∙ ap (λ (k : ℕ). state_of (with_object s.objects i object k)) (sym is) ∙ e in absurd (cc))
  | inr ne ↦ ap state_of (sym (other_object s.objects i object id ne)) ∙ e
]

pub there_changed : (s : State) (i : ℕ) (object : Object) (out : List ℕ) → state_of (s.objects i) ≡ None → state_of (Some object) ≡ None → StillHolds s out i object → IsThere s out
    → IsThere (with_objects s (with_object s.objects i object)) out
there_changed s i object out was is still h = record {
  stands = λ id place away e n.
      let did = did_before s i object id place is e in
      changed_stands s i object out id place still away did (h.stands id place away did n);
  serves = λ id connection away e.
      let did = did_before s i object id (Serving connection) is e in
      elim (cases_eq connection i) [
        | inl same ↦
            let serves = still.serves id away (did ∙ ap (λ (m : ℕ). Some (Serving m)) same) in
            ap (with_object s.objects i object) same ∙ there_now s.objects i object ∙ ap (λ (o : Object). Some o) serves
        | inr ne ↦ other_object s.objects i object connection ne ∙ h.serves id connection away did
      ];
}

-- an object with no threads is made, or changes, in the place of one that has none
pub holds_nothing : (s : State) (out : List ℕ) (i : ℕ) (object : Object) → HoldsNone (s.objects i) → IsThere s out → StillHolds s out i object
holds_nothing s out i object none h = record {
  waiters = λ id away e. (let a = h.stands id (Waiting i) away e refl in let b = ap (times id) none.waiters in absurd (omega arith));
  clients = λ id away e. (let a = h.stands id (Calling i) away e refl in let b = ap (times id) none.clients in absurd (omega arith));
  served = λ id away e. (let a = h.stands id (Served i) away e refl in let b = ap (times id) none.served in absurd (omega arith));
  serves = λ id away e. absurd (none.no_connection id (h.serves id i away e));
}
