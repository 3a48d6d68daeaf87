-- Numbers of objects: each is below the greatest number of objects, by what effects change and in which lists it stands.
use Rattle.std.specs.Prelude.{◌≡◌, ℕ, zero, suc, ◌+◌, ◌-◌, ◌<◌, ◌≤◌, ◌==◌, not, Bool, true, false, if◌then◌else◌, List, [], ◌∷◌, length, filter, Option, Some, None}
use Rattle.std.proofs.Common.{refl, ap, sym, ◌∙◌, arith, inl, inr}
use Rattle.std.proofs.lemmas.Bool.{cases_lt, not-true, eqb-false}
use Rattle.sls_base.specs.declared.limits.TheConstants.{OBJECTS}
use Rattle.sls_base.specs.declared.thread.ThreadState.{ThreadState}
use Rattle.plain_state.specs.declared.effect.ByteStore.{ByteStore}
use Rattle.plain_model.specs.Objects.{Object, Thread}
use Rattle.plain_model.specs.States.{State, thread_at, with_object}
use Rattle.plain_model.specs.Memory.{memory_with, with_store, with_stores}
use Rattle.plain_model.specs.Effects.{Effect, Change}
use Rattle.plain_model.specs.Ticks.{Chosen, with_changes, thread_after, at_slice_end, state_of_effect}
use Rattle.plain_laws.specs.Laws.{AreInRange}
use Rattle.plain_laws.specs.Places.{state_of, threads_in, times, StandsIn, IsPlaced}
use Rattle.plain_laws.proofs.Changes.{other_object}
use Rattle.plain_laws.proofs.Placed.{times_more, times_same}
use Rattle.plain_laws.proofs.PlacedLabels.{filtered_fewer, passes}

-- Numbers of objects that are there.

pub below : (s : State) (id : ℕ) → AreInRange s → (s.objects id ≡ None → ⊥) → id < OBJECTS
below s id h there = elim (cases_lt id OBJECTS) [
  | inl l ↦ l
  | inr l ↦ absurd (there (h id l))
]

pub object_below : (s : State) (id : ℕ) (object : Object) → AreInRange s → s.objects id ≡ Some object → id < OBJECTS
object_below s id object h e = below s id h (λ none. (let f : Some object ≡ None = sym e ∙ none in absurd (cc)))

pub thread_below : (s : State) (id : ℕ) (state : ThreadState) → AreInRange s → state_of (s.objects id) ≡ Some state → id < OBJECTS
thread_below s id state h e = below s id h (λ none. (let f : Some state ≡ None = sym e ∙ ap state_of none in absurd (cc)))

-- a thread that stands somewhere
pub stands_below : (s : State) (id : ℕ) (place : ThreadState) → IsPlaced s → AreInRange s → StandsIn s id place → id < OBJECTS
stands_below s id place placed h stood = thread_below s id place h (placed.does place id stood)

-- Changes.

-- each changes an object whose number is in range
abbrev pub ChangeBelow : List Change → Type 0
ChangeBelow [] = Unit {0}
ChangeBelow (change ∷ changes) = (change.id < OBJECTS) × ChangeBelow changes

pub still_none : (objects : ℕ → Option Object) (id : ℕ) (object : Object) (i : ℕ) → OBJECTS ≤ i → id < OBJECTS → objects i ≡ None → with_object objects id object i ≡ None
still_none objects id object i past l none = other_object objects id object i (λ e. absurd (omega arith)) ∙ none

pub changed_none : (changes : List Change) (objects : ℕ → Option Object) (i : ℕ) → OBJECTS ≤ i → ChangeBelow changes → objects i ≡ None → with_changes objects changes i ≡ None
changed_none [] objects i past h none = none
changed_none (change ∷ changes) objects i past h none =
    changed_none changes (with_object objects change.id change.object) i past h.1 (still_none objects change.id change.object i past h.0 none)

pub store_none_at : (store : ByteStore) (o : Option Object) (b : Bool) → o ≡ None → (if b then memory_with o store.place store.value else o) ≡ None
store_none_at store o true none = rw none refl
store_none_at store o false none = none

pub stored_none : (stores : List ByteStore) (objects : ℕ → Option Object) (i : ℕ) → objects i ≡ None → with_stores objects stores i ≡ None
stored_none [] objects i none = none
stored_none (store ∷ stores) objects i none =
    stored_none stores (with_store objects store) i (store_none_at store (objects i) (i == store.place.memory) none)

-- An effect of a thread that is in range keeps the state so.
pub acts_below : (s : State) (core : ℕ) (c : Chosen) (e : Effect) → c.occupant.thread < OBJECTS → ChangeBelow e.changes → AreInRange s → AreInRange (state_of_effect s core c e)
unfolding state_of_effect
acts_below s core c e me changes h i past =
    still_none (with_changes (with_stores s.objects e.stores) e.changes) c.occupant.thread
    (Thread (thread_after core (thread_at s c.occupant.thread) (at_slice_end (c.occupant.slice - 1) e.goes) e)) i past me
    (changed_none e.changes (with_stores s.objects e.stores) i past changes (stored_none e.stores s.objects i (h i past)))

-- Lists of numbers that are in range and stand there once.

pub parted_on : (n x : ℕ) (xs : List ℕ) (b : Bool) → (x == n) ≡ b → length xs ≡ length (filter (λ y. not (y == n)) xs) + times n xs
    → length (x ∷ xs) ≡ length (filter (λ y. not (y == n)) (x ∷ xs)) + times n (x ∷ xs)
parted_on n x xs true e l =
    let a = times_more n (x ∷ []) xs in
    let b : times n (x ∷ []) ≡ 1 = rw e refl in
    let f : length (filter (λ y. not (y == n)) (x ∷ xs)) ≡ length (filter (λ y. not (y == n)) xs) = rw e refl in
    omega arith
parted_on n x xs false e l =
    let a = times_more n (x ∷ []) xs in
    let b : times n (x ∷ []) ≡ 0 = rw e refl in
    let f : length (filter (λ y. not (y == n)) (x ∷ xs)) ≡ suc (length (filter (λ y. not (y == n)) xs)) = rw e refl in
    omega arith

-- a list's length is that of the list without a number, and how often that stands there
pub parted : (n : ℕ) (xs : List ℕ) → length xs ≡ length (filter (λ y. not (y == n)) xs) + times n xs
parted n [] = refl
parted n (x ∷ xs) = parted_on n x xs (x == n) refl (parted n xs)

pub none_below : (xs : List ℕ) → ((id : ℕ) → 1 ≤ times id xs → id < 0) → length xs ≤ 0
none_below [] h = omega arith
none_below (x ∷ xs) h =
    let a = times_more x (x ∷ []) xs in
    let b = times_same x in
    let l = h x (omega arith) in
    absurd (omega arith)

pub as_many : (n : ℕ) (xs : List ℕ) → ((id : ℕ) → times id xs ≤ 1) → ((id : ℕ) → 1 ≤ times id xs → id < n) → length xs ≤ n
as_many zero xs once h = none_below xs h
as_many (suc n) xs once h =
    let rest = as_many n (filter (λ y. not (y == n)) xs)
    (λ id. (let a = filtered_fewer (λ y. not (y == n)) xs id in let b = once id in omega arith))
    (λ id l.
    let a = filtered_fewer (λ y. not (y == n)) xs id in
    let b = h id (omega arith) in
    let ne = eqb-false id n (not-true (id == n) (passes (λ y. not (y == n)) xs id l)) in
    omega arith) in
    let a = parted n xs in
    let b = once n in
    omega arith

-- no place has more threads than there are objects
pub place_has_room : (s : State) (place : ThreadState) → IsPlaced s → AreInRange s → length (threads_in s place) ≤ OBJECTS
place_has_room s place placed h =
    as_many OBJECTS (threads_in s place) (λ id. placed.once place id) (λ id l. stands_below s id place placed h l)
