-- Places of threads: what a change of an object does to them.
use Rattle.std.specs.Prelude.{◌≡◌, ◌≢◌, ℕ, ◌≤◌, ◌==◌, Bool, true, false, List, [], ◌∷◌, Option, Some, if◌then◌else◌}
use Rattle.std.proofs.Common.{refl, ap, sym, ◌∙◌, arith, inl, inr}
use Rattle.std.proofs.lemmas.Bool.{cases_eq, ne_eqb, eq-eqb}
use mathlib.Core.Path.{fun_ext}
use Rattle.sls_base.specs.declared.thread.Thread.{Thread as ThreadRecord}
use Rattle.sls_base.specs.declared.thread.ThreadState.{ThreadState}
use Rattle.sls_base.specs.declared.thread.ThreadState.TheVariants.{Waiting, Calling, Served}
use Rattle.plain_state.specs.declared.effect.ByteStore.{ByteStore}
use Rattle.plain_state.specs.declared.effect.Place.{Place}
use Rattle.plain_model.specs.Objects.{Object, Thread, Memory}
use Rattle.plain_model.specs.States.{State, with_object}
use Rattle.plain_model.specs.Memory.{memory_with, with_store, with_stores}
use Rattle.plain_laws.specs.Places.{state_of, waiters_of, clients_of, served_of, threads_in, times, StandsIn}
use Rattle.plain_laws.proofs.Placed.{IsOff, NoMore, Enters, still_off}

-- The lists of an object have no more threads than those of another.
pub record HasNoMore (old new : Option Object) : Type 0 where
  pub waiters : (id : ℕ) → times id (waiters_of new) ≤ times id (waiters_of old)
  pub clients : (id : ℕ) → times id (clients_of new) ≤ times id (clients_of old)
  pub served : (id : ℕ) → times id (served_of new) ≤ times id (served_of old)

pub no_more_itself : (o : Option Object) → HasNoMore o o
no_more_itself o = record { waiters = λ id. omega arith; clients = λ id. omega arith; served = λ id. omega arith }

abbrev pub with_objects : State → (ℕ → Option Object) → State
with_objects s objects = record s { objects = objects }

pub no_more : (s : State) (objects : ℕ → Option Object) → ((i : ℕ) → HasNoMore (s.objects i) (objects i)) → NoMore s (with_objects s objects)
no_more s objects h (Waiting note) id = (h note).waiters id
no_more s objects h (Calling connection) id = (h connection).clients id
no_more s objects h (Served connection) id = (h connection).served id
no_more s objects h p id = omega arith

-- what is so of the new object, and of the others, is so of all
pub of_each : (P : ℕ → Option Object → Type 0) (objects : ℕ → Option Object) (id : ℕ) (object : Object) → P id (Some object) → ((i : ℕ) → i ≢ id → P i (objects i))
    → (i : ℕ) → P i (with_object objects id object i)
of_each P objects id object new others i = elim (cases_eq i id) [
  | inl e ↦ rw (e, eq-eqb id id refl) new
  | inr ne ↦ rw (ne_eqb i id ne) (others i ne)
]

pub there_now : (objects : ℕ → Option Object) (id : ℕ) (object : Object) → with_object objects id object id ≡ Some object
there_now objects id object = rw (eq-eqb id id refl) refl

pub one_has_no_more : (s : State) (id : ℕ) (object : Object) → HasNoMore (s.objects id) (Some object) → NoMore s (with_objects s (with_object s.objects id object))
one_has_no_more s id object h =
    no_more s (with_object s.objects id object) (of_each (λ i o. HasNoMore (s.objects i) o) s.objects id object h (λ i ne. no_more_itself (s.objects i)))

-- an object that changes and is a thread neither before nor after
pub changed_off : (s : State) (me id : ℕ) (object : Object) → HasNoMore (s.objects id) (Some object) → state_of (Some object) ≡ state_of (s.objects id) → IsOff s me
    → IsOff (with_objects s (with_object s.objects id object)) me
changed_off s me id object h same off =
    still_off s (with_objects s (with_object s.objects id object)) me (one_has_no_more s id object h)
    (λ i ne. of_each (λ j o. state_of o ≡ state_of (s.objects j)) s.objects id object same (λ j other. refl) i)
    off

-- a thread has no lists
pub thread_has_none : (o : Option Object) (thread : ThreadRecord) → HasNoMore o (Some (Thread thread))
thread_has_none o thread = record { waiters = λ id. omega arith; clients = λ id. omega arith; served = λ id. omega arith }

-- a thread that stands nowhere may do anything
pub set_off : (s : State) (id : ℕ) (thread : ThreadRecord) → IsOff s id → IsOff (with_objects s (with_object s.objects id (Thread thread))) id
set_off s id thread off =
    still_off s (with_objects s (with_object s.objects id (Thread thread))) id (one_has_no_more s id (Thread thread) (thread_has_none (s.objects id) thread))
    (λ i ne. of_each (λ j o. j ≢ id → state_of o ≡ state_of (s.objects j)) s.objects id (Thread thread) (λ other. absurd (other refl)) (λ j other same. refl) i ne)
    off

-- and others that stand nowhere still do
pub set_others : (s : State) (id other : ℕ) (thread : ThreadRecord) → IsOff s id → IsOff s other → IsOff (with_objects s (with_object s.objects id (Thread thread))) other
set_others s id other thread off other_off = record {
  placed = (set_off s id thread off).placed;
  nowhere = λ place. (let a = one_has_no_more s id (Thread thread) (thread_has_none (s.objects id) thread) place other in let b = other_off.nowhere place in omega arith);
}

-- Stores.

pub stored_has_no_more : (o : Option Object) (place : Place) (value : ℕ) → HasNoMore o (memory_with o place value)
stored_has_no_more (Some (Memory pages)) place value = record { waiters = λ id. omega arith; clients = λ id. omega arith; served = λ id. omega arith }
stored_has_no_more o place value = no_more_itself o

pub stored_does_same : (o : Option Object) (place : Place) (value : ℕ) → state_of (memory_with o place value) ≡ state_of o
stored_does_same (Some (Memory pages)) place value = refl
stored_does_same o place value = refl

pub store_at_has : (o : Option Object) (store : ByteStore) (b : Bool) → HasNoMore o (if b then memory_with o store.place store.value else o)
store_at_has o store true = stored_has_no_more o store.place store.value
store_at_has o store false = no_more_itself o

pub store_at_does : (o : Option Object) (store : ByteStore) (b : Bool) → state_of (if b then memory_with o store.place store.value else o) ≡ state_of o
store_at_does o store true = stored_does_same o store.place store.value
store_at_does o store false = refl

pub stores_off : (stores : List ByteStore) (s : State) (me : ℕ) → IsOff s me → IsOff (with_objects s (with_stores s.objects stores)) me
stores_off [] s me off = off
stores_off (store ∷ stores) s me off =
    stores_off stores (with_objects s (with_store s.objects store)) me
    (still_off s (with_objects s (with_store s.objects store)) me
    (no_more s (with_store s.objects store) (λ i. store_at_has (s.objects i) store (i == store.place.memory)))
    (λ i ne. store_at_does (s.objects i) store (i == store.place.memory))
    off)

-- A thread that comes into a list of an object.
pub record Joins (old new : Option Object) (id i : ℕ) (place : ThreadState) : Type 0 where
  pub waiters : (other : ℕ) → other ≢ id → times other (waiters_of new) ≤ times other (waiters_of old)
  pub clients : (other : ℕ) → other ≢ id → times other (clients_of new) ≤ times other (clients_of old)
  pub served : (other : ℕ) → other ≢ id → times other (served_of new) ≤ times other (served_of old)
  pub waits : times id (waiters_of new) ≤ 1
  pub calls : times id (clients_of new) ≤ 1
  pub is_served : times id (served_of new) ≤ 1
  pub waits_there : 1 ≤ times id (waiters_of new) → Waiting i ≡ place
  pub calls_there : 1 ≤ times id (clients_of new) → Calling i ≡ place
  pub served_there : 1 ≤ times id (served_of new) → Served i ≡ place
  pub same : state_of new ≡ state_of old

pub joins_others : (s : State) (id i : ℕ) (object : Object) (place : ThreadState) → Joins (s.objects i) (Some object) id i place → (p : ThreadState) (other : ℕ) → other ≢ id
    → times other (threads_in (with_objects s (with_object s.objects i object)) p) ≤ times other (threads_in s p)
joins_others s id i object place j (Waiting k) other ne =
    of_each (λ m o. times other (waiters_of o) ≤ times other (waiters_of (s.objects m))) s.objects i object (j.waiters other ne) (λ m n. omega arith) k
joins_others s id i object place j (Calling k) other ne =
    of_each (λ m o. times other (clients_of o) ≤ times other (clients_of (s.objects m))) s.objects i object (j.clients other ne) (λ m n. omega arith) k
joins_others s id i object place j (Served k) other ne =
    of_each (λ m o. times other (served_of o) ≤ times other (served_of (s.objects m))) s.objects i object (j.served other ne) (λ m n. omega arith) k
joins_others s id i object place j p other ne = omega arith

pub joins_once : (s : State) (id i : ℕ) (object : Object) (place : ThreadState) → Joins (s.objects i) (Some object) id i place → IsOff s id → (p : ThreadState)
    → times id (threads_in (with_objects s (with_object s.objects i object)) p) ≤ 1
joins_once s id i object place j off (Waiting k) =
    of_each (λ m o. times id (waiters_of o) ≤ 1) s.objects i object j.waits (λ m ne. (let n = off.nowhere (Waiting m) in omega arith)) k
joins_once s id i object place j off (Calling k) =
    of_each (λ m o. times id (clients_of o) ≤ 1) s.objects i object j.calls (λ m ne. (let n = off.nowhere (Calling m) in omega arith)) k
joins_once s id i object place j off (Served k) =
    of_each (λ m o. times id (served_of o) ≤ 1) s.objects i object j.is_served (λ m ne. (let n = off.nowhere (Served m) in omega arith)) k
joins_once s id i object place j off p = (let n = off.nowhere p in omega arith)

pub joins_there : (s : State) (id i : ℕ) (object : Object) (place : ThreadState) → Joins (s.objects i) (Some object) id i place → IsOff s id → (p : ThreadState)
    → StandsIn (with_objects s (with_object s.objects i object)) id p → p ≡ place
joins_there s id i object place j off (Waiting k) l =
    of_each (λ m o. 1 ≤ times id (waiters_of o) → Waiting m ≡ place) s.objects i object j.waits_there (λ m ne stands. (let n = off.nowhere (Waiting m) in absurd (omega arith))) k l
joins_there s id i object place j off (Calling k) l =
    of_each (λ m o. 1 ≤ times id (clients_of o) → Calling m ≡ place) s.objects i object j.calls_there (λ m ne stands. (let n = off.nowhere (Calling m) in absurd (omega arith))) k l
joins_there s id i object place j off (Served k) l =
    of_each (λ m o. 1 ≤ times id (served_of o) → Served m ≡ place) s.objects i object j.served_there (λ m ne stands. (let n = off.nowhere (Served m) in absurd (omega arith))) k l
joins_there s id i object place j off p l = (let n = off.nowhere p in absurd (omega arith))

pub enters_list : (s : State) (id i : ℕ) (object : Object) (place : ThreadState) → Joins (s.objects i) (Some object) id i place → IsOff s id
    → Enters s (with_objects s (with_object s.objects i object)) id place
enters_list s id i object place j off = record {
  others = joins_others s id i object place j;
  once = joins_once s id i object place j off;
  there = joins_there s id i object place j off;
  same = of_each (λ m o. state_of o ≡ state_of (s.objects m)) s.objects i object j.same (λ m ne. refl);
}

-- Changes of two objects, in either order.

pub swapped : (objects : ℕ → Option Object) (i j : ℕ) (a b : Object) → i ≢ j → with_object (with_object objects i a) j b ≡ with_object (with_object objects j b) i a
swapped objects i j a b ne = fun_ext (λ k. elim (cases_eq k i) [
  | inl e ↦ (let n : k ≢ j = λ is. ne (sym e ∙ is) in rw (ne_eqb k j n) refl)
  | inr n ↦ rw (ne_eqb k i n) refl
])

pub changed_twice : (objects : ℕ → Option Object) (i : ℕ) (a b : Object) → with_object (with_object objects i a) i b ≡ with_object objects i b
changed_twice objects i a b = fun_ext (λ k. elim (cases_eq k i) [
  | inl e ↦ rw (eq-eqb k i e) refl
  | inr n ↦ rw (ne_eqb k i n) refl
])

pub changed_around : (objects : ℕ → Option Object) (i j : ℕ) (a b c : Object) → i ≢ j
    → with_object (with_object (with_object objects i a) j b) i c ≡ with_object (with_object objects i c) j b
changed_around objects i j a b c ne =
    sym (swapped (with_object objects i a) i j c b ne) ∙ ap (λ (o : ℕ → Option Object). with_object o j b) (changed_twice objects i a c)
