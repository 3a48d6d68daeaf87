-- Lists of records that stand for a state in which each thread is in one place.
use Rattle.std.proofs.Common.{◌≡◌, ℕ, ◌≤◌, true, List, Option, Some, None, refl, ap, sym, ◌∙◌, subst, arith}
use Rattle.std.specs.List.{Contains}
use Rattle.std.proofs.lemmas.Bool.{false≢true}
use Rattle.std.proofs.lemmas.Option.{same_Some}
use Rattle.sls_base.specs.declared.fixed.TheConstants.{SCHEDULER}
use Rattle.sls_base.specs.declared.thread.ThreadState.{ThreadState}
use Rattle.sls_base.specs.declared.thread.ThreadState.TheVariants.{Ready, Running, Waiting, Calling, Served, Serving, Stopped}
use Rattle.plain_model.specs.Objects.{Object}
use Rattle.plain_model.specs.States.{State}
use Rattle.plain_laws.specs.Places.{waiters_of, clients_of, times, StandsIn, IsPlaced}
use Rattle.plain_laws.specs.Fixed.{HasFixedObjects}
use Rattle.kobj_table.specs.Objects.{Rest}
use Rattle.kobj_codec.specs.declared.obj.Obj.{Obj}
use Rattle.object_records.specs.Records.{object_in, list_in, is_scheduler_in, state_of_records}
use Rattle.object_records.proofs.Lists.{stands_there}
use Rattle.object_records.proofs.Ranged.{scheduler_alone}

contained_stands : (ids : List ℕ) (id : ℕ) → Contains ids id → 1 ≤ times id ids
contained_stands ids id there = subst (λ n. 1 ≤ times n ids) there.2 (stands_there ids there.0 id there.1)

-- the place is the list of a number: the run queue is that of the scheduler's
abbrev IsListOf : ThreadState → ℕ → Type 0
IsListOf Ready i = i ≡ SCHEDULER
IsListOf (Waiting note) i = i ≡ note
IsListOf (Calling connection) i = i ≡ connection
IsListOf place i = ⊥

one_number : (place : ThreadState) (i j : ℕ) → IsListOf place i → IsListOf place j → i ≡ j
one_number Ready i j a b = a ∙ sym b
one_number (Waiting note) i j a b = a ∙ sym b
one_number (Calling connection) i j a b = a ∙ sym b
one_number (Running core) i j a b = absurd a
one_number (Served connection) i j a b = absurd a
one_number (Serving connection) i j a b = absurd a
one_number (Stopped cause) i j a b = absurd a

-- who is in the list of a number's record stands in the place of that list
record Stands (s : State) (i thread : ℕ) : Type 0 where
  place : ThreadState
  list : IsListOf place i
  stands : StandsIn s thread place

object_told : (records : ℕ → Option Obj) (rest : Rest) (i : ℕ) (told : Option Obj) → records i ≡ told → (state_of_records records rest).objects i ≡ object_in rest.content told
unfolding state_of_records
object_told records rest i told e = ap (object_in rest.content) e

queue_told : (records : ℕ → Option Obj) (rest : Rest) (told : Option Obj) → records SCHEDULER ≡ told → (state_of_records records rest).queue ≡ list_in told
unfolding state_of_records
queue_told records rest told e = ap list_in e

stands : (records : ℕ → Option Obj) (rest : Rest) (i thread : ℕ) (told : Option Obj) → records i ≡ told → HasFixedObjects (state_of_records records rest) → Contains (list_in told) thread → Stands (state_of_records records rest) i thread
stands records rest i thread None e fixed there = absurd (omega (arith, there.1))
stands records rest i thread (Some (Obj.Group group)) e fixed there = absurd (omega (arith, there.1))
stands records rest i thread (Some (Obj.Thread t)) e fixed there = absurd (omega (arith, there.1))
stands records rest i thread (Some (Obj.Space space)) e fixed there = absurd (omega (arith, there.1))
stands records rest i thread (Some (Obj.Memory memory)) e fixed there = absurd (omega (arith, there.1))
stands records rest i thread (Some (Obj.Ring ring)) e fixed there = absurd (omega (arith, there.1))
stands records rest i thread (Some (Obj.Connection c)) e fixed there = record {
  place = Calling i;
  list = refl;
  stands = subst (λ (o : Option Object). 1 ≤ times thread (clients_of o)) (sym (object_told records rest i (Some (Obj.Connection c)) e)) (contained_stands c.clients.items thread there);
}
stands records rest i thread (Some (Obj.Notification note)) e fixed there = record {
  place = Waiting i;
  list = refl;
  stands = subst (λ (o : Option Object). 1 ≤ times thread (waiters_of o)) (sym (object_told records rest i (Some (Obj.Notification note)) e)) (contained_stands note.waiters.items thread there);
}
stands records rest i thread (Some (Obj.Scheduler scheduler)) e fixed there =
    let here : i ≡ SCHEDULER = scheduler_alone (state_of_records records rest) i fixed (object_told records rest i (Some (Obj.Scheduler scheduler)) e) in
    record {
      place = Ready;
      list = here;
      stands = subst (λ (ids : List ℕ). 1 ≤ times thread ids) (sym (queue_told records rest (Some (Obj.Scheduler scheduler)) (ap records (sym here) ∙ e))) (contained_stands scheduler.queue.items thread there);
    }

pub lists_apart : (records : ℕ → Option Obj) (rest : Rest) (i j thread : ℕ) → IsPlaced (state_of_records records rest) → HasFixedObjects (state_of_records records rest) →
    Contains (list_in (records i)) thread → Contains (list_in (records j)) thread → i ≡ j
lists_apart records rest i j thread placed fixed here there =
    let a = stands records rest i thread (records i) refl fixed here in
    let b = stands records rest j thread (records j) refl fixed there in
    let same : a.place ≡ b.place = same_Some a.place b.place (sym (placed.does a.place thread a.stands) ∙ placed.does b.place thread b.stands) in
    one_number b.place i j (subst (λ (p : ThreadState). IsListOf p i) same a.list) b.list

scheduler_at : (records : ℕ → Option Obj) (rest : Rest) (i : ℕ) (told : Option Obj) → records i ≡ told → HasFixedObjects (state_of_records records rest) → is_scheduler_in told ≡ true → i ≡ SCHEDULER
scheduler_at records rest i (Some (Obj.Scheduler scheduler)) e fixed is = scheduler_alone (state_of_records records rest) i fixed (object_told records rest i (Some (Obj.Scheduler scheduler)) e)
scheduler_at records rest i None e fixed is = absurd (false≢true is)
scheduler_at records rest i (Some (Obj.Group group)) e fixed is = absurd (false≢true is)
scheduler_at records rest i (Some (Obj.Thread t)) e fixed is = absurd (false≢true is)
scheduler_at records rest i (Some (Obj.Space space)) e fixed is = absurd (false≢true is)
scheduler_at records rest i (Some (Obj.Memory memory)) e fixed is = absurd (false≢true is)
scheduler_at records rest i (Some (Obj.Connection c)) e fixed is = absurd (false≢true is)
scheduler_at records rest i (Some (Obj.Notification note)) e fixed is = absurd (false≢true is)
scheduler_at records rest i (Some (Obj.Ring ring)) e fixed is = absurd (false≢true is)

pub scheduler_only : (records : ℕ → Option Obj) (rest : Rest) (i : ℕ) → HasFixedObjects (state_of_records records rest) → is_scheduler_in (records i) ≡ true → i ≡ SCHEDULER
scheduler_only records rest i fixed is = scheduler_at records rest i (records i) refl fixed is
