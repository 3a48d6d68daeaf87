-- Who stands in a list, and who in none.
use Rattle.std.specs.Prelude.{◌⊎◌, ◌≡◌, ◌≢◌, ℕ, ◌≤◌, ◌==◌, Bool, true, false, List, [], ◌∷◌, zero, suc, ◌<◌, Contains, Option, Some, None}
use Rattle.std.proofs.Common.{refl, sym, ◌∙◌, arith, cond, get_or, eq-eqb, inl, inr, subst}
use Rattle.std.proofs.lemmas.Bool.{eqb-true, eqb-false}
use Rattle.std.proofs.lemmas.List.Sums.{sum_by-cons}
use Rattle.std.proofs.lemmas.List.Elements.{Contains-append_cases}
use Rattle.sls_base.specs.declared.thread.ThreadState.{ThreadState}
use Rattle.sls_base.specs.declared.thread.ThreadState.TheVariants.{Ready, Waiting, Calling}
use Rattle.link_lists.specs.Lists.{list_at, IsFree}
use Rattle.ipc_note.specs.declared.lists.TheConstants.{RUN_QUEUE}
use Rattle.plain_state.specs.Objects.{Object}
use Rattle.plain_laws.specs.Places.{IsPlaced, times, state_of as does}
use Rattle.kobj_table.specs.declared.objects.Objects.{Objects}
use Rattle.kobj_table.specs.declared.slot.Slot.{Slot}
use Rattle.kobj_table.specs.Objects.{Rest, slot_at, object_at, state_of, HasNoStrays}

pub at_first : (y x : ℕ) (has : Contains (y ∷ []) x) → y ≡ x
at_first y x has = first has.0 has.1 has.2 where
  first : (k : ℕ) → k < 1 → get_or (y ∷ []) k x ≡ x → y ≡ x
  first zero below is = is
  first (suc k) below is = absurd (omega arith)

-- who is in a list is in it some times
pub counts : (ids : List ℕ) (id : ℕ) → Contains ids id → 1 ≤ times id ids
counts [] id has = absurd (omega (arith, has.1))
counts (x ∷ xs) id has =
    let step = sum_by-cons (λ other. cond (other == id) 1 0) x xs in
    elim (Contains-append_cases (x ∷ []) xs id has) [
      | inl here ↦ let one : ◌≡◌ {A = ℕ} (cond (x == id) 1 0) 1 = rw (eq-eqb x id (at_first x id here)) refl in omega (arith, step, one)
      | inr later ↦ let more : 1 ≤ times id xs = counts xs id later in omega (arith, step, more)
    ]

-- a list has a first element or none
pub cases_list : (ids : List ℕ) → (ids ≡ []) ⊎ ((first : ℕ) × (rest : List ℕ) × (ids ≡ first ∷ rest))
cases_list [] = inl refl
cases_list (first ∷ rest) = inr (first, rest, refl)

-- threads in these states stand in a list
abbrev pub IsListed : ThreadState → Type 0
IsListed Ready = Unit {0}
IsListed (Waiting id) = Unit {0}
IsListed (Calling id) = Unit {0}
IsListed state = ⊥

-- a thread that stands in a list does what says so
abbrev pub Listed : (ℕ → Option Object) → ℕ → Type 0
Listed objects id = (place : ThreadState) × (does (objects id) ≡ Some place) × IsListed place

pub does_nothing : (o : Option Object) (place : ThreadState) → o ≡ None → does o ≡ Some place → ⊥
does_nothing None place none e = cc
does_nothing (Some object) place none e = cc

-- no object stands in a list
pub none_listed : (objects : ℕ → Option Object) (id : ℕ) → objects id ≡ None → Listed objects id → ⊥
none_listed objects id none l = does_nothing (objects id) l.0 none l.1

same_state : (a b : ThreadState) → Some a ≡ Some b → a ≡ b
same_state a b e = cc

-- who does something else stands in none
pub asleep_unlisted : (objects : ℕ → Option Object) (id : ℕ) (state : ThreadState) → does (objects id) ≡ Some state → (IsListed state → ⊥) → Listed objects id → ⊥
asleep_unlisted objects id state e none l = none (subst IsListed (same_state l.0 state (sym l.1 ∙ e)) l.2)

module _ (o : Objects) (rest : Rest) (placed : IsPlaced (state_of o rest)) (strays : HasNoStrays o) where
  listed_in : (i id : ℕ) (slot : Slot) → slot_at o i ≡ slot → i ≢ RUN_QUEUE → Contains (list_at o.links i) id → Listed (object_at rest.content o) id
  unfolding state_of
  listed_in i id (Slot.Connection connection) is other has = (Calling i, placed.does (Calling i) id (rw is (counts (list_at o.links i) id has)), tt)
  listed_in i id (Slot.Notification note) is other has = (Waiting i, placed.does (Waiting i) id (rw is (counts (list_at o.links i) id has)), tt)
  listed_in i id Slot.Empty is other has = absurd (omega (arith, (rw (strays i other (rw is refl)) at has).1))
  listed_in i id (Slot.Group group) is other has = absurd (omega (arith, (rw (strays i other (rw is refl)) at has).1))
  listed_in i id (Slot.Thread thread) is other has = absurd (omega (arith, (rw (strays i other (rw is refl)) at has).1))
  listed_in i id (Slot.Space space) is other has = absurd (omega (arith, (rw (strays i other (rw is refl)) at has).1))
  listed_in i id (Slot.Memory memory) is other has = absurd (omega (arith, (rw (strays i other (rw is refl)) at has).1))
  listed_in i id (Slot.Ring ring) is other has = absurd (omega (arith, (rw (strays i other (rw is refl)) at has).1))
  listed_in i id (Slot.Scheduler cores) is other has = absurd (omega (arith, (rw (strays i other (rw is refl)) at has).1))

  listed_by : (i id : ℕ) (b : Bool) → (i == RUN_QUEUE) ≡ b → Contains (list_at o.links i) id → Listed (object_at rest.content o) id
  unfolding state_of
  listed_by i id true same has = (Ready, placed.does Ready id (counts (list_at o.links RUN_QUEUE) id (rw (eqb-true i RUN_QUEUE same) at has)), tt)
  listed_by i id false same has = listed_in i id (slot_at o i) refl (eqb-false i RUN_QUEUE same) has

  pub listed : (i id : ℕ) → Contains (list_at o.links i) id → Listed (object_at rest.content o) id
  listed i id has = listed_by i id (i == RUN_QUEUE) refl has

  -- who does something else, or is no thread, stands in none
  pub free_unlisted : (id : ℕ) → (Listed (object_at rest.content o) id → ⊥) → IsFree o.links id
  free_unlisted id none i has = none (listed i id has)
