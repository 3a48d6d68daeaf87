-- What each label keeps of both states of a world, and each effect of the objects of a state: said once for all laws of states.
use Rattle.std.specs.Prelude.{◌≡◌, ℕ, ◌-◌, ◌==◌, Bool, true, false, if◌then◌else◌, List, [], ◌∷◌, ◌++◌, All, Option, Some}
use Rattle.std.proofs.lemmas.List.Elements.{All-head, All-tail}
use Rattle.arrayvec.specs.ArrayVec.{ArrayVec}
use Rattle.plain_state.specs.declared.effect.ByteStore.{ByteStore}
use Rattle.plain_state.specs.declared.label.Label.{Label}
use Rattle.plain_state.specs.declared.label.Label.TheVariants.{Tick, Input}
use Rattle.plain_model.specs.Objects.{Object, Thread}
use Rattle.plain_model.specs.States.{State, thread_at, with_object}
use Rattle.plain_model.specs.Memory.{memory_with, with_store, with_stores}
use Rattle.plain_model.specs.Worlds.{World}
use Rattle.plain_model.specs.Effects.{Effect, Change}
use Rattle.plain_model.specs.Ticks.{Chosen, chosen, effect_for, thread_after, at_slice_end, with_changes, state_of_effect}
use Rattle.plain_model.specs.Sweep.{swept}
use Rattle.plain_model.specs.Play.{after, state_after_cut, has_input_room, with_input}
use Rattle.plain_laws.specs.Plays.{Both}
use Rattle.plain_laws.proofs.PlacedObjects.{of_each}
use Rattle.plain_laws.proofs.Walk.{kept_after}

-- Labels.

-- where any label will do
abbrev pub AnyLabel : Label → Type 0
AnyLabel label = Unit {0}

-- Something holds of each state that a label which passes makes of those of a world.
pub record HoldsAfter (P : State → Type 0) (Passes : Label → Type 0) (w : World) : Type 0 where
  pub ticks : (core : ℕ) (c : Chosen) → Passes (Tick core) → chosen w.now core ≡ Some c → P (state_of_effect w.now core c (effect_for w c))
  pub sweeps : P (swept w.now)
  pub cuts : P (state_after_cut w)
  pub inputs : (bytes : ArrayVec ℕ) → Passes (Input bytes) → has_input_room w ≡ true → P (with_input w.now bytes.items)

pub both_after : (P : State → Type 0) (Passes : Label → Type 0) (w : World) → HoldsAfter P Passes w → Both P w → (label : Label) → Passes label → Both P (after w label)
both_after P Passes w h both = kept_after (Both P) Passes w (record {
  ticks = λ core c passes e. (h.ticks core c passes e, both.1);
  commits = λ passes. (h.sweeps, h.sweeps);
  cuts = λ passes. (h.cuts, both.1);
  accepts = λ channel passes e. both;
  inputs = λ bytes passes e. (h.inputs bytes passes e, both.1);
}) both

-- Objects.

-- something holds of what is given by each change, at its number
abbrev pub OfChanges : (ℕ → Option Object → Type 0) → List Change → Type 0
OfChanges P [] = Unit {0}
OfChanges P (change ∷ changes) = P change.id (Some change.object) × OfChanges P changes

pub of_more_changes : (P : ℕ → Option Object → Type 0) (changes more : List Change) → OfChanges P changes → OfChanges P more → OfChanges P (changes ++ more)
of_more_changes P [] more h k = k
of_more_changes P (change ∷ changes) more h k = (h.0, of_more_changes P changes more h.1 k)

pub of_changed : (P : ℕ → Option Object → Type 0) (changes : List Change) (objects : ℕ → Option Object) → OfChanges P changes → ((i : ℕ) → P i (objects i))
    → (i : ℕ) → P i (with_changes objects changes i)
of_changed P [] objects new h = h
of_changed P (change ∷ changes) objects new h =
    of_changed P changes (with_object objects change.id change.object) new.1 (of_each P objects change.id change.object new.0 (λ i ne. h i))

-- something is kept where a byte is stored
abbrev pub KeptByStore : (ℕ → Option Object → Type 0) → ByteStore → Type 0
KeptByStore P store = (i : ℕ) (o : Option Object) → P i o → P i (memory_with o store.place store.value)

of_store_if : (P : ℕ → Option Object → Type 0) (store : ByteStore) (i : ℕ) (o : Option Object) (b : Bool) → KeptByStore P store → P i o → P i (if b then memory_with o store.place store.value else o)
of_store_if P store i o true keeps h = keeps i o h
of_store_if P store i o false keeps h = h

pub of_stored : (P : ℕ → Option Object → Type 0) (stores : List ByteStore) (objects : ℕ → Option Object) → All (KeptByStore P) stores → ((i : ℕ) → P i (objects i))
    → (i : ℕ) → P i (with_stores objects stores i)
of_stored P [] objects keeps h = h
of_stored P (store ∷ stores) objects keeps h =
    of_stored P stores (with_store objects store) (All-tail (KeptByStore P) store stores keeps)
    (λ i. of_store_if P store i (objects i) (i == store.place.memory) (All-head (KeptByStore P) store stores keeps) (h i))

-- what an effect leaves of the thread that a core runs
abbrev pub left_of : State → ℕ → Chosen → Effect → Object
left_of s core c e = Thread (thread_after core (thread_at s c.occupant.thread) (at_slice_end (c.occupant.slice - 1) e.goes) e)

-- Something holds of each object after an effect, where its stores keep it, its changes give it, and it holds of the thread.
pub of_effect : (P : ℕ → Option Object → Type 0) (s : State) (core : ℕ) (c : Chosen) (e : Effect) → All (KeptByStore P) e.stores → OfChanges P e.changes
    → P c.occupant.thread (Some (left_of s core c e)) → ((i : ℕ) → P i (s.objects i)) → (i : ℕ) → P i ((state_of_effect s core c e).objects i)
unfolding state_of_effect
of_effect P s core c e keeps new thread h =
    of_each P (with_changes (with_stores s.objects e.stores) e.changes) c.occupant.thread (left_of s core c e) thread
    (λ i ne. of_changed P e.changes (with_stores s.objects e.stores) new (of_stored P e.stores s.objects keeps h) i)
