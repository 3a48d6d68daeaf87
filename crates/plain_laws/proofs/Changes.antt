-- What a tick changes.
use Rattle.std.specs.Prelude.{◌≡◌, ◌≢◌, ℕ, ◌-◌, ◌==◌, ◌||◌, false, if◌then◌else◌, List, [], ◌∷◌, ◌++◌, drop, is_some, Option, Some, None, slice_index_or}
use Rattle.std.specs.List.{list_any}
use Rattle.std.proofs.Common.{refl, ap, sym, ◌∙◌, get_or-set_other}
use Rattle.std.proofs.lemmas.Bool.{ne_eqb, eqb-false}
use Rattle.sls_base.proofs.ListTests.{or_false}
use Rattle.sls_base.specs.declared.limits.TheConstants.{CORE_SLICE}
use Rattle.plain_state.specs.declared.objects.Occupant.{Occupant}
use Rattle.plain_state.specs.declared.effect.ByteStore.{ByteStore}
use Rattle.plain_state.specs.declared.effect.Output.{Output}
use Rattle.plain_model.specs.Objects.{Object, Thread}
use Rattle.plain_model.specs.States.{thread_at, with_object}
use Rattle.plain_model.specs.Memory.{with_store, with_stores}
use Rattle.plain_model.specs.Worlds.{World}
use Rattle.plain_model.specs.Effects.{Effect, Change}
use Rattle.plain_model.specs.Ticks.{Chosen, chosen, own_or_front, at_back, ticked, tick, world_of_effect, state_of_effect, with_changes, with_output, on_core, at_slice_end, thread_after, effect_for, puts_on, writes, puts_to_ring}
use Rattle.plain_laws.specs.Ticks.{ChangesOnly, queue_left}

pub other_object : (objects : ℕ → Option Object) (id : ℕ) (object : Object) (i : ℕ) → i ≢ id → with_object objects id object i ≡ objects i
other_object objects id object i ne = rw (ne_eqb i id ne) refl

pub unchanged : (changes : List Change) (objects : ℕ → Option Object) (i : ℕ) → list_any (λ change. change.id == i) changes ≡ false → with_changes objects changes i ≡ objects i
unchanged [] objects i e = refl
unchanged (change ∷ changes) objects i e =
    let parts = or_false (change.id == i) (list_any (λ c. c.id == i) changes) e in
    let ne : i ≢ change.id = λ same. eqb-false change.id i parts.0 (sym same) in
    unchanged changes (with_object objects change.id change.object) i parts.1 ∙ other_object objects change.id change.object i ne

pub other_store : (objects : ℕ → Option Object) (store : ByteStore) (i : ℕ) → i ≢ store.place.memory → with_store objects store i ≡ objects i
other_store objects store i ne = rw (ne_eqb i store.place.memory ne) refl

pub unstored : (stores : List ByteStore) (objects : ℕ → Option Object) (i : ℕ) → list_any (λ store. store.place.memory == i) stores ≡ false → with_stores objects stores i ≡ objects i
unstored [] objects i e = refl
unstored (store ∷ stores) objects i e =
    let parts = or_false (store.place.memory == i) (list_any (λ s. s.place.memory == i) stores) e in
    let ne : i ≢ store.place.memory = λ same. eqb-false store.place.memory i parts.0 (sym same) in
    unstored stores (with_store objects store) i parts.1 ∙ other_store objects store i ne

pub unput : (out : ℕ → List (List ℕ)) (output : Option Output) (channel : ℕ) → puts_on output channel ≡ false → with_output out output channel ≡ out channel
unput out None channel e = refl
unput out (Some output) channel e =
    let ne : channel ≢ output.channel = λ same. eqb-false output.channel channel e (sym same) in
    rw (ne_eqb channel output.channel ne) refl

pub effect_changes : (w : World) (core : ℕ) (c : Chosen) (e : Effect) (i : ℕ) → i ≢ c.occupant.thread → writes e i ≡ false → (world_of_effect w core c e).now.objects i ≡ w.now.objects i
unfolding state_of_effect
effect_changes w core c e i ne h =
    let first = or_false (list_any (λ change. change.id == i) e.changes) (list_any (λ store. store.place.memory == i) e.stores || puts_to_ring e.output i) h in
    let second = or_false (list_any (λ store. store.place.memory == i) e.stores) (puts_to_ring e.output i) first.1 in
    other_object (with_changes (with_stores w.now.objects e.stores) e.changes) c.occupant.thread (Thread (thread_after core (thread_at w.now c.occupant.thread) (at_slice_end (c.occupant.slice - 1) e.goes) e)) i ne
    ∙ unchanged e.changes (with_stores w.now.objects e.stores) i first.0
    ∙ unstored e.stores w.now.objects i second.0

pub effect_out : (w : World) (core : ℕ) (c : Chosen) (e : Effect) (channel : ℕ) → puts_on e.output channel ≡ false → (world_of_effect w core c e).now.out channel ≡ w.now.out channel
unfolding state_of_effect
effect_out w core c e channel h = unput w.now.out e.output channel h

pub effect_cores : (w : World) (core : ℕ) (c : Chosen) (e : Effect) (other : ℕ) → other ≢ core → slice_index_or (world_of_effect w core c e).now.cores other None ≡ slice_index_or w.now.cores other None
unfolding state_of_effect
effect_cores w core c e other ne = get_or-set_other w.now.cores core other (on_core c.occupant.thread (c.occupant.slice - 1) (at_slice_end (c.occupant.slice - 1) e.goes)) None ne

-- whom a core chooses leaves the queue without its front, if it was taken
pub queue_of : (queue : List ℕ) (core : Option Occupant) (c : Chosen) → own_or_front core queue ≡ Some c → c.queue ≡ (if is_some core then queue else drop 1 queue)
queue_of queue (Some occupant) c e = (let same : Some (record { occupant = occupant; queue = queue }) ≡ Some c = e in cc)
queue_of [] None c e = absurd (cc)
queue_of (id ∷ queue) None c e = (let same : Some (record { occupant = record { thread = id; slice = CORE_SLICE }; queue = queue }) ≡ Some c = e in cc)

pub effect_queue : (w : World) (core : ℕ) (c : Chosen) (e : Effect) → chosen w.now core ≡ Some c
    → (world_of_effect w core c e).now.queue ≡ queue_left w.now core ++ e.wakes ++ at_back c.occupant.thread (at_slice_end (c.occupant.slice - 1) e.goes)
unfolding state_of_effect
effect_queue w core c e h =
    ap (λ (queue : List ℕ). queue ++ e.wakes ++ at_back c.occupant.thread (at_slice_end (c.occupant.slice - 1) e.goes)) (queue_of w.now.queue (slice_index_or w.now.cores core None) c h)

pub effect_inputs : (w : World) (core : ℕ) (c : Chosen) (e : Effect) → (world_of_effect w core c e).now.inputs ≡ (if e.takes then drop 1 w.now.inputs else w.now.inputs)
unfolding state_of_effect
effect_inputs w core c e = refl

pub tick_is : (w : World) (core : ℕ) (c : Chosen) → chosen w.now core ≡ Some c → tick w core ≡ world_of_effect w core c (effect_for w c)
tick_is w core c e = ap (ticked w core) e

pub tick_changes : (w : World) (core : ℕ) (c : Chosen) → chosen w.now core ≡ Some c → ChangesOnly w core c
tick_changes w core c e =
    let is = tick_is w core c e in record {
      objects = λ i ne h. ap (λ (v : World). v.now.objects i) is ∙ effect_changes w core c (effect_for w c) i ne h;
      out = λ channel h. ap (λ (v : World). v.now.out channel) is ∙ effect_out w core c (effect_for w c) channel h;
      inputs = ap (λ (v : World). v.now.inputs) is ∙ effect_inputs w core c (effect_for w c);
      queue = ap (λ (v : World). v.now.queue) is ∙ effect_queue w core c (effect_for w c) e;
      cores = λ other ne. ap (λ (v : World). slice_index_or v.now.cores other None) is ∙ effect_cores w core c (effect_for w c) other ne;
      saved = ap (λ (v : World). v.saved) is;
      released = ap (λ (v : World). v.released) is;
      base = ap (λ (v : World). v.base) is;
      version = ap (λ (v : World). v.version) is;
    }
