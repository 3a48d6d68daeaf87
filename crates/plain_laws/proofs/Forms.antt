-- Forms of objects: each label of a world keeps them.
use Rattle.std.specs.Prelude.{◌≡◌, ℕ, ◌-◌, ◌==◌, Bool, true, false, if◌then◌else◌, List, [], ◌∷◌, Option, Some, None, slice_index_or, option_map, filter}
use Rattle.std.proofs.Common.{refl, ap, arith}
use Rattle.std.proofs.lemmas.List.{length-set}
use Rattle.sls_base.specs.declared.thread.Thread.{Thread as ThreadRecord}
use Rattle.plain_state.specs.declared.effect.ByteStore.{ByteStore}
use Rattle.plain_state.specs.declared.effect.Goes.{Goes}
use Rattle.plain_state.specs.declared.effect.Place.{Place}
use Rattle.plain_state.specs.declared.label.Label.{Label}
use Rattle.plain_state.specs.declared.label.Label.TheVariants.{Tick, Commit, Cut, Accept, Input}
use Rattle.plain_model.specs.Objects.{Object, Thread, Memory, Connection, Notification}
use Rattle.plain_model.specs.States.{State, thread_at, with_object}
use Rattle.plain_model.specs.Memory.{memory_with, with_store, with_stores, page_with, no_page}
use Rattle.plain_model.specs.Worlds.{World}
use Rattle.plain_model.specs.Effects.{Effect, Change}
use Rattle.plain_model.specs.Instructions.{instruction}
use Rattle.plain_model.specs.Ticks.{Chosen, chosen, ticked, effect_for, thread_after, with_changes, state_with, at_slice_end, state_of_effect, world_of_effect}
use Rattle.plain_model.specs.Sweep.{is_reached, swept, settled}
use Rattle.plain_model.specs.Play.{after, play, accept, is_offered, has_input_room, input}
use Rattle.plain_laws.specs.Sound.{HasForm, HaveForms}
use Rattle.plain_laws.proofs.PlacedObjects.{of_each}
use Rattle.plain_laws.proofs.FormsCalls.{ChangesFit, call_fit}
use Rattle.plain_laws.proofs.Walk.{holds_of_instruction}

-- Instructions.

instruction_fits : (w : World) (id : ℕ) (thread : ThreadRecord) → HaveForms w.now → ChangesFit (instruction w id thread).changes
instruction_fits w id thread h = holds_of_instruction (λ (e : Effect). ChangesFit e.changes) w id thread (record {
  unfetched = tt;
  fetches = λ e covered fit. fit;
  illegal = tt;
  sets = λ rd value pc does. tt;
  loads = λ op rd at does covered. tt;
  stores = λ op at value does covered. tt;
  stops_there = λ cause does. tt;
  refuses = λ refusal. tt;
  calls = λ call named free. call_fit w id thread call h free;
})

-- Stores, which keep a memory object's number of pages.

stored_form : (o : Option Object) (place : Place) (value : ℕ) → HasForm o → HasForm (memory_with o place value)
stored_form (Some (Memory pages)) place value h =
    let count = length-set pages place.page (page_with (slice_index_or pages place.page no_page) place.offset value) in
    let low = h.0 in
    let high = h.1 in
    (omega arith, omega arith)
stored_form o place value h = h

stored_form_if : (o : Option Object) (store : ByteStore) (b : Bool) → HasForm o → HasForm (if b then memory_with o store.place store.value else o)
stored_form_if o store true h = stored_form o store.place store.value h
stored_form_if o store false h = h

pub stores_fit : (stores : List ByteStore) (objects : ℕ → Option Object) → ((i : ℕ) → HasForm (objects i)) → (i : ℕ) → HasForm (with_stores objects stores i)
stores_fit [] objects h i = h i
stores_fit (store ∷ stores) objects h i = stores_fit stores (with_store objects store) (λ k. stored_form_if (objects k) store (k == store.place.memory) (h k)) i

-- Changes.

pub object_fits : (objects : ℕ → Option Object) (id : ℕ) (object : Object) → HasForm (Some object) → ((i : ℕ) → HasForm (objects i)) → (i : ℕ) → HasForm (with_object objects id object i)
object_fits objects id object new h = of_each (λ i o. HasForm o) objects id object new (λ i ne. h i)

pub changes_fit : (changes : List Change) (objects : ℕ → Option Object) → ChangesFit changes → ((i : ℕ) → HasForm (objects i)) → (i : ℕ) → HasForm (with_changes objects changes i)
changes_fit [] objects fit h = h
changes_fit (change ∷ changes) objects fit h = changes_fit changes (with_object objects change.id change.object) fit.1 (object_fits objects change.id change.object fit.0 h)

state_fits : (s : State) (core : ℕ) (c : Chosen) (goes : Goes) (e : Effect) → ChangesFit e.changes → HaveForms s → HaveForms (state_with s core c goes e)
state_fits s core c goes e fit h =
    let id = c.occupant.thread in
    object_fits (with_changes (with_stores s.objects e.stores) e.changes) id (Thread (thread_after core (thread_at s id) goes e)) tt
    (changes_fit e.changes (with_stores s.objects e.stores) fit (stores_fit e.stores s.objects h))

-- The sweep.

settled_form : (s : State) (o : Option Object) → HasForm o → HasForm (option_map (settled s) o)
settled_form s None h = h
settled_form s (Some (Thread thread)) h = tt
settled_form s (Some (Connection server client clients)) h = tt
settled_form s (Some (Notification count waiters)) h = (h.0, λ some. h.1 (λ none. some (ap (filter (is_reached s)) none)))
settled_form s (Some o) h = h

swept_form_if : (s : State) (i : ℕ) (b : Bool) → HasForm (s.objects i) → HasForm (if b then option_map (settled s) (s.objects i) else None)
swept_form_if s i true h = settled_form s (s.objects i) h
swept_form_if s i false h = tt

pub swept_forms : (s : State) → HaveForms s → HaveForms (swept s)
swept_forms s h = λ i. swept_form_if s i (is_reached s i) (h i)

-- Labels.

-- the objects of both states of a world have their forms
abbrev pub BothForms : World → Type 0
BothForms w = HaveForms w.now × HaveForms w.saved

pub effect_forms : (w : World) (core : ℕ) (c : Chosen) → HaveForms w.now → HaveForms (world_of_effect w core c (effect_for w c)).now
unfolding state_of_effect
effect_forms w core c h =
    state_fits w.now core c (at_slice_end (c.occupant.slice - 1) (effect_for w c).goes) (effect_for w c) (instruction_fits w c.occupant.thread (thread_at w.now c.occupant.thread) h) h

ticked_forms : (w : World) (core : ℕ) (c : Option Chosen) → BothForms w → BothForms (ticked w core c)
ticked_forms w core None h = h
ticked_forms w core (Some c) h = (effect_forms w core c h.0, h.1)

accepted_forms : (w : World) (channel : ℕ) (b : Bool) → is_offered w channel ≡ b → BothForms w → BothForms (accept w channel)
accepted_forms w channel true e h = rw e h
accepted_forms w channel false e h = rw e h

input_forms : (w : World) (bytes : List ℕ) (b : Bool) → has_input_room w ≡ b → BothForms w → BothForms (input w bytes)
input_forms w bytes true e h = rw e h
input_forms w bytes false e h = rw e h

pub stays_formed : (w : World) (label : Label) → BothForms w → BothForms (after w label)
stays_formed w (Tick core) h = ticked_forms w core (chosen w.now core) h
stays_formed w Commit h = (let p = swept_forms w.now h.0 in (p, p))
stays_formed w Cut h = (h.1, h.1)
stays_formed w (Accept channel) h = accepted_forms w channel (is_offered w channel) refl h
stays_formed w (Input bytes) h = input_forms w bytes.items (has_input_room w) refl h

pub played_formed : (w : World) (labels : List Label) → BothForms w → BothForms (play w labels)
played_formed w [] h = h
played_formed w (label ∷ labels) h = played_formed (after w label) labels (stays_formed w label h)
