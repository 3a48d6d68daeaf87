-- Threads that stand where their states say: each label that may befall a world keeps its states so.
use Rattle.std.specs.Prelude.{◌≡◌, ◌≢◌, ℕ, ◌≤◌, ◌<◌, Bool, true, false, List, [], ◌∷◌, length, filter, Option, Some, None, option_map, slice_index_or}
use Rattle.std.proofs.Common.{refl, ap, sym, ◌∙◌, arith}
use Rattle.std.proofs.lemmas.Bool.{not-false}
use Rattle.sls_base.specs.declared.causes.TheConstants.{LOST_OBJECT}
use Rattle.sls_base.specs.declared.thread.ThreadState.{ThreadState}
use Rattle.sls_base.specs.declared.thread.ThreadState.TheVariants.{Ready, Running, Waiting, Calling, Served, Serving, Stopped}
use Rattle.plain_state.specs.declared.objects.Occupant.{Occupant}
use Rattle.plain_state.specs.declared.label.Label.{Label}
use Rattle.plain_state.specs.declared.label.Label.TheVariants.{Tick, Commit, Cut, Accept, Input}
use Rattle.plain_model.specs.Objects.{Connection}
use Rattle.plain_model.specs.States.{State, thread_at}
use Rattle.plain_model.specs.Worlds.{World}
use Rattle.plain_model.specs.Ticks.{Chosen, chosen, ticked, world_of_effect, effect_for, state_of_effect}
use Rattle.plain_model.specs.Sweep.{is_reached, swept, settled, settled_state, waits_for, is_lost, thread_on, kept_on_core}
use Rattle.plain_model.specs.Play.{after, play, state_after_cut, accept, is_offered, has_input_room, input, with_input}
use Rattle.plain_model.specs.MayStep.{MayStep, MayPlay}
use Rattle.plain_laws.specs.Places.{state_of, running_on, threads_in, times, StandsIn, names_place, IsPlaced, IsPresent}
use Rattle.plain_laws.proofs.Placed.{times_more, times_other}
use Rattle.plain_laws.proofs.PlacedTicks.{taken}
use Rattle.plain_laws.proofs.PlacedLabels.{swept_core, swept_on_core, swept_waiters, swept_clients, swept_served, settled_does, BothPlaced, stays_placed}
use Rattle.plain_laws.proofs.Present.{all_there, are_present, there_alike}
use Rattle.plain_laws.proofs.PresentTicks.{ready_for}
use Rattle.plain_laws.proofs.PresentInstructions.{stays_instruction}

-- The sweep.

-- a filter keeps what passes
pub kept_head : (p : ℕ → Bool) (x : ℕ) (xs : List ℕ) (id : ℕ) (b : Bool) → p x ≡ b → p id ≡ true → times id xs ≤ times id (filter p xs) → times id (x ∷ xs) ≤ times id (filter p (x ∷ xs))
kept_head p x xs id true e is l = rw e (let a = times_more id (x ∷ []) (filter p xs) in let b = times_more id (x ∷ []) xs in omega arith)
kept_head p x xs id false e is l =
    let ne : id ≢ x = λ same. (let f : false ≡ true = sym e ∙ ap p (sym same) ∙ is in absurd (cc)) in
    rw e (let a = times_more id (x ∷ []) xs in let b = times_other id x ne in omega arith)

pub filter_keeps : (p : ℕ → Bool) (xs : List ℕ) (id : ℕ) → p id ≡ true → times id xs ≤ times id (filter p xs)
filter_keeps p [] id is = omega arith
filter_keeps p (x ∷ xs) id is = kept_head p x xs id (p x) refl is (filter_keeps p xs id is)

-- a place that has not vanished has the threads that are reached
pub swept_left : (s : State) (place : ThreadState) → is_lost s (waits_for place) ≡ false → threads_in (swept s) place ≡ filter (is_reached s) (threads_in s place)
swept_left s Ready found = refl
swept_left s (Running k) found = ap running_on (swept_core s s.cores k) ∙ swept_on_core s (slice_index_or s.cores k None)
swept_left s (Waiting i) found = rw (not-false (is_reached s i) found) (swept_waiters s (s.objects i))
swept_left s (Calling i) found = rw (not-false (is_reached s i) found) (swept_clients s (s.objects i))
swept_left s (Served i) found = rw (not-false (is_reached s i) found) (swept_served s (s.objects i))
swept_left s (Serving i) found = refl
swept_left s (Stopped cause) found = refl

-- a thread that has not stopped did the same before, and what it waits for is there
pub record IsKept (s : State) (id : ℕ) (state : ThreadState) : Type 0 where
  pub reached : is_reached s id ≡ true
  pub found : is_lost s (waits_for state) ≡ false
  pub did : state_of (s.objects id) ≡ Some state

pub kept_from : (s : State) (id : ℕ) (old state : ThreadState) (b : Bool) → is_lost s (waits_for old) ≡ b → settled_state s old ≡ state → ((cause : ℕ) → state ≢ Stopped cause)
    → is_reached s id ≡ true → state_of (s.objects id) ≡ Some old → IsKept s id state
kept_from s id old state true lost e goes r did = (let f : Stopped LOST_OBJECT ≡ state = rw lost at e in absurd (goes LOST_OBJECT (sym f)))
kept_from s id old state false lost e goes r did =
    let same : old ≡ state = rw lost at e in
    record { reached = r; found = ap (λ (x : ThreadState). is_lost s (waits_for x)) (sym same) ∙ lost; did = did ∙ ap (λ (x : ThreadState). Some x) same }

pub kept_or_none : (s : State) (id : ℕ) (state : ThreadState) (old : Option ThreadState) → state_of (s.objects id) ≡ old → option_map (settled_state s) old ≡ Some state → ((cause : ℕ) → state ≢ Stopped cause)
    → is_reached s id ≡ true → IsKept s id state
kept_or_none s id state None did e goes r = absurd (cc)
kept_or_none s id state (Some old) did e goes r =
    let f : settled_state s old ≡ state = cc in
    kept_from s id old state (is_lost s (waits_for old)) refl f goes r did

pub kept_if : (s : State) (id : ℕ) (state : ThreadState) (b : Bool) → is_reached s id ≡ b → state_of ((swept s).objects id) ≡ Some state → ((cause : ℕ) → state ≢ Stopped cause) → IsKept s id state
kept_if s id state true r e goes =
    let there : state_of (option_map (settled s) (s.objects id)) ≡ Some state = rw r at e in
    kept_or_none s id state (state_of (s.objects id)) refl (sym (settled_does s (s.objects id)) ∙ there) goes r
kept_if s id state false r e goes = (let none : None ≡ Some state = rw r at e in absurd (cc))

pub kept_thread : (s : State) (id : ℕ) (state : ThreadState) → state_of ((swept s).objects id) ≡ Some state → ((cause : ℕ) → state ≢ Stopped cause) → IsKept s id state
kept_thread s id state e goes = kept_if s id state (is_reached s id) refl e goes

pub place_goes : (place : ThreadState) → names_place place ≡ true → (cause : ℕ) → place ≢ Stopped cause
place_goes place n cause same = (let f : false ≡ true = rw same at n in absurd (cc))

pub still_stands : (s : State) → IsPresent s → (id : ℕ) (place : ThreadState) → state_of ((swept s).objects id) ≡ Some place → names_place place ≡ true → StandsIn (swept s) id place
still_stands s h id place e n =
    let k = kept_thread s id place e (place_goes place n) in
    let stood = h.stands id place k.did n in
    let a = ap (times id) (swept_left s place k.found) in
    let b = filter_keeps (is_reached s) (threads_in s place) id k.reached in
    omega arith

pub still_serves : (s : State) → IsPresent s → (id connection : ℕ) → state_of ((swept s).objects id) ≡ Some (Serving connection) → (swept s).objects connection ≡ Some (Connection id None [])
still_serves s h id connection e =
    let k = kept_thread s id (Serving connection) e (λ cause same. absurd (cc)) in
    let there = not-false (is_reached s connection) k.found in
    rw (there, h.serves id connection k.did) refl

pub core_was : (s : State) (o : Option Occupant) (occupant : Occupant) (b : Bool) → is_lost s (thread_on o) ≡ b → kept_on_core s o ≡ Some occupant → o ≡ Some occupant
core_was s o occupant true lost e = (let none : None ≡ Some occupant = rw lost at e in absurd (cc))
core_was s o occupant false lost e = rw lost at e

pub occupant_was : (s : State) (core : ℕ) (occupant : Occupant) → slice_index_or (swept s).cores core None ≡ Some occupant → slice_index_or s.cores core None ≡ Some occupant
occupant_was s core occupant e =
    let o = slice_index_or s.cores core None in
    core_was s o occupant (is_lost s (thread_on o)) refl (sym (swept_core s s.cores core) ∙ e)

pub swept_present : (s : State) → IsPlaced s → IsPresent s → IsPresent (swept s)
swept_present s placed h = record {
  stands = still_stands s h;
  serves = still_serves s h;
  slices = λ core occupant e. h.slices core occupant (occupant_was s core occupant e);
}

-- Labels.

-- both states of a world have each thread where its state says
abbrev pub BothPresent : World → Type 0
BothPresent w = IsPresent w.now × IsPresent w.saved

pub present_alike : (s t : State) → s.objects ≡ t.objects → s.queue ≡ t.queue → s.cores ≡ t.cores → IsPresent s → IsPresent t
present_alike s t o q k h = are_present t (there_alike s t [] o q k (all_there s h)) (λ core occupant e. h.slices core occupant (rw k e))

pub effect_present : (w : World) (core : ℕ) (c : Chosen) → chosen w.now core ≡ Some c → core < length w.now.cores → IsPlaced w.now → IsPresent w.now → IsPresent (world_of_effect w core c (effect_for w c)).now
unfolding state_of_effect
effect_present w core c e below placed h = stays_instruction w core c (thread_at w.now c.occupant.thread) (taken w.now core c e placed) (ready_for w.now core c e below placed h)

pub ticked_present : (w : World) (core : ℕ) (c : Option Chosen) → chosen w.now core ≡ c → core < length w.now.cores → IsPlaced w.now → BothPresent w → BothPresent (ticked w core c)
ticked_present w core None e below placed h = h
ticked_present w core (Some c) e below placed h = (effect_present w core c e below placed h.0, h.1)

pub accepted_present : (w : World) (channel : ℕ) (b : Bool) → is_offered w channel ≡ b → BothPresent w → BothPresent (accept w channel)
accepted_present w channel true e h = rw e h
accepted_present w channel false e h = rw e h

pub input_present : (w : World) (bytes : List ℕ) (b : Bool) → has_input_room w ≡ b → BothPresent w → BothPresent (input w bytes)
input_present w bytes true e h = rw e (present_alike w.now (with_input w.now bytes) refl refl refl h.0, h.1)
input_present w bytes false e h = rw e h

pub stays_present : (w : World) (label : Label) → MayStep w label → BothPlaced w → BothPresent w → BothPresent (after w label)
stays_present w (Tick core) may placed h = ticked_present w core (chosen w.now core) refl may placed.0 h
stays_present w Commit may placed h = (let p = swept_present w.now placed.0 h.0 in (p, p))
stays_present w Cut may placed h = (present_alike w.saved (state_after_cut w) refl refl refl h.1, h.1)
stays_present w (Accept channel) may placed h = accepted_present w channel (is_offered w channel) refl h
stays_present w (Input bytes) may placed h = input_present w bytes.items (has_input_room w) refl h

pub played_present : (w : World) (labels : List Label) → MayPlay w labels → BothPlaced w → BothPresent w → BothPresent (play w labels)
played_present w [] may placed h = h
played_present w (label ∷ labels) may placed h = played_present (after w label) labels may.1 (stays_placed w label placed) (stays_present w label may.0 placed h)
