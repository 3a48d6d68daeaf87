-- Places of threads: each label of a world keeps its states placed.
use Rattle.std.specs.Prelude.{◌≡◌, ◌⊎◌, ℕ, zero, suc, ◌≤◌, not, Bool, true, false, List, [], ◌∷◌, filter, map, Option, Some, None, option_map, slice_index_or}
use Rattle.std.proofs.Common.{refl, ap, ◌∙◌, arith, inl, inr}
use Rattle.std.proofs.lemmas.Bool.{cases_eq}
use Rattle.sls_base.specs.declared.thread.ThreadState.{ThreadState}
use Rattle.sls_base.specs.declared.thread.ThreadState.TheVariants.{Ready, Running, Waiting, Calling, Served, Serving, Stopped}
use Rattle.plain_state.specs.declared.objects.Occupant.{Occupant}
use Rattle.plain_state.specs.declared.label.Label.{Label}
use Rattle.plain_state.specs.declared.label.Label.TheVariants.{Tick, Commit, Cut, Accept, Input}
use Rattle.plain_model.specs.Objects.{Object, Thread, Connection, Notification}
use Rattle.plain_model.specs.States.{State, thread_at}
use Rattle.plain_model.specs.Worlds.{World}
use Rattle.plain_model.specs.Ticks.{Chosen, chosen, ticked, world_of_effect, effect_for, state_of_effect}
use Rattle.plain_model.specs.Sweep.{is_reached, swept, settled, settled_state, waits_for, is_lost, kept, kept_on_core}
use Rattle.plain_model.specs.Play.{after, play, state_after_cut, accept, is_offered, has_input_room, input, with_input}
use Rattle.plain_laws.specs.Places.{state_of, waiters_of, clients_of, served_of, running_on, threads_in, times, StandsIn, IsPlaced}
use Rattle.plain_laws.proofs.Placed.{times_more, times_other}
use Rattle.plain_laws.proofs.PlacedTicks.{taken, placed_alike}
use Rattle.plain_laws.proofs.PlacedInstructions.{keeps_instruction}

-- Filtered lists.

pub filtered_on : (p : ℕ → Bool) (x : ℕ) (xs : List ℕ) (id : ℕ) (b : Bool) → p x ≡ b → times id (filter p xs) ≤ times id xs → times id (filter p (x ∷ xs)) ≤ times id (x ∷ xs)
filtered_on p x xs id true e l = rw e (let a = times_more id (x ∷ []) (filter p xs) in let b = times_more id (x ∷ []) xs in omega arith)
filtered_on p x xs id false e l = rw e (let b = times_more id (x ∷ []) xs in omega arith)

pub filtered_fewer : (p : ℕ → Bool) (xs : List ℕ) (id : ℕ) → times id (filter p xs) ≤ times id xs
filtered_fewer p [] id = omega arith
filtered_fewer p (x ∷ xs) id = filtered_on p x xs id (p x) refl (filtered_fewer p xs id)

pub passes_head : (p : ℕ → Bool) (x : ℕ) (xs : List ℕ) (id : ℕ) (b : Bool) → p x ≡ b → (1 ≤ times id (filter p xs) → p id ≡ true) → 1 ≤ times id (filter p (x ∷ xs)) → p id ≡ true
passes_head p x xs id true e rest l = elim (cases_eq id x) [
  | inl same ↦ ap p same ∙ e
  | inr ne ↦
      let longer : 1 ≤ times id (x ∷ filter p xs) = rw e at l in
      rest (let a = times_more id (x ∷ []) (filter p xs) in let b = times_other id x ne in omega arith)
]
passes_head p x xs id false e rest l = rest (rw e at l)

pub passes : (p : ℕ → Bool) (xs : List ℕ) (id : ℕ) → 1 ≤ times id (filter p xs) → p id ≡ true
passes p [] id l = absurd (omega arith)
passes p (x ∷ xs) id l = passes_head p x xs id (p x) refl (passes p xs id) l

-- The sweep.

pub swept_core : (s : State) (cores : List (Option Occupant)) (k : ℕ) → slice_index_or (map (kept_on_core s) cores) k None ≡ kept_on_core s (slice_index_or cores k None)
swept_core s [] k = refl
swept_core s (core ∷ cores) zero = refl
swept_core s (core ∷ cores) (suc k) = swept_core s cores k

pub swept_waiters : (s : State) (o : Option Object) → waiters_of (option_map (settled s) o) ≡ filter (is_reached s) (waiters_of o)
swept_waiters s (Some (Notification count waiters)) = refl
swept_waiters s o = refl

pub swept_clients : (s : State) (o : Option Object) → clients_of (option_map (settled s) o) ≡ filter (is_reached s) (clients_of o)
swept_clients s (Some (Connection server client clients)) = refl
swept_clients s o = refl

pub swept_client : (s : State) (server id : ℕ) (clients others : List ℕ) (b : Bool) → is_reached s id ≡ b
    → served_of (Some (Connection server (kept s (Some id)) others)) ≡ filter (is_reached s) (served_of (Some (Connection server (Some id) clients)))
swept_client s server id clients others true e = rw e refl
swept_client s server id clients others false e = rw e refl

pub swept_served : (s : State) (o : Option Object) → served_of (option_map (settled s) o) ≡ filter (is_reached s) (served_of o)
swept_served s (Some (Connection server (Some id) clients)) = swept_client s server id clients (filter (is_reached s) clients) (is_reached s id) refl
swept_served s o = refl

pub swept_running : (s : State) (o : Occupant) (b : Bool) → is_reached s o.thread ≡ b → running_on (kept_on_core s (Some o)) ≡ filter (is_reached s) (running_on (Some o))
swept_running s o true e = rw e refl
swept_running s o false e = rw e refl

pub swept_on_core : (s : State) (o : Option Occupant) → running_on (kept_on_core s o) ≡ filter (is_reached s) (running_on o)
swept_on_core s None = refl
swept_on_core s (Some o) = swept_running s o (is_reached s o.thread) refl

-- what is left in a place: its threads that are reached, or none where the place has vanished
pub record IsSweptPlace (s : State) (place : ThreadState) : Type 0 where
  pub left : threads_in (swept s) place ≡ filter (is_reached s) (threads_in s place)
  pub there : is_lost s (waits_for place) ≡ false

pub record IsGone (s : State) (place : ThreadState) : Type 0 where
  pub empty : threads_in (swept s) place ≡ []

pub swept_waiting : (s : State) (i : ℕ) (b : Bool) → is_reached s i ≡ b → IsSweptPlace s (Waiting i) ⊎ IsGone s (Waiting i)
swept_waiting s i true e = inl (record { left = rw e (swept_waiters s (s.objects i)); there = ap not e })
swept_waiting s i false e = inr (record { empty = rw e refl })

pub swept_calling : (s : State) (i : ℕ) (b : Bool) → is_reached s i ≡ b → IsSweptPlace s (Calling i) ⊎ IsGone s (Calling i)
swept_calling s i true e = inl (record { left = rw e (swept_clients s (s.objects i)); there = ap not e })
swept_calling s i false e = inr (record { empty = rw e refl })

pub swept_serving : (s : State) (i : ℕ) (b : Bool) → is_reached s i ≡ b → IsSweptPlace s (Served i) ⊎ IsGone s (Served i)
swept_serving s i true e = inl (record { left = rw e (swept_served s (s.objects i)); there = ap not e })
swept_serving s i false e = inr (record { empty = rw e refl })

pub swept_place : (s : State) (place : ThreadState) → IsSweptPlace s place ⊎ IsGone s place
swept_place s Ready = inl (record { left = refl; there = refl })
swept_place s (Running k) = inl (record { left = ap running_on (swept_core s s.cores k) ∙ swept_on_core s (slice_index_or s.cores k None); there = refl })
swept_place s (Waiting i) = swept_waiting s i (is_reached s i) refl
swept_place s (Calling i) = swept_calling s i (is_reached s i) refl
swept_place s (Served i) = swept_serving s i (is_reached s i) refl
swept_place s (Serving i) = inr (record { empty = refl })
swept_place s (Stopped cause) = inr (record { empty = refl })

pub settled_does : (s : State) (o : Option Object) → state_of (option_map (settled s) o) ≡ option_map (settled_state s) (state_of o)
settled_does s (Some (Thread thread)) = refl
settled_does s o = refl

pub swept_does : (s : State) (id : ℕ) (place : ThreadState) → is_reached s id ≡ true → is_lost s (waits_for place) ≡ false → state_of (s.objects id) ≡ Some place
    → state_of ((swept s).objects id) ≡ Some place
swept_does s id place r there e =
    let same : settled_state s place ≡ place = rw there refl in
    rw r (settled_does s (s.objects id) ∙ ap (option_map (settled_state s)) e ∙ ap (λ (x : ThreadState). Some x) same)

pub swept_once : (s : State) → IsPlaced s → (place : ThreadState) (id : ℕ) → times id (threads_in (swept s) place) ≤ 1
swept_once s h place id = elim (swept_place s place) [
  | inl p ↦
      let a = ap (times id) p.left in
      let b = filtered_fewer (is_reached s) (threads_in s place) id in
      let c = h.once place id in
      omega arith
  | inr gone ↦ (let a = ap (times id) gone.empty in omega arith)
]

pub swept_stands : (s : State) → IsPlaced s → (place : ThreadState) (id : ℕ) → StandsIn (swept s) id place → state_of ((swept s).objects id) ≡ Some place
swept_stands s h place id l = elim (swept_place s place) [
  | inl p ↦
      let a = ap (times id) p.left in
      let b = filtered_fewer (is_reached s) (threads_in s place) id in
      let stood : StandsIn s id place = omega arith in
      let r = passes (is_reached s) (threads_in s place) id (omega arith) in
      swept_does s id place r p.there (h.does place id stood)
  | inr gone ↦ (let a = ap (times id) gone.empty in absurd (omega arith))
]

pub swept_placed : (s : State) → IsPlaced s → IsPlaced (swept s)
swept_placed s h = record { once = swept_once s h; does = swept_stands s h }

-- Labels.

-- both states of a world are placed
abbrev pub BothPlaced : World → Type 0
BothPlaced w = IsPlaced w.now × IsPlaced w.saved

pub effect_placed : (w : World) (core : ℕ) (c : Chosen) → chosen w.now core ≡ Some c → IsPlaced w.now → IsPlaced (world_of_effect w core c (effect_for w c)).now
unfolding state_of_effect
effect_placed w core c e h = keeps_instruction w core c (thread_at w.now c.occupant.thread) (taken w.now core c e h)

pub ticked_placed : (w : World) (core : ℕ) (c : Option Chosen) → chosen w.now core ≡ c → BothPlaced w → BothPlaced (ticked w core c)
ticked_placed w core None e h = h
ticked_placed w core (Some c) e h = (effect_placed w core c e h.0, h.1)

pub accepted_placed : (w : World) (channel : ℕ) (b : Bool) → is_offered w channel ≡ b → BothPlaced w → BothPlaced (accept w channel)
accepted_placed w channel true e h = rw e h
accepted_placed w channel false e h = rw e h

pub input_placed : (w : World) (bytes : List ℕ) (b : Bool) → has_input_room w ≡ b → BothPlaced w → BothPlaced (input w bytes)
input_placed w bytes true e h = rw e (placed_alike w.now (with_input w.now bytes) refl refl refl h.0, h.1)
input_placed w bytes false e h = rw e h

pub stays_placed : (w : World) (label : Label) → BothPlaced w → BothPlaced (after w label)
stays_placed w (Tick core) h = ticked_placed w core (chosen w.now core) refl h
stays_placed w Commit h = (let p = swept_placed w.now h.0 in (p, p))
stays_placed w Cut h = (placed_alike w.saved (state_after_cut w) refl refl refl h.1, h.1)
stays_placed w (Accept channel) h = accepted_placed w channel (is_offered w channel) refl h
stays_placed w (Input bytes) h = input_placed w bytes.items (has_input_room w) refl h

pub played_placed : (w : World) (labels : List Label) → BothPlaced w → BothPlaced (play w labels)
played_placed w [] h = h
played_placed w (label ∷ labels) h = played_placed (after w label) labels (stays_placed w label h)
