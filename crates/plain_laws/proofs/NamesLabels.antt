-- What objects name is there: each label of a world keeps that.
use Rattle.std.specs.Prelude.{◌≡◌, ℕ, ◌-◌, ◌==◌, Bool, true, false, List, [], ◌∷◌, All, Option, Some, None, option_map}
use Rattle.std.specs.List.{list_any}
use Rattle.std.proofs.Common.{refl, ap, sym, arith, inl, inr}
use Rattle.std.proofs.lemmas.Bool.{cases_lt, eq-eqb, or_left, or_right}
use Rattle.std.proofs.lemmas.List.Elements.{All-nil, All-cons, All-head, All-tail}
use Rattle.sls_base.specs.declared.limits.TheConstants.{OBJECTS}
use Rattle.plain_state.specs.declared.objects.Capability.{Capability}
use Rattle.plain_state.specs.declared.objects.Region.{Region}
use Rattle.plain_state.specs.declared.label.Label.{Label}
use Rattle.plain_state.specs.declared.label.Label.TheVariants.{Tick, Commit, Cut, Accept, Input}
use Rattle.plain_model.specs.Objects.{Object, Group, Thread, Space, Connection, Notification, is_thread}
use Rattle.plain_model.specs.States.{State, thread_at}
use Rattle.plain_model.specs.Worlds.{World}
use Rattle.plain_model.specs.Ticks.{Chosen, chosen, ticked, world_of_effect, effect_for, state_of_effect, at_slice_end}
use Rattle.plain_model.specs.Sweep.{is_to, leads_to, is_reached, swept, settled}
use Rattle.plain_model.specs.Play.{after, play, state_after_cut, accept, is_offered, has_input_room, input, with_input}
use Rattle.plain_laws.specs.Places.{IsPlaced}
use Rattle.plain_laws.specs.Laws.{AreInRange}
use Rattle.plain_laws.specs.Sound.{NamesObject, NamesPages, NamesWhatIs, NameWhatIs}
use Rattle.plain_laws.proofs.Reaches.{reached_least}
use Rattle.plain_laws.proofs.PlacedTicks.{taken}
use Rattle.plain_laws.proofs.PlacedLabels.{stays_placed}
use Rattle.plain_laws.proofs.Names.{Lasts, lasts_itself, lasts_alike, follows_from, sound_tick}
use Rattle.plain_laws.proofs.NamesCalls.{stands_is_thread, sound_instruction}

-- The sweep: what an object that is reached leads to is reached, and so stays there.

pub settled_lasts : (s : State) (o : Option Object) → Lasts o (option_map (settled s) o)
settled_lasts s (Some (Thread thread)) = lasts_alike (Some (Thread thread)) (settled s (Thread thread)) refl refl refl refl refl (omega arith)
settled_lasts s (Some (Connection server client clients)) = lasts_alike (Some (Connection server client clients)) (settled s (Connection server client clients)) refl refl refl refl refl (omega arith)
settled_lasts s (Some (Notification count waiters)) = lasts_alike (Some (Notification count waiters)) (settled s (Notification count waiters)) refl refl refl refl refl (omega arith)
settled_lasts s o = lasts_itself o

pub reached_lasts : (s : State) (i : ℕ) → is_reached s i ≡ true → Lasts (s.objects i) ((swept s).objects i)
reached_lasts s i e = rw e (settled_lasts s (s.objects i))

pub swept_slot : (s : State) (slot : Option Capability) → ((j : ℕ) → is_to j slot ≡ true → is_reached s j ≡ true) → NamesObject s slot → NamesObject (swept s) slot
swept_slot s None r h = tt
swept_slot s (Some cap) r h = (reached_lasts s cap.object (r cap.object (eq-eqb cap.object cap.object refl))).there h

pub swept_slots : (s : State) (slots : List (Option Capability)) → ((j : ℕ) → list_any (is_to j) slots ≡ true → is_reached s j ≡ true) → All (NamesObject s) slots → All (NamesObject (swept s)) slots
swept_slots s [] r h = All-nil (NamesObject (swept s))
swept_slots s (slot ∷ slots) r h =
    All-cons (NamesObject (swept s)) slot slots
    (swept_slot s slot (λ j e. r j (or_left (is_to j slot) (list_any (is_to j) slots) e)) (All-head (NamesObject s) slot slots h))
    (swept_slots s slots (λ j e. r j (or_right (is_to j slot) (list_any (is_to j) slots) e)) (All-tail (NamesObject s) slot slots h))

-- a region is over a memory object
abbrev pub is_over : ℕ → Region → Bool
is_over j region = region.memory == j

pub swept_region : (s : State) (region : Region) → is_reached s region.memory ≡ true → NamesPages s region → NamesPages (swept s) region
swept_region s region e h =
    let l = reached_lasts s region.memory e in
    (l.memory h.0, (let a = h.1 in let b = l.pages in omega arith))

pub swept_regions : (s : State) (regions : List Region) → ((j : ℕ) → list_any (is_over j) regions ≡ true → is_reached s j ≡ true) → All (NamesPages s) regions → All (NamesPages (swept s)) regions
swept_regions s [] r h = All-nil (NamesPages (swept s))
swept_regions s (region ∷ regions) r h =
    let m = region.memory in
    All-cons (NamesPages (swept s)) region regions
    (swept_region s region (r m (or_left (is_over m region) (list_any (is_over m) regions) (eq-eqb m m refl))) (All-head (NamesPages s) region regions h))
    (swept_regions s regions (λ j e. r j (or_right (is_over j region) (list_any (is_over j) regions) e)) (All-tail (NamesPages s) region regions h))

pub settled_names : (s : State) (o : Option Object) → ((j : ℕ) → leads_to o j ≡ true → is_reached s j ≡ true) → NamesWhatIs s o → NamesWhatIs (swept s) (option_map (settled s) o)
settled_names s (Some (Group slots)) r h = swept_slots s slots r h
settled_names s (Some (Thread thread)) r h =
    let g = thread.group in
    let p = thread.space in (
      (reached_lasts s g (r g (or_left (g == g) (p == g) (eq-eqb g g refl)))).group h.0,
      (reached_lasts s p (r p (or_right (g == p) (p == p) (eq-eqb p p refl)))).space h.1,
    )
settled_names s (Some (Space regions)) r h = swept_regions s regions r h
settled_names s (Some (Connection server client clients)) r h = (reached_lasts s server (r server (eq-eqb server server refl))).thread h
settled_names s o r h = tt

pub leads_reached : (s : State) (i : ℕ) → is_reached s i ≡ true → AreInRange s → (j : ℕ) → leads_to (s.objects i) j ≡ true → is_reached s j ≡ true
leads_reached s i e range j led = elim (cases_lt i OBJECTS) [
  | inl l ↦ (reached_least s).closed i j l e led
  | inr l ↦ (let f : false ≡ true = rw (range i l) at led in absurd (cc))
]

pub swept_at : (s : State) (i : ℕ) (b : Bool) → is_reached s i ≡ b → AreInRange s → NameWhatIs s → NamesWhatIs (swept s) ((swept s).objects i)
swept_at s i true e range h = rw e (settled_names s (s.objects i) (leads_reached s i e range) (h i))
swept_at s i false e range h = rw e tt

pub swept_names : (s : State) → AreInRange s → NameWhatIs s → NameWhatIs (swept s)
swept_names s range h i = swept_at s i (is_reached s i) refl range h

-- Labels.

-- both states of a world
abbrev pub BothName : World → Type 0
BothName w = NameWhatIs w.now × NameWhatIs w.saved

-- the names go by the objects alone
pub names_alike : (s t : State) → s.objects ≡ t.objects → NameWhatIs s → NameWhatIs t
names_alike s t e h = (follows_from s t
    (λ i. rw (ap (λ (objects : ℕ → Option Object). objects i) (sym e)) (lasts_itself (s.objects i)))
    (λ i. rw (ap (λ (objects : ℕ → Option Object). objects i) (sym e)) (h i))).names

pub effect_names : (w : World) (core : ℕ) (c : Chosen) → chosen w.now core ≡ Some c → IsPlaced w.now → NameWhatIs w.now → NameWhatIs (world_of_effect w core c (effect_for w c)).now
unfolding state_of_effect
effect_names w core c e p h =
    let t = taken w.now core c e p in
    let me = c.occupant.thread in
    let is : is_thread (w.now.objects me) ≡ true = stands_is_thread w.now me t.place t.stood p in
    let done = effect_for w c in
    sound_tick w.now core c (at_slice_end (c.occupant.slice - 1) done.goes) done is h (sound_instruction w me (thread_at w.now me) is p h)

pub ticked_names : (w : World) (core : ℕ) (c : Option Chosen) → chosen w.now core ≡ c → IsPlaced w.now → BothName w → BothName (ticked w core c)
ticked_names w core None e p h = h
ticked_names w core (Some c) e p h = (effect_names w core c e p h.0, h.1)

pub accepted_names : (w : World) (channel : ℕ) (b : Bool) → is_offered w channel ≡ b → BothName w → BothName (accept w channel)
accepted_names w channel true e h = rw e h
accepted_names w channel false e h = rw e h

pub input_names : (w : World) (bytes : List ℕ) (b : Bool) → has_input_room w ≡ b → BothName w → BothName (input w bytes)
input_names w bytes true e h = rw e (names_alike w.now (with_input w.now bytes) refl h.0, h.1)
input_names w bytes false e h = rw e h

pub stays_named : (w : World) (label : Label) → IsPlaced w.now → AreInRange w.now → BothName w → BothName (after w label)
stays_named w (Tick core) p range h = ticked_names w core (chosen w.now core) refl p h
stays_named w Commit p range h = (let n = swept_names w.now range h.0 in (n, n))
stays_named w Cut p range h = (names_alike w.saved (state_after_cut w) refl h.1, h.1)
stays_named w (Accept channel) p range h = accepted_names w channel (is_offered w channel) refl h
stays_named w (Input bytes) p range h = input_names w bytes.items (has_input_room w) refl h

-- The play of labels, where numbers stay in range all along.

pub played_names : (w : World) (labels : List Label) → IsPlaced w.now × IsPlaced w.saved → ((some : List Label) → AreInRange (play w some).now) → BothName w → BothName (play w labels)
played_names w [] p range h = h
played_names w (label ∷ labels) p range h =
    played_names (after w label) labels (stays_placed w label p) (λ some. range (label ∷ some)) (stays_named w label p.0 (range []) h)
