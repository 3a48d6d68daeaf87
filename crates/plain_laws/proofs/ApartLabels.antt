-- Pages of objects: each label of a world keeps them apart.
use Rattle.std.specs.Prelude.{◌≡◌, ◌≢◌, ℕ, Bool, true, false, if◌then◌else◌, List, [], ◌∷◌, AllPairs, Contains, Option, Some, None, option_map}
use Rattle.std.proofs.Common.{refl, ap, sym, subst, inl, inr}
use Rattle.plain_state.specs.declared.label.Label.{Label}
use Rattle.plain_state.specs.declared.label.Label.TheVariants.{Tick, Commit, Cut, Accept, Input}
use Rattle.plain_model.specs.Objects.{Object, Thread, Memory, OutputRing, page_numbers}
use Rattle.plain_model.specs.States.{State, thread_at}
use Rattle.plain_model.specs.Memory.{with_stores}
use Rattle.plain_model.specs.Worlds.{World}
use Rattle.plain_model.specs.Ticks.{Chosen, chosen, ticked, world_of_effect, effect_for, state_of_effect, with_changes}
use Rattle.plain_model.specs.Sweep.{is_reached, swept, settled}
use Rattle.plain_model.specs.Play.{after, play, state_after_cut, accept, is_offered, has_input_room, input, with_input}
use Rattle.plain_laws.specs.Laws.{AreInRange}
use Rattle.plain_laws.specs.Sound.{AreApart}
use Rattle.plain_laws.proofs.Apart.{AreGood, good_apart, HasSameOrNone, good_from, have_bare}
use Rattle.plain_laws.proofs.ApartCalls.{keeps_instruction}

-- Ticks.

pub effect_good : (w : World) (core : ℕ) (c : Chosen) → AreGood w.now.objects → AreGood (world_of_effect w core c (effect_for w c)).now.objects
unfolding state_of_effect
effect_good w core c good =
    let e = effect_for w c in
    let objects = with_changes (with_stores w.now.objects e.stores) e.changes in
    good_from objects (world_of_effect w core c e).now.objects (have_bare objects c.occupant.thread (Thread _) refl)
    (keeps_instruction w c.occupant.thread (thread_at w.now c.occupant.thread) good)

-- The sweep.

pub settled_pages : (s : State) (o : Option Object) → page_numbers (option_map (settled s) o) ≡ page_numbers o
settled_pages s None = refl
settled_pages s (Some (Memory pages)) = refl
settled_pages s (Some (OutputRing channel)) = refl
settled_pages s o = refl

pub swept_pages : (s : State) (o : Option Object) (b : Bool) → HasSameOrNone o (if b then option_map (settled s) o else None)
swept_pages s o true = inl (settled_pages s o)
swept_pages s o false = inr refl

pub swept_good : (s : State) → AreGood s.objects → AreGood (swept s).objects
swept_good s good = good_from s.objects (swept s).objects (λ i. swept_pages s (s.objects i) (is_reached s i)) good

-- Labels, for what is so of states whose pages are apart and goes by the objects alone.

abbrev pub Both : (State → Type 0) → World → Type 0
Both P w = P w.now × P w.saved

pub record GoesByObjects (P : State → Type 0) : Type 1 where
  pub good : (s : State) → AreGood s.objects → P s
  pub alike : (s t : State) → s.objects ≡ t.objects → P s → P t

pub ticked_keeps : (P : State → Type 0) → GoesByObjects P → (w : World) (core : ℕ) (c : Option Chosen) → AreGood w.now.objects → P w.saved → Both P (ticked w core c)
ticked_keeps P by w core None good saved = (by.good w.now good, saved)
ticked_keeps P by w core (Some c) good saved = (by.good (world_of_effect w core c (effect_for w c)).now (effect_good w core c good), saved)

pub accepted_keeps : (P : State → Type 0) (w : World) (channel : ℕ) (b : Bool) → is_offered w channel ≡ b → Both P w → Both P (accept w channel)
accepted_keeps P w channel true e h = rw e h
accepted_keeps P w channel false e h = rw e h

pub input_keeps : (P : State → Type 0) → GoesByObjects P → (w : World) (bytes : List ℕ) (b : Bool) → has_input_room w ≡ b → Both P w → Both P (input w bytes)
input_keeps P by w bytes true e h = rw e (by.alike w.now (with_input w.now bytes) refl h.0, h.1)
input_keeps P by w bytes false e h = rw e h

pub after_keeps : (P : State → Type 0) → GoesByObjects P → (w : World) (label : Label) → AreGood w.now.objects → P w.saved → Both P (after w label)
after_keeps P by w (Tick core) good saved = ticked_keeps P by w core (chosen w.now core) good saved
after_keeps P by w Commit good saved = (let p = by.good (swept w.now) (swept_good w.now good) in (p, p))
after_keeps P by w Cut good saved = (by.alike w.saved (state_after_cut w) refl saved, saved)
after_keeps P by w (Accept channel) good saved = accepted_keeps P w channel (is_offered w channel) refl (by.good w.now good, saved)
after_keeps P by w (Input bytes) good saved = input_keeps P by w bytes.items (has_input_room w) refl (by.good w.now good, saved)

-- Pages apart, where all numbers are in range.

pub apart_alike : (s t : State) → s.objects ≡ t.objects → AreApart s → AreApart t
apart_alike s t e h =
    let in_s : (i page : ℕ) → Contains (page_numbers (t.objects i)) page → Contains (page_numbers (s.objects i)) page =
    λ i page. subst (λ (objects : ℕ → Option Object). Contains (page_numbers (objects i)) page) (sym e) in
    record {
      in_range = λ i page c. h.in_range i page (in_s i page c);
      once = λ i. subst (λ (objects : ℕ → Option Object). AllPairs (λ p q. p ≢ q) (page_numbers (objects i))) e (h.once i);
      apart = λ i j page c d. h.apart i j page (in_s i page c) (in_s j page d);
    }

pub apart_good : (s : State) → AreInRange s → AreApart s → AreGood s.objects
apart_good s range h = record { in_range = h.in_range; once = h.once; apart = h.apart; numbers = λ i out. ap page_numbers (range i out) }

pub stays_apart : (w : World) (label : Label) → AreInRange w.now → AreApart w.now → AreApart w.saved → AreApart (after w label).now × AreApart (after w label).saved
stays_apart w label range now saved = after_keeps AreApart (record { good = good_apart; alike = apart_alike }) w label (apart_good w.now range now) saved

-- Plays, which need nothing of the numbers but that no page is of one out of range.

abbrev pub IsGood : State → Type 0
IsGood s = AreGood s.objects

pub good_alike : (s t : State) → s.objects ≡ t.objects → IsGood s → IsGood t
good_alike s t e h = subst AreGood e h

pub stays_good : (w : World) (label : Label) → Both IsGood w → Both IsGood (after w label)
stays_good w label h = after_keeps IsGood (record { good = λ s good. good; alike = good_alike }) w label h.0 h.1

pub played_good : (w : World) (labels : List Label) → Both IsGood w → Both IsGood (play w labels)
played_good w [] h = h
played_good w (label ∷ labels) h = played_good (after w label) labels (stays_good w label h)
