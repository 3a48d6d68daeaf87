-- The objects that are always there: they are in the state that an image begins with, and each label of a world keeps them.
use Rattle.std.specs.Prelude.{◌≡◌, ℕ, zero, suc, ◌+◌, ◌<◌, ◌≤◌, false, List, All, Option, Some, slice_get}
use Rattle.std.proofs.Common.{refl, ap, arith}
use Rattle.sls_base.specs.declared.limits.TheConstants.{OUTPUT_CHANNELS}
use Rattle.sls_base.specs.declared.fixed.TheConstants.{FIRST_OUTPUT_RING, FIRST_PROGRAM_OBJECT, FIRST_PROGRAM_PAGE}
use Rattle.sls_base.specs.declared.image.Image.{Image}
use Rattle.sls_base.specs.declared.image.Program.{Program}
use Rattle.plain_state.specs.declared.label.Label.{Label}
use Rattle.plain_model.specs.Objects.{Object, OutputRing, page_numbers}
use Rattle.plain_model.specs.States.{thread_at}
use Rattle.plain_model.specs.Worlds.{World}
use Rattle.plain_model.specs.Ticks.{Chosen, chosen, effect_for, state_of_effect}
use Rattle.plain_model.specs.Play.{after, play, state_after_cut, with_input}
use Rattle.plain_model.specs.Initial.{programs_objects, image_objects, initial, first_world}
use Rattle.plain_laws.specs.Plays.{Both}
use Rattle.plain_laws.specs.Places.{IsPlaced}
use Rattle.plain_laws.specs.Fixed.{is_single, HasFixedObjects}
use Rattle.plain_laws.proofs.PlacedTicks.{taken}
use Rattle.plain_laws.proofs.PlacedLabels.{stays_placed}
use Rattle.plain_laws.proofs.PlacedImages.{first_placed}
use Rattle.plain_laws.proofs.Walk.{played}
use Rattle.plain_laws.proofs.WalkStates.{AnyLabel, both_after, of_effect}
use Rattle.plain_laws.proofs.Images.{of_programs, at_number}
use Rattle.plain_laws.proofs.FixedObjects.{Stays, stays_itself, stays_on, stays_thread, stays_stored, fixed_where_all_stay, swept_fixed}
use Rattle.plain_laws.proofs.FixedCalls.{instruction_stays}

-- Labels.

tick_fixed : (w : World) (core : ℕ) (c : Chosen) → chosen w.now core ≡ Some c → IsPlaced w.now → HasFixedObjects w.now → HasFixedObjects (state_of_effect w.now core c (effect_for w c))
tick_fixed w core c e placed h =
    let s = w.now in
    let me = c.occupant.thread in
    let t = taken s core c e placed in
    fixed_where_all_stay s (state_of_effect s core c (effect_for w c))
    (of_effect (λ i o. Stays (s.objects i) o) s core c (effect_for w c)
    (λ k d l i o stays. stays_on (s.objects i) o _ stays (stays_stored o _ _))
    (instruction_stays w me (thread_at s me) placed)
    (stays_thread (s.objects me) _ t.place (placed.does t.place me t.stood))
    (λ i. stays_itself (s.objects i)))
    h

pub stays_fixed : (w : World) (label : Label) → IsPlaced w.now → Both HasFixedObjects w → Both HasFixedObjects (after w label)
stays_fixed w label placed h = both_after HasFixedObjects AnyLabel w (record {
  ticks = λ core c passes e. tick_fixed w core c e placed h.0;
  sweeps = swept_fixed w.now h.0;
  cuts = fixed_where_all_stay w.saved (state_after_cut w) (λ i. stays_itself (w.saved.objects i)) h.1;
  inputs = λ bytes passes room. fixed_where_all_stay w.now (with_input w.now bytes.items) (λ i. stays_itself (w.now.objects i)) h.0;
}) h label tt

-- Images.

-- neither a ring nor a scheduler
abbrev IsOther : Option Object → Type 0
IsOther o = is_single o ≡ false

programs_other : (ps : List Program) (n k : ℕ) → All (λ object. IsOther (Some object)) (programs_objects ps n k)
programs_other ps n k = of_programs (λ object. IsOther (Some object)) ps n k (λ i p l. record {
  group = λ slots. refl;
  space = λ regions. refl;
  memories = λ j spec m number. refl;
  threads = λ number j m. refl;
})

image_above : (ps : List Program) (i : ℕ) → FIRST_PROGRAM_OBJECT ≤ i → is_single (slice_get (image_objects ps) i) ≡ false
unfolding image_objects
image_above ps (suc (suc (suc (suc (suc (suc (suc i))))))) l =
    let os = programs_objects ps FIRST_PROGRAM_OBJECT FIRST_PROGRAM_PAGE in
    at_number IsOther os i (slice_get os i) refl (programs_other ps FIRST_PROGRAM_OBJECT FIRST_PROGRAM_PAGE) refl
image_above ps i l = absurd (omega arith)

image_output : (ps : List Program) (channel : ℕ) → channel < OUTPUT_CHANNELS → slice_get (image_objects ps) (FIRST_OUTPUT_RING + channel) ≡ Some (OutputRing channel)
unfolding image_objects
image_output ps zero l = refl
image_output ps (suc zero) l = refl
image_output ps (suc (suc zero)) l = refl
image_output ps (suc (suc (suc zero))) l = refl
image_output ps (suc (suc (suc (suc channel)))) l = absurd (omega arith)

pub first_fixed : (image : Image) (cores : ℕ) → HasFixedObjects (initial image cores)
unfolding image_objects
first_fixed image cores =
    let ps = image.programs.items in record {
      root = refl;
      scheduler = refl;
      outputs = image_output ps;
      pages = λ channel l. ap page_numbers (image_output ps channel l);
      input = refl;
      above = image_above ps;
    }

-- Plays.

-- both states of a world are placed and have the objects that are always there
abbrev IsPlacedAndFixed : World → Type 0
IsPlacedAndFixed w = Both IsPlaced w × Both HasFixedObjects w

pub always_fixed : (image : Image) (cores : ℕ) (labels : List Label) → Both HasFixedObjects (play (first_world image cores) labels)
always_fixed image cores labels =
    let placed = first_placed image cores in
    let fixed = first_fixed image cores in
    (played IsPlacedAndFixed (λ w label h. (stays_placed w label h.0, stays_fixed w label h.0.0 h.1)) (first_world image cores) labels ((placed, placed), (fixed, fixed))).1
