-- Numbers of objects: they are in range in the state that an image begins with, and each label of a world keeps them so.
use Rattle.std.specs.Prelude.{◌≡◌, ℕ, ◌+◌, Bool, true, false, if◌then◌else◌, List, [], ◌∷◌, length, sum_by, Option, Some, None, option_map}
use Rattle.std.proofs.Common.{refl, arith}
use Rattle.std.proofs.lemmas.List.{length-append}
use Rattle.std.proofs.lemmas.List.Sums.{sum_by-cons}
use Rattle.std.proofs.lemmas.Option.{slice_get_past}
use Rattle.sls_base.specs.declared.fixed.TheConstants.{FIRST_PROGRAM_OBJECT, FIRST_PROGRAM_PAGE}
use Rattle.sls_base.specs.declared.image.Image.{Image}
use Rattle.sls_base.specs.declared.image.Program.{Program}
use Rattle.plain_state.specs.declared.label.Label.{Label}
use Rattle.plain_state.specs.declared.label.Label.TheVariants.{Tick, Commit, Cut, Accept, Input}
use Rattle.plain_model.specs.Objects.{Object}
use Rattle.plain_model.specs.States.{State, thread_at}
use Rattle.plain_model.specs.Worlds.{World}
use Rattle.plain_model.specs.Ticks.{Chosen, chosen, ticked, world_of_effect, effect_for}
use Rattle.plain_model.specs.Sweep.{is_reached, swept, settled}
use Rattle.plain_model.specs.Play.{after, play, accept, is_offered, has_input_room, input}
use Rattle.plain_model.specs.Initial.{IsAccepted, program_objects, programs_objects, program_size, program_pages, image_objects, initial, first_world}
use Rattle.plain_laws.specs.Plays.{Both}
use Rattle.plain_laws.specs.Laws.{AreInRange}
use Rattle.plain_laws.specs.Places.{IsPlaced}
use Rattle.plain_model.proofs.SlowInitial.{objects_count}
use Rattle.plain_laws.proofs.PlacedTicks.{taken}
use Rattle.plain_laws.proofs.PlacedLabels.{BothPlaced, stays_placed}
use Rattle.plain_laws.proofs.PlacedImages.{first_placed}
use Rattle.plain_laws.proofs.InRange.{stands_below, acts_below}
use Rattle.plain_laws.proofs.InRangeCalls.{instruction_changes}

-- Labels.

-- the numbers of both states of a world are in range
abbrev pub BothInRange : World → Type 0
BothInRange w = AreInRange w.now × AreInRange w.saved

pub effect_below : (w : World) (core : ℕ) (c : Chosen) → chosen w.now core ≡ Some c → IsPlaced w.now → AreInRange w.now → AreInRange (world_of_effect w core c (effect_for w c)).now
effect_below w core c e placed h =
    let t = taken w.now core c e placed in
    acts_below w.now core c (effect_for w c) (stands_below w.now c.occupant.thread t.place placed h t.stood)
    (instruction_changes w c.occupant.thread (thread_at w.now c.occupant.thread) placed h) h

pub ticked_below : (w : World) (core : ℕ) (c : Option Chosen) → chosen w.now core ≡ c → IsPlaced w.now → BothInRange w → BothInRange (ticked w core c)
ticked_below w core None e placed h = h
ticked_below w core (Some c) e placed h = (effect_below w core c e placed h.0, h.1)

pub swept_none : (s : State) (o : Option Object) (b : Bool) → o ≡ None → (if b then option_map (settled s) o else None) ≡ None
swept_none s o true e = rw e refl
swept_none s o false e = refl

pub swept_below : (s : State) → AreInRange s → AreInRange (swept s)
swept_below s h i past = swept_none s (s.objects i) (is_reached s i) (h i past)

pub accepted_below : (w : World) (channel : ℕ) (b : Bool) → is_offered w channel ≡ b → BothInRange w → BothInRange (accept w channel)
accepted_below w channel true e h = rw e h
accepted_below w channel false e h = rw e h

pub input_below : (w : World) (bytes : List ℕ) (b : Bool) → has_input_room w ≡ b → BothInRange w → BothInRange (input w bytes)
input_below w bytes true e h = rw e h
input_below w bytes false e h = rw e h

pub stays_below : (w : World) (label : Label) → IsPlaced w.now → BothInRange w → BothInRange (after w label)
stays_below w (Tick core) placed h = ticked_below w core (chosen w.now core) refl placed h
stays_below w Commit placed h = (let p = swept_below w.now h.0 in (p, p))
stays_below w Cut placed h = (h.1, h.1)
stays_below w (Accept channel) placed h = accepted_below w channel (is_offered w channel) refl h
stays_below w (Input bytes) placed h = input_below w bytes.items (has_input_room w) refl h

pub played_below : (w : World) (labels : List Label) → BothPlaced w → BothInRange w → BothInRange (play w labels)
played_below w [] placed h = h
played_below w (label ∷ labels) placed h = played_below (after w label) labels (stays_placed w label placed) (stays_below w label placed.0 h)

-- Images.

pub programs_count : (ps : List Program) (n k : ℕ) → length (programs_objects ps n k) ≡ sum_by program_size ps
programs_count [] n k = refl
programs_count (p ∷ ps) n k =
    let a = length-append (program_objects p n k) (programs_objects ps (n + program_size p) (k + program_pages p)) in
    let b = objects_count p n k in
    let d = programs_count ps (n + program_size p) (k + program_pages p) in
    let f = sum_by-cons program_size p ps in
    omega arith

pub image_count : (ps : List Program) → length (image_objects ps) ≡ FIRST_PROGRAM_OBJECT + sum_by program_size ps
unfolding image_objects
image_count ps = (let a = programs_count ps FIRST_PROGRAM_OBJECT FIRST_PROGRAM_PAGE in omega arith)

pub first_below : (image : Image) (cores : ℕ) → IsAccepted image → AreInRange (initial image cores)
first_below image cores accepted i past =
    let a = image_count image.programs.items in
    let b = accepted.objects in
    slice_get_past (image_objects image.programs.items) i (omega arith)

pub always_below : (image : Image) (cores : ℕ) (labels : List Label) → IsAccepted image → Both AreInRange (play (first_world image cores) labels)
always_below image cores labels accepted =
    let placed = first_placed image cores in
    let first = first_below image cores accepted in
    played_below (first_world image cores) labels (placed, placed) (first, first)
