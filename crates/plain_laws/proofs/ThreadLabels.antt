-- Threads in range: they are so in the state that an image begins with, and each label of a world keeps them so.
use Rattle.std.specs.Prelude.{ℕ, ◌^◌, ◌<◌, Bool, true, false, if◌then◌else◌, List, All, Option, Some, None, option_map}
use Rattle.std.proofs.Common.{refl, subst, arith}
use Rattle.std.proofs.lemmas.List.Elements.{All-weaker}
use Rattle.sls_base.specs.declared.causes.TheConstants.{LOST_OBJECT}
use Rattle.sls_base.specs.declared.image.Image.{Image}
use Rattle.sls_base.specs.declared.image.Program.{Program}
use Rattle.sls_base.specs.declared.thread.ThreadState.{ThreadState}
use Rattle.sls_base.specs.declared.thread.ThreadState.TheVariants.{Stopped}
use Rattle.plain_state.specs.declared.label.Label.{Label}
use Rattle.plain_model.specs.Objects.{Object, Thread}
use Rattle.plain_model.specs.States.{State, thread_at, zero_registers}
use Rattle.plain_model.specs.Worlds.{World}
use Rattle.plain_model.specs.Sweep.{is_reached, is_lost, waits_for, settled, swept}
use Rattle.plain_model.specs.Play.{after, play, state_after_cut, with_input}
use Rattle.plain_model.specs.Initial.{IsAccepted, IsProgram, IsRegion, program_thread, initial, first_world}
use Rattle.plain_model.specs.MayStep.{MayStep, MayPlay}
use Rattle.plain_laws.specs.Plays.{Both}
use Rattle.plain_laws.specs.Sound.{HaveForms}
use Rattle.plain_laws.specs.Bounds.{IsOfBytes, HasBytes, IsStateOf, HasThreads, HasEntries, HasPages}
use Rattle.plain_laws.proofs.BytePlays.{byte_played, IsOfBytesNow, first_of_bytes, stays_of_bytes}
use Rattle.plain_laws.proofs.Cores.{sweep_keeps_cores}
use Rattle.plain_laws.proofs.Images.{OfProgram, of_image}
use Rattle.plain_laws.proofs.ThreadEffects.{in_form, in_range, OfThread, of_threads, has_threads, read_in_form, effect_threads}
use Rattle.plain_laws.proofs.ThreadInstructions.{KnowsTable, instruction_fits}
use Rattle.plain_laws.proofs.ThreadRegisters.{answered_registers, zeros_are_registers}
use Rattle.plain_laws.proofs.WalkStates.{both_after}

-- The sweep, by which a thread may stop.

stopped_if : (s : State) (state : ThreadState) (b : Bool) → IsStateOf s state → IsStateOf s (if b then Stopped LOST_OBJECT else state)
stopped_if s state true h = omega arith
stopped_if s state false h = h

settled_thread : (s : State) (i : ℕ) (o : Option Object) → OfThread s i o → OfThread s i (option_map (settled s) o)
settled_thread s i None h = tt
settled_thread s i (Some (Thread thread)) h = in_range s _ (in_form s thread h) (stopped_if s thread.state (is_lost s (waits_for thread.state)) h.state)
settled_thread s i (Some o) h = h

swept_thread_if : (s : State) (i : ℕ) (b : Bool) → OfThread s i (s.objects i) → OfThread s i (if b then option_map (settled s) (s.objects i) else None)
swept_thread_if s i true h = settled_thread s i (s.objects i) h
swept_thread_if s i false h = tt

swept_threads : (s : State) → HasThreads s → HasThreads (swept s)
swept_threads s h = has_threads s (swept s) (sweep_keeps_cores s) (λ i. swept_thread_if s i (is_reached s i) (of_threads s h i))

-- Labels.

pub stays_with_threads : KnowsTable → (w : World) (label : Label) → MayStep w label → HaveForms w.now → HasPages w.now → HasEntries w.now → Both HasThreads w → Both HasThreads (after w label)
stays_with_threads table w label may forms pages entries h = both_after HasThreads (MayStep w) w (record {
  ticks = λ core c passes e.
      let all = read_in_form w.now h.0 in
      let me = c.occupant.thread in
      effect_threads w.now core c _ passes (instruction_fits table w me (thread_at w.now me) all (all me) forms pages entries) h.0;
  sweeps = swept_threads w.now h.0;
  cuts = has_threads w.saved (state_after_cut w) refl (of_threads w.saved h.1);
  inputs = λ bytes passes room. has_threads w.now (with_input w.now bytes.items) refl (of_threads w.now h.0);
}) h label may

-- Images.

-- a program begins within one of its regions
entry_word : (p : Program) → IsProgram p → p.entry < 2 ^ 32
entry_word p h =
    let entered = h.entered in
    let region : IsRegion entered.1 = subst IsRegion entered.3 (h.each_region entered.0 entered.1 entered.2) in
    let end = region.end in
    let below = entered.4.below in
    omega arith

begins_in_range : (s : State) (p : Program) (n j : ℕ) → IsProgram p → j < p.threads → OfThread s 0 (Some (program_thread p n j))
begins_in_range s p n j h l =
    let few = h.threads in
    in_range s _ (record { pc = entry_word p h; aligned = h.entry; registers = answered_registers zero_registers j (omega arith) zeros_are_registers }) tt

pub first_threads : (image : Image) (cores : ℕ) → IsAccepted image → HasThreads (initial image cores)
first_threads image cores accepted =
    let s = initial image cores in
    has_threads s s refl (of_image (OfThread s 0) image.programs.items (record {
      nothing = tt;
      root = tt;
      scheduler = tt;
      outputs = λ channel. tt;
      input = tt;
      programs = All-weaker IsProgram (OfProgram (λ o. OfThread s 0 (Some o))) (λ p h. record {
        group = λ slots. tt;
        space = λ regions. tt;
        memories = λ k spec l number. tt;
        threads = λ n j l. begins_in_range s p n j h l;
      }) image.programs.items accepted.each_program;
    }))

-- Plays.

-- threads are in range, and all is of bytes
abbrev IsInRangeNow : World → Type 0
IsInRangeNow w = IsOfBytesNow w × Both HasThreads w

pub always_with_threads : KnowsTable → (image : Image) (cores : ℕ) (labels : List Label) → IsAccepted image → IsOfBytes image → MayPlay (first_world image cores) labels → All HasBytes labels
    → Both HasThreads (play (first_world image cores) labels)
always_with_threads table image cores labels accepted bytes may inputs =
    let first = first_threads image cores accepted in
    (byte_played IsInRangeNow
    (λ w label may bytes h. (stays_of_bytes w label may bytes h.0, stays_with_threads table w label may h.0.forms.0 h.0.pages.0 h.0.entries.0 h.1))
    (first_world image cores) labels may inputs (first_of_bytes image cores accepted bytes, (first, first))).1
