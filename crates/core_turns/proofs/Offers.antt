-- What devices do while cores run.
use Rattle.std.specs.Prelude.{◌≡◌, ◌≢◌, ℕ, ◌+◌, ◌<◌, ◌≤◌, Bool, true, false, if◌then◌else◌, List, length, slice_index, Result, Ok, Err, OnErr, OnOk}
use Rattle.std.proofs.Common.{ap, sym, subst, ◌∙◌, arith}
use Rattle.std.proofs.lemmas.Bool.Decides.{nat_tests}
use Rattle.std.proofs.lemmas.List.{length-append}
use Rattle.sls_base.specs.declared.limits.TheConstants.{OUTPUT_CHANNELS, WAITING_INPUTS}
use Rattle.pmem_model.specs.Memory.{Memory}
use Rattle.plain_model.specs.Play.{has_input_room, input, with_input, is_offered, next_bytes}
use Rattle.plain_state.specs.States.{State}
use Rattle.plain_state.specs.Objects.{page_of_channel}
use Rattle.plain_state.specs.Worlds.{World, accepted_count}
use Rattle.plain_laws.specs.Laws.{IsFirstPart}
use Rattle.kobj_table.specs.Objects.{Rest, state_of}
use Rattle.object_records.specs.Ranges.{HasFixedSlots}
use Rattle.out_gate.specs.Entries.{EntriesStand, EntryStands, HasEntry}
use Rattle.kernel_calls.specs.declared.calls.Calls.{Calls}
use Rattle.kernel_calls.specs.declared.runtime.Runtime.{Runtime}
use Rattle.kernel_calls.specs.Kernel.{Holds}
use Rattle.core_turns.specs.declared.running.Running.{Running}
use Rattle.core_turns.specs.Runs.{Runs, AreFreshAlike, AreAsSaved, AreWaitingThere}

-- What the running state has of devices.

out_is : (k : Calls) (accepted : List ℕ) (m : Memory) (rest : Rest) (w : World) → Holds k accepted m rest w
    → w.now.out ≡ rest.out
unfolding state_of
out_is k accepted m rest w h = ap (λ (s : State). s.out) h.now

inputs_are : (k : Calls) (accepted : List ℕ) (m : Memory) (rest : Rest) (w : World) → Holds k accepted m rest w
    → w.now.inputs ≡ k.inputs
unfolding state_of
inputs_are k accepted m rest w h = ap (λ (s : State). s.inputs) h.now ∙ sym h.inputs

-- Inputs.

pub no_room : (k : Calls) (accepted : List ℕ) (m : Memory) (rest : Rest) (w : World) → Holds k accepted m rest w
    → length k.inputs ≡ WAITING_INPUTS → has_input_room w ≡ false
no_room k accepted m rest w h full =
    let same = ap length (inputs_are k accepted m rest w h) in
    let most : WAITING_INPUTS ≤ length w.now.inputs = omega (arith, same, full) in
    grind (arith, nat_tests)

pub is_full : (k : Calls) (accepted : List ℕ) (m : Memory) (rest : Rest) (w : World) → Holds k accepted m rest w
    → has_input_room w ≡ false → length k.inputs ≡ WAITING_INPUTS
is_full k accepted m rest w h none =
    let same = ap length (inputs_are k accepted m rest w h) in
    let most : length w.now.inputs ≤ WAITING_INPUTS = h.sound.entries.0.waiting in
    let least : WAITING_INPUTS ≤ length w.now.inputs = grind (arith, nat_tests) in
    omega (arith, same, most, least)

-- an input changes nothing else of the kernel
pub runtime_kept : {X Y : Type 0} (told : Result X Y) (k n : Calls) (inputs : List (List ℕ)) → OnErr told (n ≡ k)
    → OnOk told (n ≡ record k { inputs = inputs }) → n.runtime ≡ k.runtime
runtime_kept (Ok x) k n inputs err ok = ap (λ (c : Calls). c.runtime) ok
runtime_kept (Err e) k n inputs err ok = ap (λ (c : Calls). c.runtime) err

module _ (k : Running) (accepted : List ℕ) (m : Memory) (w : World) (h : Runs k accepted m w) (n : Calls)
    (same : n.runtime ≡ k.calls.runtime) (bytes : List ℕ) where
  abbrev given : Bool → World
  given b = if b then record w { now = with_input w.now bytes } else w

  given_runs : (b : Bool) (rest : Rest) → Holds n accepted m rest (given b)
      → Runs (record k { calls = n }) accepted m (given b)
  given_runs true rest holds = record {
    rest = rest;
    holds = holds;
    saved = h.saved;
    pages = h.pages;
    at_rest = h.at_rest;
    are = h.are;
    slots = subst (λ (x : Runtime). HasFixedSlots x.objects) (sym same) h.slots;
    fresh = subst (λ (x : Runtime). AreFreshAlike k.rooms x.objects) (sym same) h.fresh;
    stored = h.stored;
    unchanged = subst (λ (x : Runtime). AreAsSaved k.rooms x.objects h.saved w) (sym same) h.unchanged;
    waiting = subst (λ (x : Runtime). AreWaitingThere x.objects w) (sym same) h.waiting;
    counts = h.counts;
    prepares = h.prepares;
    in_range = h.in_range;
    home = h.home;
  }
  given_runs false rest holds = record {
    rest = rest;
    holds = holds;
    saved = h.saved;
    pages = h.pages;
    at_rest = h.at_rest;
    are = h.are;
    slots = subst (λ (x : Runtime). HasFixedSlots x.objects) (sym same) h.slots;
    fresh = subst (λ (x : Runtime). AreFreshAlike k.rooms x.objects) (sym same) h.fresh;
    stored = h.stored;
    unchanged = subst (λ (x : Runtime). AreAsSaved k.rooms x.objects h.saved w) (sym same) h.unchanged;
    waiting = subst (λ (x : Runtime). AreWaitingThere x.objects w) (sym same) h.waiting;
    counts = h.counts;
    prepares = h.prepares;
    in_range = h.in_range;
    home = h.home;
  }

  pub input_runs : (rest : Rest) → Holds n accepted m rest (input w bytes)
      → Runs (record k { calls = n }) accepted m (input w bytes)
  input_runs rest holds = given_runs (has_input_room w) rest holds

-- Entries.

module _ (k : Running) (accepted : List ℕ) (m : Memory) (w : World) (h : Runs k accepted m w) (channel : ℕ)
    (below : channel < OUTPUT_CHANNELS) where
  saved_first : IsFirstPart (w.saved.out channel) (h.rest.out channel)
  saved_first =
      subst (λ (out : ℕ → List (List ℕ)). IsFirstPart (w.saved.out channel) (out channel))
      (out_is k.calls accepted m h.rest w h.holds) (h.holds.sound.order.saved channel)

  pub more_saved : slice_index accepted channel ≢ slice_index k.saved channel → is_offered w channel ≡ true
  more_saved apart =
      let told = h.holds.attached.accepted channel below in
      let counts = h.counts channel below in
      let part = h.holds.sound.order.released channel in
      let all : length (w.released channel) + length part.0 ≡ length (w.saved.out channel) =
      sym (length-append (w.released channel) part.0) ∙ ap length part.1 in
      let differ : length (w.released channel) ≢ length (w.saved.out channel) =
      λ e. apart (told ∙ (ap (λ (n : ℕ). w.base channel + n) e ∙ sym counts)) in
      let inside : length (w.released channel) < length (w.saved.out channel) = omega (arith, all, differ) in
      grind (arith, nat_tests)

  module _ (offered : is_offered w channel ≡ true)
      (law : (content : ℕ → ℕ → ℕ) (out : ℕ → List (List ℕ)) → IsFirstPart (w.saved.out channel) (out channel)
      → EntriesStand content w out
      → HasEntry (content (page_of_channel channel)) (accepted_count w channel) (next_bytes w channel)) where
    pub next_stands : EntryStands m channel (slice_index accepted channel) (next_bytes w channel)
    next_stands = record {
      content = h.rest.content;
      reads = h.holds.content;
      there =
          subst (λ (number : ℕ). HasEntry (h.rest.content (page_of_channel channel)) number (next_bytes w channel))
          (sym (h.holds.attached.accepted channel below)) (law h.rest.content h.rest.out saved_first h.holds.entries);
    }
