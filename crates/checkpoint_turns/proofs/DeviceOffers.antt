-- What the device is offered in a checkpoint, and how many entries were put.
use Rattle.std.specs.Prelude.{◌≡◌, ◌≢◌, ℕ, ◌+◌, ◌<◌, true, false, List, length, slice_index}
use Rattle.std.proofs.Common.{ap, sym, subst, ◌∙◌, arith}
use Rattle.std.proofs.lemmas.Bool.{lt-ltb, le-ltb}
use Rattle.std.proofs.lemmas.List.{length-append}
use Rattle.sls_base.specs.declared.fixed.TheConstants.{FIRST_OUTPUT_RING}
use Rattle.sls_base.specs.declared.limits.TheConstants.{OUTPUT_CHANNELS}
use Rattle.sls_base.specs.declared.thread.Ring.{Ring}
use Rattle.pmem_model.specs.Memory.{Memory, AllHome}
use Rattle.pmem_layout.specs.Places.{runtime_frame}
use Rattle.plain_state.specs.Objects.{page_of_channel}
use Rattle.plain_state.specs.States.{State}
use Rattle.plain_state.specs.Worlds.{World, accepted_count, put_count}
use Rattle.plain_model.specs.Play.{is_offered, next_bytes}
use Rattle.plain_laws.specs.Laws.{IsFirstPart}
use Rattle.plain_laws.specs.Whole.{IsSound}
use Rattle.kobj_table.specs.declared.slot.Slot.{Slot}
use Rattle.kobj_table.specs.Objects.{slot_at, state_of}
use Rattle.object_records.specs.Ranges.{HasFixedSlots}
use Rattle.call_readings.specs.Content.{is_page_home, Reads}
use Rattle.call_readings.specs.Kernel.{CountsEntries}
use Rattle.out_gate.specs.Entries.{EntriesStand, EntryStands, HasEntry}
use Rattle.core_turns.specs.Runs.{CountsSaved, objects_of}
use Rattle.checkpoint_turns.specs.declared.checkpoint.Checkpoint.{Checkpoint}
use Rattle.checkpoint_turns.specs.Checkpoints.{Before, Behind, IsBefore, IsBehind, IsOf}
use Rattle.checkpoint_turns.proofs.CommitsNext.{StaysSound, out_same, run_then}

-- The words of a memory have the entries that wait, and it is known how many the device accepted and the copy has.
pub record HasOutput (c : Checkpoint) (accepted : List ℕ) (m : Memory) (w : World) : Type 0 where
  pub sound : IsSound w
  pub content : ℕ → ℕ → ℕ
  pub reads : Reads content m
  pub entries : EntriesStand content w w.now.out
  pub accepted_are : (channel : ℕ) → channel < OUTPUT_CHANNELS
      → slice_index accepted channel ≡ accepted_count w channel
  pub counts : CountsSaved c.running w
  pub home : AllHome m

before_has : (c : Checkpoint) (accepted : List ℕ) (m : Memory) (w : World) → StaysSound → IsBefore c accepted m w
    → HasOutput c accepted m w
before_has c accepted m w stays h = record {
  sound = h.sound;
  content = h.rest.content;
  reads = h.content;
  entries =
      subst (λ (out : ℕ → List (List ℕ)). EntriesStand h.rest.content w out) (sym (out_same c accepted m w h))
      (run_then c accepted m w h stays).entries;
  accepted_are = h.devices.accepted_are;
  counts = h.devices.saved;
  home = h.home;
}

out_behind : (c : Checkpoint) (accepted : List ℕ) (m : Memory) (w : World) (h : IsBehind c accepted m w)
    → w.now.out ≡ h.rest.out
unfolding state_of
out_behind c accepted m w h = ap (λ (s : State). s.out) h.just.now

behind_has : (c : Checkpoint) (accepted : List ℕ) (m : Memory) (w : World) → IsBehind c accepted m w
    → HasOutput c accepted m w
behind_has c accepted m w h = record {
  sound = h.just.sound;
  content = h.rest.content;
  reads = h.just.content;
  entries =
      subst (λ (out : ℕ → List (List ℕ)). EntriesStand h.rest.content w out) (sym (out_behind c accepted m w h))
      h.just.entries;
  accepted_are = h.just.attached.accepted;
  counts = h.counts;
  home = h.home;
}

pub has_output : (c : Checkpoint) (accepted : List ℕ) (m : Memory) (w : World) → StaysSound → IsOf c accepted m w
    → HasOutput c accepted m w
has_output c accepted m w stays (Before h) = before_has c accepted m w stays h
has_output c accepted m w stays (Behind h) = behind_has c accepted m w h

module _ (c : Checkpoint) (accepted : List ℕ) (m : Memory) (w : World) (h : HasOutput c accepted m w) (channel : ℕ)
    (below : channel < OUTPUT_CHANNELS) where
  pub page_home : is_page_home m (page_of_channel channel) ≡ true
  page_home = h.home (1 + runtime_frame (page_of_channel channel)) (omega (arith, below))

  pub more_saved : slice_index accepted channel ≢ slice_index c.running.saved channel → is_offered w channel ≡ true
  more_saved apart =
      let told = h.accepted_are channel below in
      let counts = h.counts channel below in
      let part = h.sound.order.released channel in
      let all : length (w.released channel) + length part.0 ≡ length (w.saved.out channel) =
      sym (length-append (w.released channel) part.0) ∙ ap length part.1 in
      let differ : length (w.released channel) ≢ length (w.saved.out channel) =
      λ e. apart (told ∙ (ap (λ (n : ℕ). w.base channel + n) e ∙ sym counts)) in
      lt-ltb (length (w.released channel)) (length (w.saved.out channel)) (omega (arith, all, differ))

  pub none_saved : slice_index accepted channel ≡ slice_index c.running.saved channel → is_offered w channel ≡ false
  none_saved same =
      let told = h.accepted_are channel below in
      let counts = h.counts channel below in
      le-ltb (length (w.released channel)) (length (w.saved.out channel)) (omega (arith, told, counts, same))

  module _ (offered : is_offered w channel ≡ true)
      (law : (content : ℕ → ℕ → ℕ) (w : World) (out : ℕ → List (List ℕ)) (channel : ℕ)
      → channel < OUTPUT_CHANNELS → IsFirstPart (w.saved.out channel) (out channel)
      → is_offered w channel ≡ true → EntriesStand content w out
      → HasEntry (content (page_of_channel channel)) (accepted_count w channel) (next_bytes w channel)) where
    pub next_stands : EntryStands m channel (slice_index accepted channel) (next_bytes w channel)
    next_stands = record {
      content = h.content;
      reads = h.reads;
      there =
          subst (λ (number : ℕ). HasEntry (h.content (page_of_channel channel)) number (next_bytes w channel))
          (sym (h.accepted_are channel below))
          (law h.content w w.now.out channel below (h.sound.order.saved channel) offered h.entries);
    }

-- How many entries were put.

slots_of : (c : Checkpoint) (accepted : List ℕ) (m : Memory) (w : World) → IsOf c accepted m w
    → HasFixedSlots (objects_of c.running)
slots_of c accepted m w (Before h) = h.can.slots
slots_of c accepted m w (Behind h) = h.slots

rings_of : (c : Checkpoint) (accepted : List ℕ) (m : Memory) (w : World) → IsOf c accepted m w
    → (id : ℕ) → CountsEntries (slot_at (objects_of c.running) id) w
rings_of c accepted m w (Before h) = h.devices.rings
rings_of c accepted m w (Behind h) = h.just.attached.rings

pub put_is : (c : Checkpoint) (accepted : List ℕ) (m : Memory) (w : World) → IsOf c accepted m w
    → (channel count : ℕ) → channel < OUTPUT_CHANNELS
    → ((ring : Ring) → slot_at (objects_of c.running) (FIRST_OUTPUT_RING + channel) ≡ Slot.Ring ring
    → count ≡ ring.count)
    → count ≡ put_count w channel
put_is c accepted m w h channel count below counted =
    let ring = (slots_of c accepted m w h).outputs channel below in
    let told =
    subst (λ (slot : Slot). CountsEntries slot w) ring.is (rings_of c accepted m w h (FIRST_OUTPUT_RING + channel)) in
    counted _ ring.is ∙ told.1 (λ e. absurd (omega (arith, e, below)))
