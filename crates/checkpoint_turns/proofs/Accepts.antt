-- An entry that the device accepts is accepted by the world of a checkpoint, and leaves all else as it was.
use Rattle.std.specs.Prelude.{◌≡◌, ℕ, ◌+◌, ◌<◌, ◌≤◌, ◌==◌, Bool, true, false, if◌then◌else◌, List, [], ◌∷◌, ◌++◌}
use Rattle.std.specs.Prelude.{length, slice_index, slice_set}
use Rattle.std.proofs.Common.{refl, ap, sym, subst, ◌∙◌, arith}
use Rattle.std.proofs.lemmas.Bool.{eqb-true, eqb-false, ltb-true}
use Rattle.std.proofs.lemmas.Grind.{get_or-set_at}
use Rattle.std.proofs.lemmas.List.{get_or-set_other, length_push}
use mathlib.Core.Path.{fun_ext}
use Rattle.sls_base.specs.declared.limits.TheConstants.{OUTPUT_CHANNELS}
use Rattle.pmem_model.specs.Memory.{Memory}
use Rattle.plain_state.specs.declared.label.Label.TheVariants.{Accept}
use Rattle.plain_state.specs.Worlds.{World, accepted_count}
use Rattle.plain_model.specs.Play.{accept, is_offered, next_bytes, with_released}
use Rattle.plain_laws.specs.Bounds.{HasRoom}
use Rattle.plain_laws.specs.Whole.{IsSound}
use Rattle.kobj_table.specs.Objects.{slot_at, state_of}
use Rattle.durable_state.specs.Parts.{Parts}
use Rattle.out_gate.specs.Entries.{EntriesStand}
use Rattle.saved_state.specs.State.{ArePartsOf}
use Rattle.saved_state.specs.Running.{CanBeSaved}
use Rattle.saved_state.proofs.Accepted.{accept_keeps}
use Rattle.leader_helper.specs.Saving.{words_kept}
use Rattle.core_turns.specs.Runs.{objects_of}
use Rattle.checkpoint_turns.specs.declared.checkpoint.Checkpoint.{Checkpoint}
use Rattle.checkpoint_turns.specs.Checkpoints.{Before, Behind, IsBefore, IsBehind, IsOf}
use Rattle.checkpoint_turns.proofs.CommitsNext.{StaysSound, counts_alike, out_same}
use Rattle.checkpoint_turns.proofs.DeviceInputs.{sound_of}

module _ (accepted : List ℕ) (m : Memory) (w : World) (channel : ℕ) (below : channel < OUTPUT_CHANNELS)
    (size : length accepted ≡ OUTPUT_CHANNELS) (offered : is_offered w channel ≡ true) where
  abbrev next : World
  next = record w { released = with_released w.released channel (next_bytes w channel) }

  is_next : accept w channel ≡ next
  is_next = rw offered refl

  abbrev more : List ℕ
  more = slice_set accepted channel (slice_index accepted channel + 1)

  -- one more at the channel, and as many at each other

  counts_more : (c : ℕ) → accepted_count next c ≡ (if c == channel then accepted_count w c + 1 else accepted_count w c)
  counts_more c = by (c == channel)
    where
      by : (b : Bool) → w.base c + length (if b then w.released c ++ next_bytes w channel ∷ [] else w.released c)
          ≡ (if b then accepted_count w c + 1 else accepted_count w c)
      by true = let l = length_push (w.released c) (next_bytes w channel) in omega (arith, l)
      by false = refl

  rises : (c : ℕ) → accepted_count w c ≤ accepted_count next c
  rises c = by (c == channel) (counts_more c)
    where
      by : (b : Bool) → accepted_count next c ≡ (if b then accepted_count w c + 1 else accepted_count w c)
          → accepted_count w c ≤ accepted_count next c
      by true e = omega (arith, e)
      by false e = omega (arith, e)

  tells_more : (c : ℕ) → slice_index accepted c ≡ accepted_count w c → slice_index more c ≡ accepted_count next c
  tells_more c told = by (c == channel) refl (counts_more c)
    where
      by : (b : Bool) → (c == channel) ≡ b
          → accepted_count next c ≡ (if b then accepted_count w c + 1 else accepted_count w c)
          → slice_index more c ≡ accepted_count next c
      by true same e =
          let here = eqb-true c channel same in
          let one =
          get_or-set_at accepted channel c (slice_index accepted channel + 1) 0 here (omega (arith, below, size)) in
          let told_here : slice_index accepted channel ≡ accepted_count w c =
          ap (slice_index accepted) (sym here) ∙ told in
          one ∙ (ap (λ (n : ℕ). n + 1) told_here ∙ sym e)
      by false same e =
          get_or-set_other accepted channel c (slice_index accepted channel + 1) 0 (eqb-false c channel same)
          ∙ (told ∙ sym e)

  still_parts : (saved : Parts) → ArePartsOf w.base (accepted_count w) saved w.saved
      → ArePartsOf w.base (accepted_count next) saved w.saved
  still_parts saved h =
      let inside : length (w.released channel) < length (w.saved.out channel) =
      ltb-true (length (w.released channel)) (length (w.saved.out channel)) offered in
      let waits : accepted_count w channel < w.base channel + length (w.saved.out channel) = omega (arith, inside) in
      subst (λ (count : ℕ → ℕ). ArePartsOf w.base count saved w.saved) (sym (fun_ext counts_more))
      (accept_keeps w.base (accepted_count w) w.saved channel waits saved h)

  module _ (sound : IsSound next)
      (entries : (content : ℕ → ℕ → ℕ) (out : ℕ → List (List ℕ)) → EntriesStand content w out
      → EntriesStand content (accept w channel) out) where
    entries_next : (content : ℕ → ℕ → ℕ) (out : ℕ → List (List ℕ)) → EntriesStand content w out
        → EntriesStand content next out
    entries_next content out stand =
        subst (λ (x : World). EntriesStand content x out) is_next (entries content out stand)

    behind_next : (c : Checkpoint) → IsBehind c accepted m w → IsBehind c more m next
    behind_next c h = record {
      rest = h.rest;
      just = record {
        now = h.just.now;
        saved = h.just.saved;
        sound = sound;
        attached = record {
          rings = λ id. counts_alike (slot_at (objects_of c.running) id) w next (λ i. refl) (h.just.attached.rings id);
          accepted = λ i lt. tells_more i (h.just.attached.accepted i lt);
          input = h.just.attached.input;
        };
        inputs = h.just.inputs;
        content = h.just.content;
        entries = entries_next h.rest.content h.rest.out h.just.entries;
        scheduler = h.just.scheduler;
        strays = h.just.strays;
      };
      unchanged = h.unchanged;
      saved = h.saved;
      pages = h.pages;
      are = still_parts h.saved h.are;
      applying = h.applying;
      objects = h.objects;
      slots = h.slots;
      stages = h.stages;
      waiting = λ i lt waits. h.waiting i lt (let up = rises i in omega (arith, waits, up));
      counts = h.counts;
      none = h.none;
      home = h.home;
    }

    module _ (c : Checkpoint) (h : IsBefore c accepted m w) where
      room_next : HasRoom next (state_of (objects_of c.running) h.rest)
      unfolding state_of
      room_next =
          let same = λ (i : ℕ). ap (λ (out : ℕ → List (List ℕ)). length (out i)) (out_same c accepted m w h) in
          record {
            accepted = λ i. (let put = sound.room.now.accepted i in let e = same i in omega (arith, put, e));
            ring = λ i. (let fits = sound.room.now.ring i in let e = same i in omega (arith, fits, e));
            count = λ i. (let most = sound.room.now.count i in let e = same i in omega (arith, most, e));
          }

      can_next : CanBeSaved (objects_of c.running) h.rest (words_kept (objects_of c.running) h.pages) next
      can_next = record {
        sound = h.can.sound;
        swept = h.can.swept;
        slots = h.can.slots;
        strays = h.can.strays;
        words = h.can.words;
        rings = λ id. counts_alike (slot_at (objects_of c.running) id)
            (record w { now = state_of (objects_of c.running) h.rest })
            (record next { now = state_of (objects_of c.running) h.rest }) (λ i. refl) (h.can.rings id);
        room = room_next;
        entries = entries_next _ h.rest.out h.can.entries;
        channels = h.can.channels;
      }

      before_next : IsBefore c more m next
      before_next = record {
        sound = sound;
        cores = h.cores;
        rest = h.rest;
        now = h.now;
        content = h.content;
        saved = h.saved;
        pages = h.pages;
        are = still_parts h.saved h.are;
        writing = h.writing;
        can = can_next;
        numbers = h.numbers;
        devices = record {
          inputs = h.devices.inputs;
          rings = λ id. counts_alike (slot_at (objects_of c.running) id) w next (λ i. refl) (h.devices.rings id);
          accepted_are = λ i lt. tells_more i (h.devices.accepted_are i lt);
          saved = h.devices.saved;
        };
        in_hand = record {
          prepared = h.in_hand.prepared;
          in_range = h.in_hand.in_range;
          gather = h.in_hand.gather;
          there = h.in_hand.there;
        };
        spared = h.spared;
        home = h.home;
      }

    is_of_next : (c : Checkpoint) → IsOf c accepted m w → IsOf c more m next
    is_of_next c (Before h) = Before (before_next c h)
    is_of_next c (Behind h) = Behind (behind_next c h)

  pub accepts_is_of : StaysSound
      → ((content : ℕ → ℕ → ℕ) (w : World) (out : ℕ → List (List ℕ)) (channel : ℕ) → EntriesStand content w out
      → EntriesStand content (accept w channel) out)
      → (c : Checkpoint) → IsOf c accepted m w → IsOf c more m (accept w channel)
  accepts_is_of stays entries c h =
      let sound = stays w (Accept channel) below tt (sound_of c accepted m w h) in
      subst (λ (x : World). IsOf c more m x) (sym is_next)
      (is_of_next (subst (λ (x : World). IsSound x) is_next sound) (λ content out. entries content w out channel) c h)
