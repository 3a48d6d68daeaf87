-- An entry that the device accepts is accepted by the world, and leaves all else as it was.
use Rattle.std.specs.Prelude.{◌≡◌, ℕ, ◌+◌, ◌<◌, ◌≤◌, ◌==◌, Bool, true, false, if◌then◌else◌, List, [], ◌∷◌, ◌++◌, length, slice_index, slice_set}
use Rattle.std.proofs.Common.{refl, ap, sym, subst, ◌∙◌, arith}
use Rattle.std.proofs.lemmas.Bool.{eqb-true, eqb-false, ltb-true}
use Rattle.std.proofs.lemmas.Grind.{get_or-set_at}
use Rattle.std.proofs.lemmas.List.{get_or-set_other, length_push}
use Rattle.sls_base.specs.declared.limits.TheConstants.{OUTPUT_CHANNELS}
use Rattle.sls_base.specs.declared.thread.Ring.{Ring}
use Rattle.pmem_model.specs.Memory.{Memory}
use Rattle.plain_model.specs.Play.{accept, is_offered, next_bytes, with_released}
use Rattle.plain_state.specs.Worlds.{World, accepted_count}
use Rattle.plain_laws.specs.Whole.{IsSound}
use Rattle.kobj_table.specs.declared.slot.Slot.{Slot}
use Rattle.kobj_table.specs.Objects.{Rest}
use Rattle.durable_state.specs.Parts.{Parts}
use Rattle.call_readings.specs.Kernel.{CountsEntries}
use Rattle.out_gate.specs.Entries.{EntriesStand}
use Rattle.saved_state.specs.State.{ArePartsOf, IsRing}
use Rattle.kernel_calls.specs.declared.calls.Calls.{Calls}
use Rattle.kernel_calls.specs.Kernel.{Holds}
use Rattle.core_turns.specs.declared.running.Running.{Running}
use Rattle.core_turns.specs.Runs.{Runs}

-- a ring of which more was accepted
accepts_more : (channel base accepted more : ℕ) (byte : ℕ → ℕ) (out : List (List ℕ)) (ring : Ring) → accepted ≤ more
    → more ≤ base + length out → IsRing channel base accepted byte out ring → IsRing channel base more byte out ring
accepts_more channel base accepted more byte out ring rises put h = record {
  channel_is = h.channel_is;
  page = h.page;
  count = h.count;
  begun = omega (arith, h.begun, rises);
  put = omega (arith, h.count, put);
  room = omega (arith, h.room, rises);
  entries = λ i from inside. h.entries i (omega (arith, from, rises)) inside;
}

module _ (accepted : List ℕ) (m : Memory) (w : World) (channel : ℕ) (below : channel < OUTPUT_CHANNELS)
    (size : length accepted ≡ OUTPUT_CHANNELS) (offered : is_offered w channel ≡ true) where
  abbrev next : World
  next = record w { released = with_released w.released channel (next_bytes w channel) }

  pub is_next : accept w channel ≡ next
  is_next = rw offered refl

  abbrev more : List ℕ
  more = slice_set accepted channel (slice_index accepted channel + 1)

  -- one more at the channel, and as many at each other

  released_at : (c : ℕ) (b : Bool) → (c == channel) ≡ b
      → length (if b then w.released c ++ next_bytes w channel ∷ [] else w.released c)
      ≡ (if b then length (w.released c) + 1 else length (w.released c))
  released_at c true e = length_push (w.released c) (next_bytes w channel)
  released_at c false e = refl

  counts_more : (c : ℕ) → accepted_count next c ≡ (if c == channel then accepted_count w c + 1 else accepted_count w c)
  counts_more c = by (c == channel) refl
    where
      by : (b : Bool) → (c == channel) ≡ b
          → w.base c + length (if b then w.released c ++ next_bytes w channel ∷ [] else w.released c)
          ≡ (if b then accepted_count w c + 1 else accepted_count w c)
      by true e = let l = length_push (w.released c) (next_bytes w channel) in omega (arith, l)
      by false e = refl

  rises : (c : ℕ) → accepted_count w c ≤ accepted_count next c
  rises c = by (c == channel) (counts_more c)
    where
      by : (b : Bool) → accepted_count next c ≡ (if b then accepted_count w c + 1 else accepted_count w c)
          → accepted_count w c ≤ accepted_count next c
      by true e = omega (arith, e)
      by false e = omega (arith, e)

  stays_put : (c : ℕ) → accepted_count w c ≤ w.base c + length (w.saved.out c)
      → accepted_count next c ≤ w.base c + length (w.saved.out c)
  stays_put c put = by (c == channel) refl (counts_more c)
    where
      by : (b : Bool) → (c == channel) ≡ b
          → accepted_count next c ≡ (if b then accepted_count w c + 1 else accepted_count w c)
          → accepted_count next c ≤ w.base c + length (w.saved.out c)
      by true same e = (
          let here = eqb-true c channel same in
          let inside : length (w.released c) < length (w.saved.out c) =
          subst (λ (i : ℕ). length (w.released i) < length (w.saved.out i)) (sym here)
          (ltb-true (length (w.released channel)) (length (w.saved.out channel)) offered) in
          omega (arith, e, inside)
          )
      by false same e = omega (arith, e, put)

  tells_more : (c : ℕ) → slice_index accepted c ≡ accepted_count w c → slice_index more c ≡ accepted_count next c
  tells_more c told = by (c == channel) refl (counts_more c)
    where
      by : (b : Bool) → (c == channel) ≡ b
          → accepted_count next c ≡ (if b then accepted_count w c + 1 else accepted_count w c)
          → slice_index more c ≡ accepted_count next c
      by true same e =
          let here = eqb-true c channel same in
          let one =
          get_or-set_at accepted channel c (slice_index accepted channel + 1) 0 here (omega (arith, below, size)) in
          let told_here : slice_index accepted channel ≡ accepted_count w c =
          ap (slice_index accepted) (sym here) ∙ told in
          one ∙ ap (λ (n : ℕ). n + 1) told_here ∙ sym e
      by false same e =
          get_or-set_other accepted channel c (slice_index accepted channel + 1) 0 (eqb-false c channel same) ∙ told
          ∙ sym e

  -- Rings count what was put.
  still_counts : (slot : Slot) → CountsEntries slot w → CountsEntries slot next
  still_counts (Slot.Ring ring) is = is
  still_counts Slot.Empty is = is
  still_counts (Slot.Group group) is = is
  still_counts (Slot.Thread thread) is = is
  still_counts (Slot.Space space) is = is
  still_counts (Slot.Memory memory) is = is
  still_counts (Slot.Connection connection) is = is
  still_counts (Slot.Notification note) is = is
  still_counts (Slot.Scheduler cores) is = is

  still_parts : (saved : Parts) → ArePartsOf w.base (accepted_count w) saved w.saved
      → ArePartsOf w.base (accepted_count next) saved w.saved
  still_parts saved h = record {
    state = h.state;
    sound = h.sound;
    swept = h.swept;
    cores = h.cores;
    none = h.none;
    used_objects = h.used_objects;
    used_pages = h.used_pages;
    pages = h.pages;
    rings = λ c lt. (
        let had = h.rings c lt in
        let put : accepted_count w c ≤ w.base c + length (w.saved.out c) = omega (arith, had.2.put, had.2.count) in
        let more_had =
        accepts_more _ _ (accepted_count w c) (accepted_count next c) _ (w.saved.out c) had.0 (rises c)
        (stays_put c put) had.2 in
        (had.0, had.1, more_had)
        );
    channels = h.channels;
  }

  module _ (sound : IsSound (accept w channel))
      (entries : (content : ℕ → ℕ → ℕ) (out : ℕ → List (List ℕ)) → EntriesStand content w out
      → EntriesStand content (accept w channel) out) where
    now_holds : (k : Calls) (rest : Rest) → Holds k accepted m rest w → Holds k more m rest next
    now_holds k rest h = record {
      now = h.now;
      sound = subst IsSound is_next sound;
      counted = record { objects = h.counted.objects; pages = h.counted.pages };
      attached = record {
        rings = λ id. still_counts _ (h.attached.rings id);
        accepted = λ c lt. tells_more c (h.attached.accepted c lt);
        input = h.attached.input;
      };
      inputs = h.inputs;
      content = h.content;
      entries =
          subst (λ (x : World). EntriesStand rest.content x rest.out) is_next (entries rest.content rest.out h.entries);
      scheduler = h.scheduler;
      strays = h.strays;
    }

    next_runs : (k : Running) → Runs k accepted m w → Runs k more m next
    next_runs k h = record {
      rest = h.rest;
      holds = now_holds k.calls h.rest h.holds;
      saved = h.saved;
      pages = h.pages;
      at_rest = h.at_rest;
      are = still_parts h.saved h.are;
      slots = h.slots;
      fresh = h.fresh;
      stored = h.stored;
      unchanged = h.unchanged;
      waiting = λ c lt waits. h.waiting c lt (let up = rises c in omega (arith, waits, up));
      counts = h.counts;
      prepares = h.prepares;
      in_range = h.in_range;
      home = h.home;
    }

    pub accepted_runs : (k : Running) → Runs k accepted m w → Runs k more m (accept w channel)
    accepted_runs k h = subst (λ (x : World). Runs k more m x) (sym is_next) (next_runs k h)
