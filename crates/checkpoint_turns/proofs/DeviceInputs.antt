-- One more input waits in a checkpoint, or there is no room for it.
use Rattle.std.specs.Prelude.{◌≡◌, ℕ, ◌≤◌, ◌↔◌, true, false, List, [], ◌∷◌, ◌++◌, length}
use Rattle.std.specs.Prelude.{Result, Ok, Err, OnErr, OnOk, IsErr}
use Rattle.std.proofs.Common.{refl, ap, sym, subst, ◌∙◌, arith}
use Rattle.std.proofs.lemmas.Bool.{lt-ltb}
use Rattle.std.proofs.lemmas.Bool.Decides.{nat_tests}
use Rattle.sls_base.specs.declared.limits.TheConstants.{ENTRY_BYTES, WAITING_INPUTS}
use Rattle.pmem_model.specs.Memory.{Memory}
use Rattle.plain_state.specs.declared.label.Label.TheVariants.{Commit, Input}
use Rattle.plain_state.specs.States.{State}
use Rattle.plain_state.specs.Sweep.{swept}
use Rattle.plain_state.specs.Worlds.{World, has_page}
use Rattle.plain_model.specs.Play.{commit, has_input_room, input}
use Rattle.plain_laws.specs.Bounds.{AreBytes, HasRoom}
use Rattle.plain_laws.specs.Whole.{IsSound}
use Rattle.kobj_table.specs.Objects.{Rest, slot_at, state_of}
use Rattle.object_records.specs.Ranges.{IsSoundState}
use Rattle.alloc_journal.specs.Sets.{has}
use Rattle.saved_state.specs.Running.{AreNumbersOf, CanBeSaved}
use Rattle.leader_helper.specs.Saving.{words_kept}
use Rattle.kernel_calls.specs.declared.calls.Calls.{Calls}
use Rattle.core_turns.specs.Runs.{objects_of}
use Rattle.checkpoint_turns.specs.declared.checkpoint.Checkpoint.{Checkpoint}
use Rattle.checkpoint_turns.specs.Checkpoints.{AreInHand, Before, Behind, IsBefore, IsBehind, IsOf}
use Rattle.checkpoint_turns.proofs.CommitsNext.{StaysSound, counts_alike}
use Rattle.checkpoint_turns.proofs.DeviceSweeps.{swept_alike}

-- What there is of inputs in a world that a checkpoint is.

pub sound_of : (c : Checkpoint) (accepted : List ℕ) (m : Memory) (w : World) → IsOf c accepted m w → IsSound w
sound_of c accepted m w (Before h) = h.sound
sound_of c accepted m w (Behind h) = h.just.sound

inputs_behind : (c : Checkpoint) (accepted : List ℕ) (m : Memory) (w : World) → IsBehind c accepted m w
    → c.running.calls.inputs ≡ w.now.inputs
unfolding state_of
inputs_behind c accepted m w h = h.just.inputs ∙ sym (ap (λ (s : State). s.inputs) h.just.now)

pub inputs_of : (c : Checkpoint) (accepted : List ℕ) (m : Memory) (w : World) → IsOf c accepted m w
    → c.running.calls.inputs ≡ w.now.inputs
inputs_of c accepted m w (Before h) = h.devices.inputs
inputs_of c accepted m w (Behind h) = inputs_behind c accepted m w h

module _ (c : Checkpoint) (accepted : List ℕ) (m : Memory) (w : World) (h : IsOf c accepted m w) where
  fits : (length c.running.calls.inputs ≡ WAITING_INPUTS → ⊥) → has_input_room w ≡ true
  fits room =
      let most = (sound_of c accepted m w h).entries.0.waiting in
      let same = ap (λ (l : List (List ℕ)). length l) (inputs_of c accepted m w h) in
      lt-ltb (length w.now.inputs) WAITING_INPUTS (omega (arith, most, same, room))

  pub is_full : length c.running.calls.inputs ≡ WAITING_INPUTS → has_input_room w ≡ false
  is_full full = rw (sym (inputs_of c accepted m w h), full) refl

  pub has_none : has_input_room w ≡ false → length c.running.calls.inputs ≡ WAITING_INPUTS
  has_none none =
      let same = ap (λ (l : List (List ℕ)). length l) (inputs_of c accepted m w h) in
      let most = (sound_of c accepted m w h).entries.0.waiting in
      let least : WAITING_INPUTS ≤ length w.now.inputs = grind (arith, nat_tests) in
      omega (arith, same, most, least)

-- Another list of inputs waits.

module _ (c : Checkpoint) (accepted : List ℕ) (m : Memory) (w : World) (inputs : List (List ℕ)) where
  abbrev pub with_waiting : Checkpoint
  with_waiting = record c { running = record c.running { calls = record c.running.calls { inputs = inputs } } }

  abbrev pub waiting_in : World
  waiting_in = record w { now = record w.now { inputs = inputs } }

  module _ (stays : StaysSound) (sound : IsSound waiting_in) where
    behind_with : IsBehind c accepted m w → IsBehind with_waiting accepted m waiting_in
    unfolding state_of
    behind_with h = record {
      rest = record h.rest { inputs = inputs };
      just = record {
        now = ap (λ (s : State). record s { inputs = inputs }) h.just.now;
        saved = h.just.saved;
        sound = sound;
        attached = record {
          rings = λ id. counts_alike (slot_at (objects_of c.running) id) w waiting_in (λ channel. refl)
              (h.just.attached.rings id);
          accepted = h.just.attached.accepted;
          input = refl;
        };
        inputs = refl;
        content = h.just.content;
        entries = h.just.entries;
        scheduler = h.just.scheduler;
        strays = h.just.strays;
      };
      unchanged = h.unchanged;
      saved = h.saved;
      pages = h.pages;
      are = h.are;
      applying = h.applying;
      objects = h.objects;
      slots = h.slots;
      stages = h.stages;
      waiting = h.waiting;
      counts = h.counts;
      none = h.none;
      home = h.home;
    }

    module _ (h : IsBefore c accepted m w) where
      abbrev rest_with : Rest
      rest_with = record h.rest { inputs = inputs }

      now_with : state_of (objects_of c.running) rest_with ≡ swept waiting_in.now
      unfolding state_of
      now_with = ap (λ (s : State). record s { inputs = inputs }) h.now ∙ sym (swept_alike w.now inputs)

      sound_behind : IsSound (commit waiting_in)
      sound_behind = stays waiting_in Commit h.writing.in_range tt sound

      sound_state : IsSoundState (swept waiting_in.now)
      sound_state = record {
        placed = sound_behind.placed.0;
        present = sound_behind.present.0;
        in_range = sound_behind.in_range.0;
        forms = sound_behind.forms.0;
        names = sound_behind.names.0;
        apart = sound_behind.apart.0;
        fixed = sound_behind.fixed.0;
        threads = sound_behind.threads.0;
      }

      room_with : HasRoom waiting_in (state_of (objects_of c.running) rest_with)
      unfolding state_of
      room_with = record { accepted = h.can.room.accepted; ring = h.can.room.ring; count = h.can.room.count }

      can_with : CanBeSaved (objects_of c.running) rest_with (words_kept (objects_of c.running) h.pages) waiting_in
      unfolding state_of
      can_with = record {
        sound = subst IsSoundState (sym now_with) sound_state;
        swept = ap swept now_with ∙ (sound_behind.saved.swept ∙ sym now_with);
        slots = h.can.slots;
        strays = h.can.strays;
        words = record { told = h.can.words.told; agree = h.can.words.agree };
        rings = λ id. counts_alike (slot_at (objects_of c.running) id)
            (record w { now = state_of (objects_of c.running) h.rest })
            (record waiting_in { now = state_of (objects_of c.running) rest_with }) (λ channel. refl)
            (h.can.rings id);
        room = room_with;
        entries = h.can.entries;
        channels = h.can.channels;
      }

      numbers_with : AreNumbersOf (has c.running.rooms.numbers.running) (swept waiting_in.now)
      unfolding has_page
      numbers_with =
          subst (AreNumbersOf (has c.running.rooms.numbers.running)) (sym (swept_alike w.now inputs))
          (record { objects = h.numbers.objects; pages = h.numbers.pages })

      hand_with : AreInHand with_waiting waiting_in
      unfolding has_page
      hand_with = record {
        prepared = h.in_hand.prepared;
        in_range = h.in_hand.in_range;
        gather = h.in_hand.gather;
        there = h.in_hand.there;
      }

      before_with : IsBefore with_waiting accepted m waiting_in
      before_with = record {
        sound = sound;
        cores = h.cores;
        rest = rest_with;
        now = now_with;
        content = h.content;
        saved = h.saved;
        pages = h.pages;
        are = h.are;
        writing = h.writing;
        can = can_with;
        numbers = numbers_with;
        devices = record {
          inputs = refl;
          rings = λ id. counts_alike (slot_at (objects_of c.running) id) w waiting_in (λ channel. refl)
              (h.devices.rings id);
          accepted_are = h.devices.accepted_are;
          saved = h.devices.saved;
        };
        in_hand = hand_with;
        spared = h.spared;
        home = h.home;
      }

    pub is_with : IsOf c accepted m w → IsOf with_waiting accepted m waiting_in
    is_with (Before h) = Before (before_with h)
    is_with (Behind h) = Behind (behind_with h)

-- What comes of an input.

module _ (c : Checkpoint) (accepted : List ℕ) (m : Memory) (w : World) (stays : StaysSound) (bytes : List ℕ)
    (some : 1 ≤ length bytes) (most : length bytes ≤ ENTRY_BYTES) (are : AreBytes bytes)
    (h : IsOf c accepted m w) where
  abbrev one_more : List (List ℕ)
  one_more = c.running.calls.inputs ++ bytes ∷ []

  abbrev called : Calls → Checkpoint
  called calls = record c { running = record c.running { calls = calls } }

  given : (length c.running.calls.inputs ≡ WAITING_INPUTS → ⊥)
      → IsOf (with_waiting c accepted m w one_more) accepted m (input w bytes)
  given room =
      let there = fits c accepted m w h room in
      let same = sym (inputs_of c accepted m w h) in
      let is : input w bytes ≡ waiting_in c accepted m w one_more = rw (there, same) refl in
      let sound = stays w (Input (record { items = bytes })) (some, most) are (sound_of c accepted m w h) in
      subst (λ (v : World). IsOf (with_waiting c accepted m w one_more) accepted m v) (sym is)
      (is_with c accepted m w one_more stays (subst (λ (v : World). IsSound v) is sound) h)

  not_given : length c.running.calls.inputs ≡ WAITING_INPUTS → IsOf c accepted m (input w bytes)
  not_given full =
      let none : input w bytes ≡ w = rw (is_full c accepted m w h full) refl in
      subst (λ (v : World). IsOf c accepted m v) (sym none) h

  pub input_is_of : {A B : Type 0} (told : Result A B) (calls : Calls)
      → (IsErr told ↔ (length c.running.calls.inputs ≡ WAITING_INPUTS)) → OnErr told (calls ≡ c.running.calls)
      → OnOk told (calls ≡ record c.running.calls { inputs = one_more })
      → IsOf (called calls) accepted m (input w bytes)
  input_is_of (Ok value) calls full err ok =
      subst (λ (k : Calls). IsOf (called k) accepted m (input w bytes)) (sym ok)
      (given (λ is. (let no = full.1 is in absurd (cc))))
  input_is_of (Err error) calls full err ok =
      subst (λ (k : Calls). IsOf (called k) accepted m (input w bytes)) (sym err) (not_given (full.0 refl))

-- an input changes nothing else of the kernel
pub inputs_alone : {A B : Type 0} (told : Result A B) (k n : Calls) (inputs : List (List ℕ)) → OnErr told (n ≡ k)
    → OnOk told (n ≡ record k { inputs = inputs }) → n ≡ record k { inputs = n.inputs }
inputs_alone (Ok value) k n inputs err ok =
    ok ∙ ap (λ (l : List (List ℕ)). record k { inputs = l }) (sym (ap (λ (c : Calls). c.inputs) ok))
inputs_alone (Err error) k n inputs err ok =
    err ∙ ap (λ (l : List (List ℕ)). record k { inputs = l }) (sym (ap (λ (c : Calls). c.inputs) err))
