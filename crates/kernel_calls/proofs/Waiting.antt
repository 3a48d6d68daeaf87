-- A world with other inputs.
use Rattle.std.specs.Prelude.{◌≡◌, ◌≢◌, ℕ, ◌≤◌, true, false, List, [], ◌∷◌, ◌++◌, length, ◌↔◌, OnOk, OnErr, IsErr}
use Rattle.std.proofs.Common.{Result, Ok, Err, refl, ap, sym, ◌∙◌, subst, arith}
use Rattle.std.proofs.lemmas.Bool.{lt-ltb}
use Rattle.std.proofs.lemmas.List.Elements.{All-nil}
use Rattle.sls_base.specs.declared.limits.TheConstants.{ENTRY_BYTES, WAITING_INPUTS}
use Rattle.pmem_model.specs.Memory.{Memory}
use Rattle.plain_state.specs.declared.label.Label.TheVariants.{Input}
use Rattle.plain_state.specs.States.{State}
use Rattle.plain_state.specs.Worlds.{World, has_page}
use Rattle.plain_model.specs.Play.{has_input_room, input}
use Rattle.plain_laws.specs.Bounds.{AreBytes, IsEntry}
use Rattle.plain_laws.specs.Whole as whole
use Rattle.plain_laws.proofs.PlacedTicks.{placed_alike}
use Rattle.plain_laws.proofs.PresentLabels.{present_alike}
use Rattle.plain_laws.proofs.NamesLabels.{names_alike}
use Rattle.plain_laws.proofs.ThreadEffects.{has_threads, of_threads}
use Rattle.plain_laws.proofs.Tracked.{tracked_still}
use Rattle.kobj_table.specs.Objects.{Rest, slot_at, state_of}
use Rattle.kernel_calls.specs.declared.calls.Calls.{Calls}
use Rattle.kernel_calls.specs.Kernel.{Holds, without_inputs}
use Rattle.kernel_calls.proofs.Entries.{entries_kept}
use Rattle.kernel_calls.proofs.Sound.{StaysSound}

module _ (k : Calls) (accepted : List ℕ) (m : Memory) (rest : Rest) (w : World) (h : Holds k accepted m rest w) where
  same_inputs : w.now.inputs ≡ k.inputs
  unfolding state_of
  same_inputs = ap (λ (s : State). s.inputs) h.now ∙ sym h.inputs

  -- where it is sound with these inputs, it is held with them
  holds_with : (l : List (List ℕ)) → whole.IsSound (record w { now = record w.now { inputs = l } }) →
      Holds (record k { inputs = l }) accepted m (record rest { inputs = l }) (record w { now = record w.now { inputs = l } })
  unfolding state_of has_page
  holds_with l sound = record {
    now = ap (λ (s : State). record s { inputs = l }) h.now;
    sound = sound;
    counted = record { objects = h.counted.objects; pages = h.counted.pages };
    attached = record {
      rings = λ id. entries_kept (slot_at k.runtime.objects id) (record w { now = record w.now { inputs = l } }) w (λ channel. refl) (h.attached.rings id);
      accepted = h.attached.accepted;
      input = refl;
    };
    inputs = refl;
    content = h.content;
    entries = h.entries;
    scheduler = h.scheduler;
    strays = h.strays;
  }

  fits : length k.inputs ≢ WAITING_INPUTS → has_input_room w ≡ true
  fits room =
      let most = h.sound.entries.0.waiting in
      let same = ap (λ (l : List (List ℕ)). length l) same_inputs in
      lt-ltb (length w.now.inputs) WAITING_INPUTS (omega (arith, most, same, room))

  full : length k.inputs ≡ WAITING_INPUTS → has_input_room w ≡ false
  full is = rw (same_inputs, is) refl

  -- one more input waits behind the others
  pub given : StaysSound → (bytes : List ℕ) → 1 ≤ length bytes → length bytes ≤ ENTRY_BYTES → AreBytes bytes → length k.inputs ≢ WAITING_INPUTS →
      (after : Rest) × Holds (record k { inputs = k.inputs ++ bytes ∷ [] }) accepted m after (input w bytes)
  given law bytes some most are room =
      let has = fits room in
      let is : input w bytes ≡ record w { now = record w.now { inputs = k.inputs ++ bytes ∷ [] } } = rw (has, same_inputs) refl in
      let sound = law w (Input (record { items = bytes })) (some, most) are h.sound in (
        record rest { inputs = k.inputs ++ bytes ∷ [] },
        subst (λ (v : World). Holds (record k { inputs = k.inputs ++ bytes ∷ [] }) accepted m (record rest { inputs = k.inputs ++ bytes ∷ [] }) v) (sym is)
            (holds_with (k.inputs ++ bytes ∷ []) (subst (λ (v : World). whole.IsSound v) is sound)),
      )

  -- none more waits where there is no room
  pub not_given : (bytes : List ℕ) → length k.inputs ≡ WAITING_INPUTS → (after : Rest) × Holds k accepted m after (input w bytes)
  not_given bytes is =
      let none : input w bytes ≡ w = rw (full is) refl in
      (rest, subst (λ (v : World). Holds k accepted m rest v) (sym none) h)

  -- whether there is room or not
  pub input_given : {A B : Type 0} → StaysSound → (bytes : List ℕ) → 1 ≤ length bytes → length bytes ≤ ENTRY_BYTES → AreBytes bytes → (result : Result A B) → (inputs : List (List ℕ)) →
      (IsErr result ↔ (length k.inputs ≡ WAITING_INPUTS)) → OnErr result (inputs ≡ k.inputs) → OnOk result (inputs ≡ k.inputs ++ bytes ∷ []) →
      (after : Rest) × Holds (record k { inputs = inputs }) accepted m after (input w bytes)
  input_given law bytes some most are (Ok value) inputs full err ok = rw ok (given law bytes some most are (λ is. let no = full.1 is in absurd (cc)))
  input_given law bytes some most are (Err error) inputs full err ok = rw err (not_given bytes (full.0 refl))

-- A world without its inputs is sound.
sound_without : (w : World) → whole.IsSound w → whole.IsSound (without_inputs w)
unfolding has_page
sound_without w h =
    let t : State = record w.now { inputs = [] } in
    let fixed = h.fixed.0 in
    let room = h.room in
    record {
      placed = (placed_alike w.now t refl refl refl h.placed.0, h.placed.1);
      present = (present_alike w.now t refl refl refl h.present.0, h.present.1);
      in_range = (h.in_range.0, h.in_range.1);
      forms = (h.forms.0, h.forms.1);
      names = (names_alike w.now t refl h.names.0, h.names.1);
      apart = (record { in_range = h.apart.0.in_range; once = h.apart.0.once; apart = h.apart.0.apart }, h.apart.1);
      fixed = (
        record { root = fixed.root; scheduler = fixed.scheduler; outputs = fixed.outputs; pages = fixed.pages; input = fixed.input; above = fixed.above },
        h.fixed.1,
      );
      entries = (
        record { entries = h.entries.0.entries; channels = h.entries.0.channels; inputs = All-nil IsEntry; waiting = omega arith },
        h.entries.1,
      );
      pages = (h.pages.0, h.pages.1);
      threads = (has_threads w.now t refl (of_threads w.now h.threads.0), h.threads.1);
      order = record { released = h.order.released; saved = h.order.saved };
      room = record {
        now = record { accepted = room.now.accepted; ring = room.now.ring; count = room.now.count };
        saved = record { accepted = room.saved.accepted; ring = room.saved.ring; count = room.saved.count };
        version = room.version;
      };
      saved = record { swept = h.saved.swept; objects = h.saved.objects; pages = h.saved.pages };
      tracked = tracked_still w [] w.released h.tracked;
    }

pub dropped : (k : Calls) (accepted : List ℕ) (m : Memory) (rest : Rest) (w : World) → Holds k accepted m rest w →
    (after : Rest) × Holds (record k { inputs = [] }) accepted m after (without_inputs w)
dropped k accepted m rest w h = (record rest { inputs = [] }, holds_with k accepted m rest w h [] (sound_without w h.sound))
