-- A kernel that is a world as a whole, before a tick and after it.
use Rattle.std.specs.Prelude.{◌≡◌, ℕ, ◌+◌, ◌<◌, ◌||◌, Bool, true, if◌then◌else◌, List, [], drop, length, is_some, Option, Some, None, option_map, slice_get, slice_index_or}
use Rattle.std.proofs.Common.{refl, ap, sym, ◌∙◌, subst}
use Rattle.sls_base.specs.declared.fixed.TheConstants.{FIRST_OUTPUT_RING, SCHEDULER}
use Rattle.pmem_model.specs.Memory.{Memory}
use Rattle.plain_state.specs.declared.label.Label.{Label}
use Rattle.plain_state.specs.declared.label.Label.TheVariants.{Tick}
use Rattle.plain_state.specs.States.{State}
use Rattle.plain_state.specs.Worlds.{World, accepted_count, has_page}
use Rattle.plain_state.specs.Effects.{Effect}
use Rattle.plain_state.specs.declared.label.Reply.TheVariants.{Idle}
use Rattle.plain_state.specs.Ticks.{Chosen, chosen, state_of_effect, ticked, tick, reply_for, tick_reply}
use Rattle.plain_model.specs.Play as play
use Rattle.plain_model.specs.MayStep.{MayStep}
use Rattle.plain_laws.specs.Places.{IsPlaced}
use Rattle.plain_laws.specs.Bounds.{HasBytes, HasEntries, HasRoom, HasThreads}
use Rattle.plain_laws.specs.Fixed.{HasFixedObjects}
use Rattle.plain_laws.specs.Laws.{AreInRange}
use Rattle.plain_laws.specs.Sound.{AreApart, HaveForms, NameWhatIs}
use Rattle.plain_laws.specs.Whole as whole
use Rattle.kobj_table.specs.declared.objects.Objects.{Objects}
use Rattle.kobj_table.specs.Slots.{cores_of, is_scheduler}
use Rattle.kobj_table.specs.Objects.{Rest, slot_at, state_of, HasNoStrays}
use Rattle.call_readings.specs.declared.numbers.NumbersInUse.{NumbersInUse}
use Rattle.call_readings.specs.Kernel.{world_of, CountsEntries, IsCounted, IsAttached, IsOfWorld}
use Rattle.out_gate.specs.Entries.{EntriesStand}
use Rattle.kernel_calls.specs.declared.calls.Calls.{Calls}
use Rattle.kernel_calls.specs.Kernel.{Holds, devices_of}
use Rattle.kernel_calls.specs.Instructions.{Finds, HasRings, HeldOver, IsNow}
use Rattle.kernel_calls.proofs.Contents.{ring_same}
use Rattle.kernel_calls.proofs.Entries.{entries_kept}

-- Before.

module _ (k : Calls) (accepted : List ℕ) (m : Memory) (rest : Rest) (w : World) (h : Holds k accepted m rest w) where
  pub its_world : world_of k.runtime.objects rest w ≡ w
  unfolding world_of
  its_world = ap (λ (s : State). record w { now = s }) (sym h.now)

  pub is_found : IsOfWorld k.runtime.objects k.runtime.numbers (devices_of accepted k.inputs) m rest w
  is_found = record {
    counted = subst (λ (v : World). IsCounted k.runtime.numbers v) (sym its_world) h.counted;
    attached = subst (λ (v : World). IsAttached k.runtime.objects (devices_of accepted k.inputs) v) (sym its_world) h.attached;
    content = h.content;
    threads = subst (λ (s : State). HasThreads s) h.now h.sound.threads.0;
  }

  entries_in_form : HasEntries (state_of k.runtime.objects rest)
  entries_in_form = subst (λ (s : State). HasEntries s) h.now h.sound.entries.0

  pub all_found : Finds k.runtime (devices_of accepted k.inputs) (slice_index_or k.inputs 0 []) m rest w
  unfolding state_of
  all_found = record {
    found = is_found;
    first = ap (λ (inputs : List (List ℕ)). slice_index_or inputs 0 []) (sym h.inputs);
    inputs = entries_in_form.inputs;
    entries = h.entries;
    room = subst (λ (s : State). HasRoom w s) h.now h.sound.room.now;
  }

  fixed_stand : HasFixedObjects (state_of k.runtime.objects rest)
  fixed_stand = subst (λ (s : State). HasFixedObjects s) h.now h.sound.fixed.0

  pub rings_stand : HasRings k.runtime.objects
  unfolding state_of
  rings_stand content channel below = ring_same rest.content content k.runtime.objects (FIRST_OUTPUT_RING + channel) channel (fixed_stand.outputs channel below)

  unfoldable pub is_held_over : HeldOver k.runtime (devices_of accepted k.inputs) (slice_index_or k.inputs 0 []) m
  is_held_over = record {
    held = record {
      world = w;
      rest = rest;
      counted = is_found.counted;
      sound = record {
        placed = subst (λ (s : State). IsPlaced s) h.now h.sound.placed.0;
        range = subst (λ (s : State). AreInRange s) h.now h.sound.in_range.0;
        forms = subst (λ (s : State). HaveForms s) h.now h.sound.forms.0;
        names = subst (λ (s : State). NameWhatIs s) h.now h.sound.names.0;
      };
      scheduler = h.scheduler;
      strays = h.strays;
    };
    found = all_found;
    apart = subst (λ (s : State). AreApart s) h.now h.sound.apart.0;
    rings = rings_stand;
  }

-- After.

-- A world that differs from another in what was stored and changed since the last commit alone.
record IsTicked (v w : World) : Type 0 where
  now : w.now ≡ v.now
  saved : w.saved ≡ v.saved
  base : w.base ≡ v.base
  released : w.released ≡ v.released

still_counted : (numbers : NumbersInUse) (v w : World) → IsTicked v w → IsCounted numbers v → IsCounted numbers w
still_counted numbers v w is h = record {
  objects = λ i. h.objects i ∙ ap (λ (s : State). is_some (s.objects i) || is_some (v.saved.objects i)) (sym is.now)
      ∙ ap (λ (s : State). is_some (w.now.objects i) || is_some (s.objects i)) (sym is.saved);
  pages = λ page. h.pages page ∙ ap (λ (s : State). has_page s page || has_page v.saved page) (sym is.now)
      ∙ ap (λ (s : State). has_page w.now page || has_page s page) (sym is.saved);
}

still_counts : (o : Objects) (v w : World) → IsTicked v w → ((id : ℕ) → CountsEntries (slot_at o id) v) → (id : ℕ) → CountsEntries (slot_at o id) w
still_counts o v w is rings id =
    entries_kept (slot_at o id) w v
    (λ channel. ap (λ (base : ℕ → ℕ). base channel + length (w.now.out channel)) is.base ∙ ap (λ (s : State). v.base channel + length (s.out channel)) is.now) (rings id)

-- a tick saves nothing, and no entry is accepted in it

saved_stays : (w : World) (core : ℕ) (c : Option Chosen) → (ticked w core c).saved ≡ w.saved
saved_stays w core None = refl
saved_stays w core (Some c) = refl

base_stays : (w : World) (core : ℕ) (c : Option Chosen) → (ticked w core c).base ≡ w.base
base_stays w core None = refl
base_stays w core (Some c) = refl

released_stays : (w : World) (core : ℕ) (c : Option Chosen) → (ticked w core c).released ≡ w.released
released_stays w core None = refl
released_stays w core (Some c) = refl

-- so the entries that wait stand as they stood
entries_stay : (content : ℕ → ℕ → ℕ) (out : ℕ → List (List ℕ)) (w : World) (core : ℕ) (c : Option Chosen) → EntriesStand content w out → EntriesStand content (ticked w core c) out
entries_stay content out w core None stand = stand
entries_stay content out w core (Some c) stand = stand

accepted_stays : (w : World) (core : ℕ) (c : Option Chosen) (channel : ℕ) → accepted_count (ticked w core c) channel ≡ accepted_count w channel
accepted_stays w core None channel = refl
accepted_stays w core (Some c) channel = refl

-- the law that each label keeps a world sound
abbrev pub StaysSound : Type 0
StaysSound = (w : World) (label : Label) → MayStep w label → HasBytes label → whole.IsSound w → whole.IsSound (play.after w label)

module _ (law : StaysSound) (k n : Calls) (accepted : List ℕ) (old new : Memory) (rest next : Rest) (w : World) (core : ℕ)
    (h : Holds k accepted old rest w) (below : core < length (cores_of (slot_at k.runtime.objects SCHEDULER))) where
  is_core : core < length w.now.cores
  unfolding state_of
  is_core = subst (λ (s : State). core < length s.cores) (sym h.now) below

  input_waits : IsNow n.runtime new next w (tick w core).now → n.inputs ≡ next.inputs → option_map length (slice_get n.inputs 0) ≡ option_map length (slice_get (tick w core).now.inputs 0)
  unfolding state_of
  input_waits is inputs = ap (λ (l : List (List ℕ)). option_map length (slice_get l 0)) (inputs ∙ ap (λ (s : State). s.inputs) is.state)

  -- what a tick leaves is the world after it
  pub holds_after : IsNow n.runtime new next w (tick w core).now → n.inputs ≡ next.inputs → is_scheduler (slot_at n.runtime.objects SCHEDULER) ≡ true → HasNoStrays n.runtime.objects →
      Holds n accepted new next (tick w core)
  unfolding world_of
  holds_after is inputs scheduler strays =
      let same : IsTicked (world_of n.runtime.objects next w) (tick w core) = record {
        now = sym is.state;
        saved = saved_stays w core (chosen w.now core);
        base = base_stays w core (chosen w.now core);
        released = released_stays w core (chosen w.now core);
      } in
      record {
        now = sym is.state;
        sound = law w (Tick core) is_core tt h.sound;
        counted = still_counted n.runtime.numbers (world_of n.runtime.objects next w) (tick w core) same is.counted;
        attached = record {
          rings = still_counts n.runtime.objects (world_of n.runtime.objects next w) (tick w core) same is.rings;
          accepted = λ channel there. h.attached.accepted channel there ∙ sym (accepted_stays w core (chosen w.now core) channel);
          input = input_waits is inputs;
        };
        inputs = inputs;
        content = is.content;
        entries = entries_stay next.content next.out w core (chosen w.now core) is.entries;
        scheduler = scheduler;
        strays = strays;
      }

-- the inputs that are left
pub inputs_left : (o t : Objects) (rest after : Rest) (core : ℕ) (c : Chosen) (e : Effect) (takes : Bool) (inputs left : List (List ℕ)) → state_of o after ≡ state_of_effect (state_of t rest) core c e →
    takes ≡ e.takes → inputs ≡ rest.inputs → left ≡ (if takes then drop 1 inputs else inputs) → left ≡ after.inputs
unfolding state_of state_of_effect
inputs_left o t rest after core c e takes inputs left state same wait is =
    is ∙ ap (λ (b : Bool). if b then drop 1 inputs else inputs) same ∙ ap (λ (l : List (List ℕ)). if e.takes then drop 1 l else l) wait ∙ sym (ap (λ (s : State). s.inputs) state)

-- A core that has no thread to run.

module _ (k n : Calls) (accepted : List ℕ) (m : Memory) (rest : Rest) (w : World) (core : ℕ) (h : Holds k accepted m rest w) (none : chosen (state_of k.runtime.objects rest) core ≡ None) where
  pub none_chosen : chosen w.now core ≡ None
  none_chosen = ap (λ (s : State). chosen s core) h.now ∙ none

  idle_now : n.runtime.objects ≡ k.runtime.objects → n.runtime.numbers ≡ k.runtime.numbers → IsNow n.runtime m rest w (tick w core).now
  idle_now same numbers =
      let found = is_found k accepted m rest w h in
      record {
        state = ap (λ (o : Objects). state_of o rest) same ∙ sym h.now ∙ sym (ap (λ (c : Option Chosen). (ticked w core c).now) none_chosen);
        counted = rw (numbers, same) found.counted;
        rings = rw same found.attached.rings;
        content = h.content;
        entries = h.entries;
      }

  pub holds_idle : StaysSound → core < length (cores_of (slot_at k.runtime.objects SCHEDULER)) → n.runtime.objects ≡ k.runtime.objects → n.runtime.numbers ≡ k.runtime.numbers → n.inputs ≡ k.inputs →
      (after : Rest) × Holds n accepted m after (tick w core)
  holds_idle law below same numbers inputs = (
    rest,
    holds_after law k n accepted m m rest rest w core h below (idle_now same numbers) (inputs ∙ h.inputs) (rw same h.scheduler) (rw same h.strays),
  )

  pub replies_idle : Idle ≡ tick_reply w core
  replies_idle = sym (ap (λ (c : Option Chosen). reply_for w c) none_chosen)
