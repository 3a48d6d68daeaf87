-- Inputs that wait are read nowhere.
use Rattle.std.proofs.Common.{◌≡◌, ℕ, zero, suc, ◌≤◌, ◌&&◌, ◌||◌, not, Bool, if◌then◌else◌, List, map, filter, Option, Some, None, option_map, refl, ap, sym, ◌∙◌, subst}
use Rattle.std.specs.List.{list_any}
use mathlib.Core.Path.{fun_ext}
use Rattle.sls_base.specs.declared.causes.TheConstants.{LOST_OBJECT}
use Rattle.sls_base.specs.declared.limits.TheConstants.{OBJECTS}
use Rattle.sls_base.specs.declared.thread.ThreadState.{ThreadState}
use Rattle.sls_base.specs.declared.thread.ThreadState.TheVariants.{Ready, Running, Waiting, Calling, Served, Serving, Stopped}
use Rattle.plain_state.specs.declared.objects.Capability.{Capability}
use Rattle.plain_state.specs.declared.objects.Occupant.{Occupant}
use Rattle.plain_model.specs.Objects.{Object, Group, Thread, Space, Memory, Connection, Notification, OutputRing, InputRing, Scheduler, every_object}
use Rattle.plain_model.specs.States.{State}
use Rattle.plain_model.specs.Worlds.{has_page}
use Rattle.plain_model.specs.Sweep.{leads_to, is_within, is_reached, swept, settled, waits_for, is_lost, kept, kept_on_core, thread_on}
use Rattle.plain_laws.specs.Places.{threads_in, times}
use Rattle.plain_laws.specs.Sound.{NamesObject, NamesWhatIs}
use Rattle.plain_laws.specs.Bounds.{IsStateOf}
use Rattle.object_records.specs.Records.{state_of_records}
use Rattle.object_records.specs.Ranges.{IsSoundState}
use Rattle.durable_state.specs.Parts.{Parts}
use Rattle.saved_state.specs.State.{ArePartsOf}

module _ (s : State) (inputs : List (List ℕ)) where
  abbrev with_inputs : State
  with_inputs = record s { inputs = inputs }

  -- What is sound.

  same_place : (place : ThreadState) → threads_in with_inputs place ≡ threads_in s place
  same_place Ready = refl
  same_place (Running core) = refl
  same_place (Waiting id) = refl
  same_place (Calling id) = refl
  same_place (Served id) = refl
  same_place (Serving id) = refl
  same_place (Stopped cause) = refl

  same_slot : (cap : Option Capability) → NamesObject s cap → NamesObject with_inputs cap
  same_slot None names = names
  same_slot (Some cap) names = names

  same_names : (o : Option Object) → NamesWhatIs s o → NamesWhatIs with_inputs o
  same_names (Some (Group slots)) names = λ k d inside. same_slot _ (names k d inside)
  same_names (Some (Thread thread)) names = names
  same_names (Some (Space regions)) names = names
  same_names (Some (Memory pages)) names = names
  same_names (Some (Connection server client clients)) names = names
  same_names (Some (Notification count waiters)) names = names
  same_names (Some (OutputRing channel)) names = names
  same_names (Some InputRing) names = names
  same_names (Some Scheduler) names = names
  same_names None names = names

  same_state : (state : ThreadState) → IsStateOf s state → IsStateOf with_inputs state
  same_state Ready is = is
  same_state (Running core) is = is
  same_state (Waiting id) is = is
  same_state (Calling id) is = is
  same_state (Served id) is = is
  same_state (Serving id) is = is
  same_state (Stopped cause) is = is

  still_sound : IsSoundState s → IsSoundState with_inputs
  still_sound h = record {
    placed = record {
      once = λ place id. subst (λ (ids : List ℕ). times id ids ≤ 1) (sym (same_place place)) (h.placed.once place id);
      does = λ place id stands. h.placed.does place id (subst (λ (ids : List ℕ). 1 ≤ times id ids) (same_place place) stands);
    };
    present = record {
      stands = λ id place e names. subst (λ (ids : List ℕ). 1 ≤ times id ids) (sym (same_place place)) (h.present.stands id place e names);
      serves = h.present.serves;
      slices = h.present.slices;
    };
    in_range = h.in_range;
    forms = h.forms;
    names = λ i. same_names (s.objects i) (h.names i);
    apart = record { in_range = h.apart.in_range; once = h.apart.once; apart = h.apart.apart };
    fixed = record {
      root = h.fixed.root;
      scheduler = h.fixed.scheduler;
      outputs = h.fixed.outputs;
      pages = h.fixed.pages;
      input = h.fixed.input;
      above = h.fixed.above;
    };
    threads = λ i thread e. (let is = h.threads i thread e in record {
      pc = is.pc;
      aligned = is.aligned;
      count = is.count;
      each = is.each;
      zero = is.zero;
      state = same_state thread.state is.state;
    });
  }

  -- What the sweep leaves.

  same_within : (n : ℕ) → is_within with_inputs n ≡ is_within s n
  unfolding is_within
  same_within zero = refl
  same_within (suc n) = ap {B = ℕ → Bool} (λ (set : ℕ → Bool) (i : ℕ). set i || list_any (λ from. set from && leads_to (s.objects from) i) every_object) (same_within n)

  same_reached : is_reached with_inputs ≡ is_reached s
  unfolding is_reached
  same_reached = same_within OBJECTS

  same_lost : (id : Option ℕ) → is_lost with_inputs id ≡ is_lost s id
  same_lost None = refl
  same_lost (Some id) = ap (λ (set : ℕ → Bool). not (set id)) same_reached

  same_kept : (ids : List ℕ) → filter (is_reached with_inputs) ids ≡ filter (is_reached s) ids
  same_kept ids = ap (λ (set : ℕ → Bool). filter set ids) same_reached

  same_settled : (object : Object) → settled with_inputs object ≡ settled s object
  same_settled (Thread thread) =
      ap (λ (lost : Bool). Thread (record { group = thread.group; space = thread.space; state = if lost then Stopped LOST_OBJECT else thread.state; pc = thread.pc; x = thread.x })) (same_lost (waits_for thread.state))
  same_settled (Connection server client clients) =
      ap (λ (lost : Bool). Connection server (if lost then None else client) (filter (is_reached with_inputs) clients)) (same_lost client)
      ∙ ap (λ (ids : List ℕ). Connection server (kept s client) ids) (same_kept clients)
  same_settled (Notification count waiters) = ap (λ (ids : List ℕ). Notification count ids) (same_kept waiters)
  same_settled (Group slots) = refl
  same_settled (Space regions) = refl
  same_settled (Memory pages) = refl
  same_settled (OutputRing channel) = refl
  same_settled InputRing = refl
  same_settled Scheduler = refl

  same_there : (object : Option Object) → option_map (settled with_inputs) object ≡ option_map (settled s) object
  same_there None = refl
  same_there (Some object) = ap (λ (o : Object). Some o) (same_settled object)

  same_left : (i : ℕ) → (swept with_inputs).objects i ≡ (swept s).objects i
  same_left i =
      ap (λ (set : ℕ → Bool). if set i then option_map (settled with_inputs) (s.objects i) else None) same_reached
      ∙ ap (λ (o : Option Object). if is_reached s i then o else None) (same_there (s.objects i))

  same_core : (core : Option Occupant) → kept_on_core with_inputs core ≡ kept_on_core s core
  same_core core = ap (λ (lost : Bool). if lost then None else core) (same_lost (thread_on core))

  made_of : (ℕ → Option Object) → List ℕ → List (Option Occupant) → State
  made_of objects queue cores = record { objects = objects; queue = queue; cores = cores; out = s.out; inputs = inputs }

  same_swept : swept with_inputs ≡ record (swept s) { inputs = inputs }
  unfolding made_of
  same_swept =
      ap (λ (objects : ℕ → Option Object). made_of objects (swept with_inputs).queue (swept with_inputs).cores) (fun_ext same_left)
      ∙ (ap (λ (queue : List ℕ). made_of (swept s).objects queue (swept with_inputs).cores) (same_kept s.queue)
      ∙ ap (λ (on : Option Occupant → Option Occupant). made_of (swept s).objects (swept s).queue (map on s.cores)) (fun_ext same_core))

  pub inputs_are_free : (base accepted : ℕ → ℕ) (p : Parts) → ArePartsOf base accepted p s → ArePartsOf base accepted p (record s { inputs = inputs })
  unfolding state_of_records has_page
  inputs_are_free base accepted p h = record {
    state = ap (λ (x : State). record x { inputs = inputs }) h.state;
    sound = still_sound h.sound;
    swept = same_swept ∙ ap (λ (x : State). record x { inputs = inputs }) h.swept;
    cores = h.cores;
    none = h.none;
    used_objects = h.used_objects;
    used_pages = h.used_pages;
    pages = h.pages;
    rings = h.rings;
    channels = h.channels;
  }
