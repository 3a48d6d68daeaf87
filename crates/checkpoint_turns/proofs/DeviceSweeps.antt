-- The sweep is the same whatever inputs wait.
use Rattle.std.specs.Prelude.{◌≡◌, ℕ, zero, suc, ◌||◌, ◌&&◌, not, Bool, if◌then◌else◌, List, map, filter, Option, Some}
use Rattle.std.specs.Prelude.{None, option_map}
use Rattle.std.specs.List.{list_any}
use Rattle.std.proofs.Common.{refl, ap, ◌∙◌}
use mathlib.Core.Path.{fun_ext}
use Rattle.sls_base.specs.declared.causes.TheConstants.{LOST_OBJECT}
use Rattle.sls_base.specs.declared.limits.TheConstants.{OBJECTS}
use Rattle.sls_base.specs.declared.thread.ThreadState.TheVariants.{Stopped}
use Rattle.plain_state.specs.declared.objects.Occupant.{Occupant}
use Rattle.plain_state.specs.Objects.{Object, Group, Thread, Space, Memory, Connection, Notification, OutputRing}
use Rattle.plain_state.specs.Objects.{InputRing, Scheduler, every_object}
use Rattle.plain_state.specs.States.{State}
use Rattle.plain_state.specs.Sweep.{leads_to, is_within, is_reached, swept, settled, waits_for, is_lost, kept}
use Rattle.plain_state.specs.Sweep.{kept_on_core, thread_on}

module _ (s : State) (inputs : List (List ℕ)) where
  abbrev pub with_inputs : State
  with_inputs = record s { inputs = inputs }

  same_within : (n : ℕ) → is_within with_inputs n ≡ is_within s n
  unfolding is_within
  same_within zero = refl
  same_within (suc n) =
      ap {B = ℕ → Bool}
      (λ (set : ℕ → Bool) (i : ℕ). set i || list_any (λ from. set from && leads_to (s.objects from) i) every_object)
      (same_within n)

  same_reached : is_reached with_inputs ≡ is_reached s
  unfolding is_reached
  same_reached = same_within OBJECTS

  same_lost : (id : Option ℕ) → is_lost with_inputs id ≡ is_lost s id
  same_lost None = refl
  same_lost (Some id) = ap (λ (set : ℕ → Bool). not (set id)) same_reached

  same_kept : (ids : List ℕ) → filter (is_reached with_inputs) ids ≡ filter (is_reached s) ids
  same_kept ids = ap (λ (set : ℕ → Bool). filter set ids) same_reached

  same_settled : (object : Object) → settled with_inputs object ≡ settled s object
  same_settled (Thread thread) =
      ap (λ (lost : Bool). Thread (record {
        group = thread.group;
        space = thread.space;
        state = if lost then Stopped LOST_OBJECT else thread.state;
        pc = thread.pc;
        x = thread.x;
      })) (same_lost (waits_for thread.state))
  same_settled (Connection server client clients) =
      ap (λ (lost : Bool).
      Connection server (if lost then None else client) (filter (is_reached with_inputs) clients)) (same_lost client)
      ∙ ap (λ (ids : List ℕ). Connection server (kept s client) ids) (same_kept clients)
  same_settled (Notification count waiters) = ap (λ (ids : List ℕ). Notification count ids) (same_kept waiters)
  same_settled (Group slots) = refl
  same_settled (Space regions) = refl
  same_settled (Memory pages) = refl
  same_settled (OutputRing channel) = refl
  same_settled InputRing = refl
  same_settled Scheduler = refl

  same_there : (object : Option Object) → option_map (settled with_inputs) object ≡ option_map (settled s) object
  same_there None = refl
  same_there (Some object) = ap (λ (o : Object). Some o) (same_settled object)

  same_left : (i : ℕ) → (swept with_inputs).objects i ≡ (swept s).objects i
  same_left i =
      ap (λ (set : ℕ → Bool). if set i then option_map (settled with_inputs) (s.objects i) else None) same_reached
      ∙ ap (λ (o : Option Object). if is_reached s i then o else None) (same_there (s.objects i))

  same_core : (core : Option Occupant) → kept_on_core with_inputs core ≡ kept_on_core s core
  same_core core = ap (λ (lost : Bool). if lost then None else core) (same_lost (thread_on core))

  abbrev made_of : (ℕ → Option Object) → List ℕ → List (Option Occupant) → State
  made_of objects queue cores =
      record { objects = objects; queue = queue; cores = cores; out = s.out; inputs = inputs }

  pub swept_alike : swept with_inputs ≡ record (swept s) { inputs = inputs }
  swept_alike =
      ap (λ (objects : ℕ → Option Object). made_of objects (swept with_inputs).queue (swept with_inputs).cores)
      (fun_ext same_left)
      ∙ (ap (λ (queue : List ℕ). made_of (swept s).objects queue (swept with_inputs).cores) (same_kept s.queue)
      ∙ ap (λ (on : Option Occupant → Option Occupant). made_of (swept s).objects (swept s).queue (map on s.cores))
      (fun_ext same_core))
