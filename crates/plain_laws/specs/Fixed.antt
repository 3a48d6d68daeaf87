-- The objects that are always there.
use Rattle.std.specs.Prelude.{◌≡◌, ℕ, ◌+◌, ◌<◌, ◌≤◌, Bool, true, false, [], ◌∷◌, Option, Some}
use Rattle.sls_base.specs.declared.limits.TheConstants.{OUTPUT_CHANNELS}
use Rattle.sls_base.specs.declared.fixed.TheConstants.{ROOT_GROUP, SCHEDULER, FIRST_OUTPUT_RING, INPUT_RING, FIRST_PROGRAM_OBJECT}
use Rattle.plain_state.specs.declared.objects.Kind.TheVariants.{GroupKind}
use Rattle.plain_model.specs.Objects.{Object, OutputRing, InputRing, Scheduler, is_kind, page_numbers}
use Rattle.plain_model.specs.States.{State}

-- an object of which there are no more than those that are always there
abbrev pub is_single : Option Object → Bool
is_single (Some (OutputRing channel)) = true
is_single (Some InputRing) = true
is_single (Some Scheduler) = true
is_single _ = false

-- The root group, the scheduler, the output rings of the channels, each with the page of its number, and the input
-- ring stand at their numbers. Above them there is neither a ring nor a scheduler.
pub record HasFixedObjects (s : State) : Type 0 where
  pub root : is_kind GroupKind (s.objects ROOT_GROUP) ≡ true
  pub scheduler : s.objects SCHEDULER ≡ Some Scheduler
  pub outputs : (channel : ℕ) → channel < OUTPUT_CHANNELS
      → s.objects (FIRST_OUTPUT_RING + channel) ≡ Some (OutputRing channel)
  pub pages : (channel : ℕ) → channel < OUTPUT_CHANNELS
      → page_numbers (s.objects (FIRST_OUTPUT_RING + channel)) ≡ channel ∷ []
  pub input : s.objects INPUT_RING ≡ Some InputRing
  pub above : (i : ℕ) → FIRST_PROGRAM_OBJECT ≤ i → is_single (s.objects i) ≡ false
