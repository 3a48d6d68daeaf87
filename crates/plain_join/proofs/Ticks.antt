-- Ticks of joined worlds.
use Rattle.std.specs.Prelude.{◌≡◌, ℕ, Bool, if◌then◌else◌, Option, Some}
use Rattle.std.proofs.Common.{refl, ap, sym, subst}
use Rattle.sls_base.specs.declared.limits.TheConstants.{CORE_SLICE}
use Rattle.sls_base.specs.declared.image.Image.{Image}
use Rattle.sls_kernel.specs.declared.thread.Status.{Status}
use Rattle.sls_kernel.specs.declared.thread.Status.TheVariants.{Ready as IsReady, Running as IsRunning, Stopped as HasStopped}
use Rattle.sls_kernel.specs.Plain.{World as ProgramWorld, Outcome, accepted_count, ticked_by, sliced, is_stopped, instruction as program_instruction, tick as program_tick}
use Rattle.sls_kernel.specs.Program.{IsOfCode}
use Rattle.plain_state.specs.declared.label.Reply.TheVariants.{Retired, Idle, Wished}
use Rattle.plain_model.specs.Worlds.{World}
use Rattle.plain_model.specs.Ticks.{Chosen, own_or_front, ticked, tick, reply_for, tick_reply, effect_for, world_of_effect}
use Rattle.plain_join.specs.Joined.{IsJoined, MakesKnownCall, queue_of, occupant_of}
use Rattle.plain_join.proofs.Effects.{chosen_with, state_is, never_wishes}
use Rattle.plain_join.proofs.Worlds.{code_world, joined_is, joined}
use Rattle.plain_join.proofs.Instructions.{instruction_gives}

module _ (v : ProgramWorld) (stored changed : ℕ → Bool) (known : MakesKnownCall v.now) where
  abbrev world : World
  world = code_world v stored changed

  -- whom the core runs, by what the thread does
  abbrev choice : Status → Option Chosen
  choice status = own_or_front (occupant_of status) (queue_of status)

  abbrev outcome : Outcome
  outcome = program_instruction (accepted_count v) v.now

  abbrev world_after : ℕ → World
  world_after slice = world_of_effect world 0 (chosen_with slice) (effect_for world (chosen_with slice))

  abbrev program_ticked : Status → ProgramWorld
  program_ticked status = record v { now = ticked_by (accepted_count v) v.now status }

  ran : (image : Image) (slice : ℕ) → IsOfCode image → IsJoined image (record v { now = sliced v.now slice outcome }) (world_after slice)
  ran image slice code =
      let now = state_is v.now outcome (effect_for world (chosen_with slice)) slice (instruction_gives v stored changed known) in
      joined image (record v { now = sliced v.now slice outcome }) (world_after slice) code now refl refl (λ channel. refl) refl

  code_ticked : (image : Image) (status : Status) → IsOfCode image → IsJoined image (program_ticked status) (ticked world 0 (choice status))
  code_ticked image IsReady code = ran image CORE_SLICE code
  code_ticked image (IsRunning slice) code = ran image slice code
  code_ticked image (HasStopped cause) code = joined image v world code refl refl refl (λ channel. refl) refl

  retired : (slice : ℕ) → reply_for world (Some (chosen_with slice)) ≡ Retired
  retired slice =
      let quiet = never_wishes v.now outcome (effect_for world (chosen_with slice)) (instruction_gives v stored changed known) in
      ap (λ (wishes : Bool). if wishes then Wished else Retired) quiet

  replied : (status : Status) → reply_for world (choice status) ≡ (if is_stopped status then Idle else Retired)
  replied IsReady = retired CORE_SLICE
  replied (IsRunning slice) = retired slice
  replied (HasStopped cause) = refl

  code_reply : tick_reply world 0 ≡ (if is_stopped v.now.thread.status then Idle else Retired)
  code_reply = replied v.now.thread.status

pub tick_joined : (image : Image) (v : ProgramWorld) (w : World) → IsOfCode image → MakesKnownCall v.now → IsJoined image v w
    → IsJoined image (program_tick v) (tick w 0)
tick_joined image v w code known h =
    subst (λ (u : World). IsJoined image (program_tick v) (tick u 0)) (sym (joined_is image v w code h))
    (code_ticked v w.stored w.changed known image v.now.thread.status code)

pub reply_joined : (image : Image) (v : ProgramWorld) (w : World) → IsOfCode image → MakesKnownCall v.now → IsJoined image v w
    → tick_reply w 0 ≡ (if is_stopped v.now.thread.status then Idle else Retired)
reply_joined image v w code known h =
    subst (λ (u : World). tick_reply u 0 ≡ (if is_stopped v.now.thread.status then Idle else Retired))
    (sym (joined_is image v w code h)) (code_reply v w.stored w.changed known)
