-- The number of cores: no label changes it.
use Rattle.std.specs.Prelude.{◌≡◌, ℕ, ◌-◌, List, None, length}
use Rattle.std.proofs.Common.{◌∙◌}
use Rattle.std.proofs.lemmas.List.{length-set, length-map, length-replicate}
use Rattle.sls_base.specs.declared.image.Image.{Image}
use Rattle.plain_state.specs.declared.label.Label.{Label}
use Rattle.plain_model.specs.States.{State}
use Rattle.plain_model.specs.Worlds.{World}
use Rattle.plain_model.specs.Effects.{Effect}
use Rattle.plain_model.specs.Ticks.{Chosen, on_core, at_slice_end, effect_for, state_of_effect}
use Rattle.plain_model.specs.Sweep.{kept_on_core, swept}
use Rattle.plain_model.specs.Play.{after, play}
use Rattle.plain_model.specs.Initial.{first_world}
use Rattle.plain_laws.specs.Plays.{Both}
use Rattle.plain_laws.specs.Bounds.{HasCores}
use Rattle.plain_laws.proofs.Walk.{played}
use Rattle.plain_laws.proofs.WalkStates.{AnyLabel, both_after}

pub effect_keeps_cores : (s : State) (core : ℕ) (c : Chosen) (e : Effect) → length (state_of_effect s core c e).cores ≡ length s.cores
unfolding state_of_effect
effect_keeps_cores s core c e = length-set s.cores core (on_core c.occupant.thread (c.occupant.slice - 1) (at_slice_end (c.occupant.slice - 1) e.goes))

pub sweep_keeps_cores : (s : State) → length (swept s).cores ≡ length s.cores
sweep_keeps_cores s = length-map s.cores (kept_on_core s)

pub stays_with_cores : (w : World) (label : Label) (cores : ℕ) → Both (HasCores cores) w → Both (HasCores cores) (after w label)
stays_with_cores w label cores h = both_after (HasCores cores) AnyLabel w (record {
  ticks = λ core c passes e. effect_keeps_cores w.now core c (effect_for w c) ∙ h.0;
  sweeps = sweep_keeps_cores w.now ∙ h.0;
  cuts = h.1;
  inputs = λ bytes passes room. h.0;
}) h label tt

pub always_with_cores : (image : Image) (cores : ℕ) (labels : List Label) → Both (HasCores cores) (play (first_world image cores) labels)
always_with_cores image cores labels =
    let first : length (first_world image cores).now.cores ≡ cores = length-replicate cores None in
    played (Both (HasCores cores)) (λ w label. stays_with_cores w label cores) (first_world image cores) labels (first, first)
