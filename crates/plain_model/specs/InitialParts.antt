-- Parts of the state that an image begins with.
use Rattle.std.specs.Prelude.{ℕ, ◌+◌, List, [], ◌∷◌, ◌++◌, map, Option}
use Rattle.std.specs.List.{range_with_len}
use Rattle.sls_base.specs.declared.limits.TheConstants.{OUTPUT_CHANNELS}
use Rattle.sls_base.specs.declared.fixed.TheConstants.{ROOT_GROUP, FIRST_OUTPUT_RING, INPUT_RING}
use Rattle.sls_base.specs.declared.image.Program.{Program}
use Rattle.plain_state.specs.declared.objects.Capability.{Capability}
use Rattle.plain_state.specs.Objects.{Object, OutputRing, InputRing, Scheduler}
use Rattle.plain_model.specs.Initial.{all_rights, if_set, root_group}

-- those of a program's capabilities that come before its memory objects and its threads
abbrev pub channel_caps : Program → ℕ → List (Option Capability)
channel_caps p n =
    all_rights n ∷ all_rights (n + 1)
    ∷ map (λ channel. if_set p channel (FIRST_OUTPUT_RING + channel)) (range_with_len 0 OUTPUT_CHANNELS)
    ++ if_set p OUTPUT_CHANNELS INPUT_RING ∷ if_set p (OUTPUT_CHANNELS + 1) ROOT_GROUP ∷ []

-- the objects that are no program's
abbrev pub fixed_objects : List Program → List Object
fixed_objects ps = root_group ps ∷ Scheduler ∷ map OutputRing (range_with_len 0 OUTPUT_CHANNELS) ++ InputRing ∷ []
