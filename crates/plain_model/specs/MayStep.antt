-- Which labels may befall a world.
use Rattle.std.specs.Prelude.{◌<◌, ◌≤◌, List, [], ◌∷◌, length}
use Rattle.sls_base.specs.declared.limits.TheConstants.{OUTPUT_CHANNELS, ENTRY_BYTES, LAST_VERSION}
use Rattle.plain_state.specs.declared.label.Label.{Label}
use Rattle.plain_state.specs.declared.label.Label.TheVariants.{Tick, Commit, Cut, Accept, Input}
use Rattle.plain_state.specs.Worlds.{World}
use Rattle.plain_model.specs.Play.{after}

-- a core that there is, a version that isn't the last, a channel that there is, an input of 1 to 56 bytes
abbrev pub MayStep : World → Label → Type 0
MayStep w (Tick core) = core < length w.now.cores
MayStep w Commit = w.version < LAST_VERSION
MayStep w Cut = Unit {0}
MayStep w (Accept channel) = channel < OUTPUT_CHANNELS
MayStep w (Input bytes) = (1 ≤ length bytes.items) × (length bytes.items ≤ ENTRY_BYTES)

-- labels may befall a world one after another
abbrev pub MayPlay : World → List Label → Type 0
MayPlay w [] = Unit {0}
MayPlay w (label ∷ labels) = MayStep w label × MayPlay (after w label) labels
