use Rattle.std.proofs.Common.{ℕ, ◌<◌, All, get_or}
use Rattle.sls_base.specs.declared.image.Program.{Program}
use Rattle.sls_base.specs.declared.image.RegionSpec.{RegionSpec}
use Rattle.plain_laws.specs.Bounds.{AreBytes}
use Rattle.kernel_machine.proofs.images.image_is_of_bytes.Given as goal

abbrev pub invariant-loop-program : goal.invariant-loop-program
invariant-loop-program l =
    (k : ℕ) → k < l.program-index → (d : Program)
    → All (λ (spec : RegionSpec). AreBytes spec.content.items) (get_or l.image.programs.items k d).regions.items
