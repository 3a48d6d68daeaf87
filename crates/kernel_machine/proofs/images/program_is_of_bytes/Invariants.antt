use Rattle.std.proofs.Common.{ℕ, ◌<◌, get_or}
use Rattle.sls_base.specs.declared.image.RegionSpec.{RegionSpec}
use Rattle.plain_laws.specs.Bounds.{AreBytes}
use Rattle.kernel_machine.proofs.images.program_is_of_bytes.Given as goal

abbrev pub invariant-loop-region : goal.invariant-loop-region
invariant-loop-region l =
    (k : ℕ) → k < l.region-index → (d : RegionSpec) → AreBytes (get_or l.program.regions.items k d).content.items
