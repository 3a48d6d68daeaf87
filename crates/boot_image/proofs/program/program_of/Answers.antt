use Rattle.std.proofs.Common.{◌≡◌, ℕ, List, length, ap, ◌∙◌, arith}
use Rattle.std.specs.Prelude.{map}
use Rattle.boot_image.specs.Values.{RegionValue, region_value}
use Rattle.boot_image.proofs.ProgramsSaid.{length-regions_at}
use Rattle.boot_image.proofs.program.program_of.Goals as goal

pub returns-clause-few_objects : goal.returns-clause-few_objects
returns-clause-few_objects c =
    let regions : length (map region_value c.in_ok-specs.field-0.specs.items) ≡ c.in_ok-count.count =
    ap (λ (x : List RegionValue × ℕ). length x.0) c.in_ok-specs.ensures.read.1 ∙ length-regions_at c.in_ok-count.count _ in
    omega (arith, regions, c.in_ok-count.ensures.few)
