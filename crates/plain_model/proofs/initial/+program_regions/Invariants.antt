use Rattle.std.proofs.Common.{length}
use Rattle.plain_model.proofs.initial.+program_regions.Given as goal

abbrev pub decreases-program_regions : goal.decreases-program_regions
decreases-program_regions l = length l.specs.now
