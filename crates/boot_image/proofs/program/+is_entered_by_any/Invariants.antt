use Rattle.std.proofs.Common.{length}
use Rattle.boot_image.proofs.program.+is_entered_by_any.Given as goal

abbrev pub decreases-is_entered_by_any : goal.decreases-is_entered_by_any
decreases-is_entered_by_any l = length l.specs.now
