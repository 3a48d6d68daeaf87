use Rattle.std.proofs.Common.{length}
use Rattle.boot_image.proofs.region.+is_apart_from_all.Given as goal

abbrev pub decreases-is_apart_from_all : goal.decreases-is_apart_from_all
decreases-is_apart_from_all l = length l.others.now
