use Rattle.object_root.proofs.RoomLaws.{object_stands_both}
use Rattle.object_root.proofs.laws.both_versions.Goals as goal

pub returns : goal.returns
returns c = λ r f v id saved next left lt is tagged may h. object_stands_both left id lt is tagged may h
