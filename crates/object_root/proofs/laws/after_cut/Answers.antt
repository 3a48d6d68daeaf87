use Rattle.object_root.proofs.RoomLaws.{objects_cut}
use Rattle.object_root.proofs.laws.after_cut.Goals as goal

pub returns : goal.returns
returns c = λ r p f g v saved next after phase version idle cut h. objects_cut after phase version idle cut h
