use Rattle.object_root.proofs.RoomLaws.{objects_calm, objects_fenced, objects_stand, objects_commit, objects_stand_next}
use Rattle.object_root.proofs.laws.room.Goals as goal

pub returns-clause-calm : goal.returns-clause-calm
returns-clause-calm c = λ r f g v saved next calm h. objects_calm calm h

pub returns-clause-fenced : goal.returns-clause-fenced
returns-clause-fenced c = λ r p f g v saved next passes fence h. objects_fenced passes fence h

pub returns-clause-stands : goal.returns-clause-stands
returns-clause-stands c = λ r f v saved next left may h. objects_stand left may h

pub returns-clause-commits : goal.returns-clause-commits
returns-clause-commits c = λ r p f v saved next after is tagged phase version idle h.
    objects_commit after is tagged phase version idle h

pub returns-clause-stands_next : goal.returns-clause-stands_next
returns-clause-stands_next c = λ r f v saved next left is tagged may h. objects_stand_next left is tagged may h
