use Rattle.object_root.proofs.RoomLaws.{objects_fenced}
use Rattle.object_root.proofs.roots.Roots.fenced.Goals as goal

pub returns-clause-shows : goal.returns-clause-shows
returns-clause-shows c = λ f g v saved next fence h. objects_fenced
    (rw (c.after_fence.ensures, c.phase.ensures) at c.pass.ensures) fence h
