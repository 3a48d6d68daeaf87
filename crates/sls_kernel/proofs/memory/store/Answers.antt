use Rattle.sls_kernel.proofs.Places.{frame_room}
use Rattle.sls_kernel.proofs.memory.store.Goals as goal

pub burst-requires-clause-inside : goal.burst-requires-clause-inside
burst-requires-clause-inside c = rw c.begin.ensures (frame_room _ _ _ c.requires.some c.requires.inside)
