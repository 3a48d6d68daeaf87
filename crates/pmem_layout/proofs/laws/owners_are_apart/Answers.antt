use Rattle.pmem_layout.proofs.RoomLemmas.{burst_stores}
use Rattle.pmem_layout.proofs.laws.owners_are_apart.Goals as goal

pub returns-clause-burst : goal.returns-clause-burst
returns-clause-burst c = λ o f g at n value burst own. burst_stores burst own
