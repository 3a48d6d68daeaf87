use Rattle.machine_contract.proofs.Hands.{begun_sound}
use Rattle.machine_contract.proofs.laws.beginning_is_sound.Goals as goal

pub returns : goal.returns
returns c = begun_sound
