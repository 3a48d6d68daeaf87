use Rattle.machine_contract.proofs.Labels.{played_world}
use Rattle.machine_contract.proofs.laws.course_is_play.Goals as goal

pub returns : goal.returns
returns c = played_world
