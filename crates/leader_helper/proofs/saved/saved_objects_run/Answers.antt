use Rattle.leader_helper.proofs.Runs.{runs}
use Rattle.leader_helper.proofs.saved.saved_objects_run.Goals as goal

pub returns : goal.returns
returns c o rest pages w sound now saved = runs o rest pages w sound now saved
