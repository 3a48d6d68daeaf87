use Rattle.object_root.proofs.Progress.{all_nothing}
use Rattle.object_root.proofs.roots.no_progress.Goals as goal

pub returns : goal.returns
returns c = λ id. all_nothing 128 id
