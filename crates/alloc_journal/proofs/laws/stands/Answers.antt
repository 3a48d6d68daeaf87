use Rattle.alloc_journal.proofs.ShowLemmas.{numbers_stand}
use Rattle.alloc_journal.proofs.laws.stands.Goals as goal

pub returns : goal.returns
returns c = numbers_stand
