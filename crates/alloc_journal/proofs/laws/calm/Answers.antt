use Rattle.alloc_journal.proofs.ShowLemmas.{numbers_calm}
use Rattle.alloc_journal.proofs.laws.calm.Goals as goal

pub returns-clause-calm : goal.returns-clause-calm
returns-clause-calm c = numbers_calm

pub returns-clause-fenced : goal.returns-clause-fenced
returns-clause-fenced c = λ w f g core v saved fenced h. numbers_calm w f g v saved
    (record { at = λ i own. (fenced.at i own).calm }) h
