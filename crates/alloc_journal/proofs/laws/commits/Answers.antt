use Rattle.std.proofs.Common.{◌≡◌, ◌+◌, ap, refl, true}
use Rattle.alloc_journal.specs.Sets.{has}
use Rattle.alloc_journal.specs.Work.{as_committed, is_logged}
use Rattle.alloc_journal.proofs.ShowLemmas.{numbers_commit, numbers_stand}
use Rattle.alloc_journal.proofs.laws.commits.Goals as goal

pub returns-clause-shows : goal.returns-clause-shows
returns-clause-shows c = numbers_commit

pub returns-clause-exact : goal.returns-clause-exact
returns-clause-exact c = λ w n inside. refl

pub returns-clause-once : goal.returns-clause-once
returns-clause-once c = λ w e. let is : is_logged w.stage ≡ true = ap is_logged e in rw is refl

pub returns-clause-stands : goal.returns-clause-stands
returns-clause-stands c = λ w f left v saved e may h. numbers_stand (as_committed w) f left (v + 1) (has w.logged) may
    (numbers_commit w f v saved e h)
