use Rattle.std.proofs.Common.{◌+◌}
use Rattle.alloc_journal.specs.Sets.{has}
use Rattle.alloc_journal.specs.Work.{as_committed}
use Rattle.alloc_journal.proofs.ShowLemmas.{cut_clean_word, cut_stands, numbers_commit}
use Rattle.alloc_journal.proofs.laws.cut.Goals as goal

pub returns-clause-clean : goal.returns-clause-clean
returns-clause-clean c = cut_clean_word

pub returns-clause-stands : goal.returns-clause-stands
returns-clause-stands c = cut_stands

pub returns-clause-next : goal.returns-clause-next
returns-clause-next c = λ w f g v saved e cut h. cut_stands (as_committed w) f g (v + 1) (has w.logged) cut
    (numbers_commit w f v saved e h)
