use Rattle.std.proofs.Common.{◌+◌, ℕ, subst, sym}
use Rattle.pmem_model.specs.Memory.{word_at}
use Rattle.pmem_model.specs.Events.{IsCut}
use Rattle.alloc_journal.specs.Sets.{has}
use Rattle.alloc_journal.specs.Work.{as_committed}
use Rattle.alloc_journal.specs.Format.{NumbersStand}
use Rattle.alloc_journal.proofs.ShowLemmas.{cut_clean_word, cut_stands, numbers_commit}
use Rattle.alloc_journal.proofs.numbers.Numbers.cut_and_recover.Goals as goal

pub returns-clause-same : goal.returns-clause-same
returns-clause-same c = λ saved h.
    let f = word_at c.args.nvm.now in let g = word_at c.cut.new.self in
    let cut : IsCut f g = record { at = c.cut.ensures.words } in
    c.recover.ensures.shows saved (λ i own. cut_clean_word f g cut i)
    (cut_stands c.args.self.work f g c.args.version saved cut h)

pub returns-clause-next : goal.returns-clause-next
returns-clause-next c = λ v saved e at h.
    let f = word_at c.args.nvm.now in let g = word_at c.cut.new.self in
    let cut : IsCut f g = record { at = c.cut.ensures.words } in
    let w = c.args.self.work in
    let stand = cut_stands (as_committed w) f g (v + 1) (has w.logged) cut (numbers_commit w f v saved e h) in
    c.recover.ensures.shows (has w.logged) (λ i own. cut_clean_word f g cut i)
    (subst (λ (n : ℕ). NumbersStand (λ i. (g i).durable) n (has w.logged)) (sym at) stand)
