use Rattle.std.proofs.Common.{◌≡◌, ℕ, ◌∙◌, subst, sym}
use Rattle.pmem_model.specs.Memory.{word_at}
use Rattle.pmem_model.specs.Events.{IsCut}
use Rattle.alloc_journal.specs.Format.{NumbersStand}
use Rattle.alloc_journal.specs.Shows.{NumbersShow}
use Rattle.alloc_journal.proofs.ShowLemmas.{cut_clean_word, cut_stands}
use Rattle.alloc_journal.proofs.history.cut.Goals as goal

pub returns-clause-shows : goal.returns-clause-shows
returns-clause-shows c = λ v saved h.
    let f = word_at c.args.nvm.now in let g = word_at c.cut.new.self in
    let cut : IsCut f g = record { at = c.cut.ensures.words } in
    let at : c.version-version.result ≡ v = c.version-version.ensures.version ∙ h.version_is in
    let stand = cut_stands c.args.numbers.now.work f g v saved cut h in
    subst (λ (n : ℕ). NumbersShow c.recover.result.work g n saved) at
    (c.recover.ensures.shows saved (λ i own. cut_clean_word f g cut i)
    (subst (λ (n : ℕ). NumbersStand (λ i. (g i).durable) n saved) (sym at) stand))
