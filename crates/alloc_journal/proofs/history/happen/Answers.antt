use Rattle.std.proofs.Common.{◌≡◌, ◌∙◌, ap, subst, sym}
use Rattle.pmem_model.specs.Memory.{word_at}
use Rattle.pmem_model.specs.Events.{write_back_calm}
use Rattle.pmem_layout.specs.Owners.{owner}
use Rattle.alloc_journal.specs.declared.history.Event.{Event}
use Rattle.alloc_journal.specs.Events.{IsPossible}
use Rattle.alloc_journal.specs.Work.{Work}
use Rattle.alloc_journal.specs.Shows.{NumbersShow}
use Rattle.alloc_journal.proofs.Words.{stored_apart, flush_in_calm, fence_in_calm}
use Rattle.alloc_journal.proofs.ShowLemmas.{numbers_calm, once_other}
use Rattle.alloc_journal.proofs.history.happen.Goals as goal

pub returns-then-not-is_logged-clause-shows : goal.returns-then-not-is_logged-clause-shows
returns-then-not-is_logged-clause-shows c = λ v saved h.
    c.apply_step.ensures.shows v saved
    (subst (λ (w : Work). NumbersShow w (word_at c.args.nvm.now) v saved)
    (once_other c.args.numbers.now.work (λ e. let z = c.is_logged.ensures.1 e in cc)) h)

pub returns-in-WriteBack-clause-shows : goal.returns-in-WriteBack-clause-shows
returns-in-WriteBack-clause-shows c = λ v saved h.
    let f = word_at c.args.nvm.now in let g = word_at c.write_back.new.self in
    numbers_calm c.args.numbers.now.work f g v saved
    (record { at = λ i own. write_back_calm f g _ c.write_back.ensures.words i }) h

pub returns-in-Flush-clause-shows : goal.returns-in-Flush-clause-shows
returns-in-Flush-clause-shows c = λ v saved h.
    let f = word_at c.args.nvm.now in let g = word_at c.flush.new.self in
    numbers_calm c.args.numbers.now.work f g v saved
    (flush_in_calm f g c.in-Flush.core c.line_at.result 8 c.flush.ensures.words) h

pub returns-in-Fence-clause-shows : goal.returns-in-Fence-clause-shows
returns-in-Fence-clause-shows c = λ v saved h.
    let f = word_at c.args.nvm.now in let g = word_at c.fence.new.self in
    numbers_calm c.args.numbers.now.work f g v saved (fence_in_calm f g c.in-Fence.core c.fence.ensures.words) h

pub returns-in-Store-clause-shows : goal.returns-in-Store-clause-shows
returns-in-Store-clause-shows c = λ v saved h.
    let f = word_at c.args.nvm.now in let g = word_at c.burst.new.self in
    let other = subst (λ (e : Event). IsPossible e) c.in-Store.is c.requires.possible in
    numbers_calm c.args.numbers.now.work f g v saved
    (record {
      at = λ i own. stored_apart f g c.in-Store.at c.in-Store.value i c.burst.ensures.words
          (λ (q : i ≡ c.in-Store.at). other.1 (ap owner (sym q) ∙ own));
    }) h
