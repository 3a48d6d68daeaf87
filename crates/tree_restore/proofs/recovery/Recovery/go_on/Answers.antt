use Rattle.std.proofs.Common.{◌≡◌, ◌∙◌, ℕ, true, inl, inr, subst, sym, true≢false}
use Rattle.std.proofs.lemmas.Bool.{cases_Bool}
use Rattle.pmem_model.specs.Memory.{word_at}
use Rattle.alloc_journal.specs.Work.{is_redo}
use Rattle.page_store.specs.Back.{RecoveryShows}
use Rattle.tree_restore.proofs.Turns.{ends_at_rest}
use Rattle.tree_restore.proofs.recovery.Recovery.go_on.Goals as goal

pub returns-then-not-is_redone-clause-shows : goal.returns-then-not-is_redone-clause-shows
returns-then-not-is_redone-clause-shows c = λ v saved h.
    let old = c.args.self.now in
    let f = word_at c.args.nvm.now in
    let g = word_at c.redo_step.new.nvm in
    let step = c.redo_step.ensures in
    let redo : is_redo old.numbers.work.stage ≡ true = elim (cases_Bool (is_redo old.numbers.work.stage)) [
      | inl so ↦ so
      | inr over ↦ absurd (true≢false (sym (c.is_redone.ensures.1 over) ∙ c.if-not-is_redone.true))
    ] in
    c.rooms_are_apart.ensures.numbers old c.redo_step.new.self f g v saved step.rest h (step.shows v saved.numbers h.numbers)
    (record { running = step.running; log = λ done. ends_at_rest old.numbers.work c.redo_step.new.self.work f g redo step.redoes done })

pub returns-then-not-is_cleared-clause-shows : goal.returns-then-not-is_cleared-clause-shows
returns-then-not-is_cleared-clause-shows c = λ v saved h.
    let step = c.clear_step.ensures in
    c.rooms_are_apart.ensures.objects c.args.self.now c.clear_step.new.self (word_at c.args.nvm.now) (word_at c.clear_step.new.nvm) v saved step.rest h
    (λ next. step.shows v saved.objects next (h.objects next))
    (record {
      idle = λ i. step.stages i ∙ h.cleared.idle i;
      records = step.ends (λ none. true≢false (sym (c.is_cleared.ensures.1 none) ∙ c.if-not-is_cleared.true));
    })

pub returns-else-not-is_cleared-clause-shows : goal.returns-else-not-is_cleared-clause-shows
returns-else-not-is_cleared-clause-shows c = λ v saved h.
    let old = c.args.self.now in
    let f = word_at c.args.nvm.now in
    let g = word_at c.step.new.nvm in
    let at : c.version.result ≡ v = c.version.ensures.version ∙ h.numbers.version_is in
    c.rooms_are_apart.ensures.pages old c.step.new.self f g v saved c.step.ensures.rest h
    (subst (λ (n : ℕ). RecoveryShows old.pages f n saved.pages → RecoveryShows c.step.new.self g n saved.pages) at (c.step.ensures.shows saved.pages) h.pages)
