use Rattle.std.proofs.Common.{◌≡◌, ◌∙◌, subst, ℕ}
use Rattle.pmem_model.specs.Memory.{word_at}
use Rattle.page_store.specs.Shows.{PagesShow}
use Rattle.version_rooms.proofs.rooms.Rooms.fault_step.Goals as goal

pub returns-clause-shows : goal.returns-clause-shows
returns-clause-shows c = λ phase v cont h.
    let at : c.version.result ≡ v = c.version.ensures.version ∙ h.keep.numbers.version_is in
    c.rooms_are_apart.ensures.pages c.args.self.now c.step.new.pages (word_at c.args.nvm.now) (word_at c.step.new.nvm) v cont cont.pages phase phase c.requires.rest c.step.ensures.rest h
    (subst (λ (n : ℕ). PagesShow c.args.self.now.pages (word_at c.args.nvm.now) n cont.saved.pages cont.pages phase → PagesShow c.step.new.pages (word_at c.step.new.nvm) n cont.saved.pages cont.pages phase) at
    (c.step.ensures.shows cont.saved.pages cont.pages phase) h.keep.pages)
