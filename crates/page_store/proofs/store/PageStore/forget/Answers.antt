use Rattle.std.proofs.Common.{ℕ, refl, sym, subst, Option, None}
use Rattle.pmem_model.specs.Events.{calm_same}
use Rattle.page_store.specs.Stages.{stage_of}
use Rattle.page_store.specs.Shows.{PageShows, with_page}
use Rattle.page_store.specs.declared.stage.PageStage.TheVariants.{Fresh}
use Rattle.page_store.proofs.Moves.{calm_in_page, step, page_here, page_elsewhere}
use Rattle.page_store.proofs.PageLaws.{page_forgets}
use Rattle.page_store.proofs.store.PageStore.forget.Goals as goal

pub returns-clause-shows : goal.returns-clause-shows
returns-clause-shows c = λ f v saved now phase h.
    let page = c.args.page in
    step v page Fresh saved now (with_page saved page None) (with_page now page None) phase c.enter.ensures
    (calm_in_page page (λ word. calm_same (f word) (f word) refl)) c.requires.page
    (λ i other. (page_elsewhere saved page None i other, page_elsewhere now page None i other)) h
    (subst (λ (x : Option (ℕ → ℕ)). PageShows Fresh f v page x (with_page now page None page) phase) (sym (page_here saved page None))
    (subst (λ (x : Option (ℕ → ℕ)). PageShows Fresh f v page None x phase) (sym (page_here now page None))
    (page_forgets (stage_of c.args.self.now page) c.requires.settled (h.each page c.requires.page))))
