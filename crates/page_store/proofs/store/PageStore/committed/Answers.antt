use Rattle.std.proofs.Common.{ℕ, sym, subst}
use Rattle.page_store.specs.Stages.{stage_of, after}
use Rattle.page_store.specs.Known.{Open}
use Rattle.page_store.specs.Shows.{PageShows}
use Rattle.page_store.specs.declared.stage.PageStage.{PageStage}
use Rattle.page_store.proofs.Moves.{stage_later, at_later}
use Rattle.page_store.proofs.PageLaws.{page_commits}
use Rattle.page_store.proofs.store.PageStore.committed.Goals as goal

pub returns-clause-stages : goal.returns-clause-stages
returns-clause-stages c = λ v next at page lt. stage_later c.args.self.now.entries c.args.self.now.version c.args.version v page next at lt

pub returns-clause-shows : goal.returns-clause-shows
returns-clause-shows c = λ f v saved now next done h. record {
  at = at_later c.args.self.now.entries c.args.self.now.version c.args.version v next h.at;
  each = λ page lt.
      subst (λ (u : PageStage). PageShows u f c.args.version page (now page) (now page) Open)
      (sym (stage_later c.args.self.now.entries c.args.self.now.version c.args.version v page next h.at lt))
      (subst (λ (w : ℕ). PageShows (after (stage_of c.args.self.now page)) f w page (now page) (now page) Open) (sym next)
      (page_commits (stage_of c.args.self.now page) (done page lt) (h.each page lt)));
}
