use Rattle.std.proofs.Common.{ℕ, subst, sym, Option}
use Rattle.page_store.specs.Stages.{stage_of}
use Rattle.page_store.specs.Shows.{PageShows}
use Rattle.page_store.proofs.Places.{page_owner}
use Rattle.page_store.proofs.PageLaws.{page_calm, page_fenced, page_stands, page_commits, page_reads}
use Rattle.page_store.proofs.laws.page_versions.Goals as goal

pub returns-clause-calm : goal.returns-clause-calm
returns-clause-calm c = λ s f g v saved now phase calm h. record {
  at = h.at;
  each = λ page lt. page_calm (λ word own. calm.at word (page_owner page word lt own)) (h.each page lt);
}

pub returns-clause-fenced : goal.returns-clause-fenced
returns-clause-fenced c = λ s f g v saved now phase fence h. record {
  at = h.at;
  each = λ page lt. page_fenced (λ word own. fence.at word (page_owner page word lt own)) (h.each page lt);
}

pub returns-clause-stands : goal.returns-clause-stands
returns-clause-stands c = λ s f left v saved now phase may h. record {
  each = λ page lt. page_stands (λ word own. may.at word (page_owner page word lt own)) (h.each page lt);
}

pub returns-clause-commits : goal.returns-clause-commits
returns-clause-commits c = λ s f left v saved now done may h. record {
  each = λ page lt. page_stands (λ word own. may.at word (page_owner page word lt own))
      (page_commits (stage_of s page) (done page lt) (h.each page lt));
}

pub returns-clause-reads : goal.returns-clause-reads
returns-clause-reads c = λ s f v saved now phase page content j lt in_frame is h.
    page_reads (now page) content j is in_frame (h.each page lt)

pub returns-clause-same : goal.returns-clause-same
returns-clause-same c = λ s f v saved now same next phase e h. record {
  at = h.at;
  each = λ page lt.
      subst (λ (x : Option (ℕ → ℕ)). PageShows (stage_of s page) f v page x (next page) phase) (sym (e page lt).0)
      (subst (λ (x : Option (ℕ → ℕ)). PageShows (stage_of s page) f v page (saved page) x phase) (sym (e page lt).1)
      (h.each page lt));
}
