use Rattle.page_store.specs.Stages.{stage_of}
use Rattle.page_store.proofs.Stored.{page_runs}
use Rattle.page_store.proofs.laws.stored_pages_run.Goals as goal

pub returns : goal.returns
returns c = λ s f g v saved now test noted only h. record {
  at = h.at;
  each = λ page lt. page_runs only (stage_of s page) v page (saved page) now lt (noted page lt) (h.each page lt);
}
