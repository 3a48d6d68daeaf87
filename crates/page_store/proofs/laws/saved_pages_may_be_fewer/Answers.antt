use Rattle.page_store.specs.Stages.{stage_of}
use Rattle.page_store.proofs.Fewer.{shows_fewer}
use Rattle.page_store.proofs.laws.saved_pages_may_be_fewer.Goals as goal

pub returns : goal.returns
returns c = λ s f v saved now fewer phase less h. record {
  at = h.at;
  each = λ page lt. shows_fewer (stage_of s page) f v page (saved page) (now page) (fewer page) phase (less page lt) (h.each page lt);
}
