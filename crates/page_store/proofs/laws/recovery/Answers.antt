use Rattle.page_store.proofs.Places.{page_owner}
use Rattle.page_store.proofs.BackLaws.{back_calm, back_stands}
use Rattle.page_store.proofs.laws.recovery.Goals as goal

pub returns-clause-calm : goal.returns-clause-calm
returns-clause-calm c = λ r f g v saved calm h. record {
  at = h.at;
  each = λ page lt. back_calm (λ word own. calm.at word (page_owner page word lt own)) (h.each page lt);
  done = h.done;
  full = h.full;
}

pub returns-clause-stands : goal.returns-clause-stands
returns-clause-stands c = λ r f left v saved may h. record {
  each = λ page lt. back_stands (λ word own. may.at word (page_owner page word lt own)) (h.each page lt);
}
