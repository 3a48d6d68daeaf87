use Rattle.std.proofs.Common.{refl}
use Rattle.pmem_model.specs.Events.{calm_same, calm_then, flush_calm, fenced_of, write_back_calm, marked_word}
use Rattle.pmem_model.specs.Words.{flushes, writes_back}
use Rattle.pmem_model.proofs.laws.what_is_known.Goals as goal

pub returns-clause-calm_events : goal.returns-clause-calm_events
returns-clause-calm_events c = record {
  flush = λ f core at count i. flush_calm f (flushes core at count f) core at count (λ k. refl) i;
  fence = λ f core i. fenced_of core (f i);
  write_back = λ f chosen i. write_back_calm f (writes_back chosen f) chosen (λ k. refl) i;
  burst = λ f at count value i out. rw out (calm_same (f i) (f i) refl);
  both = calm_then;
}

pub returns-clause-in_flight : goal.returns-clause-in_flight
returns-clause-in_flight c = λ f core k at count i x inside is. rw inside (marked_word core k (f i) x is)
