use Rattle.std.proofs.Common.{◌+◌, refl}
use Rattle.pmem_model.specs.Words.{bursts, flushes, fences, writes_back, cuts}
use Rattle.pmem_model.specs.Events.{flush_calm, fenced_of, write_back_calm}
use Rattle.pmem_model.specs.Maps.{all_places, known_calm, known_elsewhere, known_fenced, known_flushed, known_burst, known_row, known_copied, known_left, known_cut, known_weaker}
use Rattle.pmem_model.proofs.laws.maps_of_knowledge.Goals as goal

pub returns-clause-outlives : goal.returns-clause-outlives
returns-clause-outlives c = known_calm

pub returns-clause-keeps : goal.returns-clause-keeps
returns-clause-keeps c = record {
  flush = λ core by m f from count. known_calm core m f (flushes by from count f) (all_places _ m (flush_calm f (flushes by from count f) by from count (λ i. refl)));
  fence = λ core by m f. known_calm core m f (fences by f) (all_places _ m (λ p. (fenced_of by (f p)).calm));
  write_back = λ core m f chosen. known_calm core m f (writes_back chosen f) (all_places _ m (write_back_calm f (writes_back chosen f) chosen (λ i. refl)));
  burst = λ core m f from count value off. known_elsewhere core m f (bursts from count value f) from count value (λ i. refl) off;
}

pub returns-clause-burst : goal.returns-clause-burst
returns-clause-burst c = λ core m f from count value. known_burst core m f (bursts from count value f) from count value (λ i. refl)

pub returns-clause-stored : goal.returns-clause-stored
returns-clause-stored c = λ core f from count value. known_row core f (bursts from count value f) from count value (λ i. refl)

pub returns-clause-copied : goal.returns-clause-copied
returns-clause-copied c = λ core k f from to count value. known_copied core k f (bursts to count (λ j. (f (from + j)).cached) f) from to count value (λ i. refl)

pub returns-clause-in_flight : goal.returns-clause-in_flight
returns-clause-in_flight c = λ core m f from count. known_flushed core m f (flushes core from count f) from count (λ i. refl)

pub returns-clause-settles : goal.returns-clause-settles
returns-clause-settles c = known_fenced

pub returns-clause-left : goal.returns-clause-left
returns-clause-left c = known_left

pub returns-clause-clean : goal.returns-clause-clean
returns-clause-clean c = λ core m f. known_cut core m f (cuts f) (λ i. refl)

pub returns-clause-less : goal.returns-clause-less
returns-clause-less c = known_weaker
