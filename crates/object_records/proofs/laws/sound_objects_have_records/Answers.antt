use Rattle.object_records.proofs.Recorded.{objects_ranged, threads_ranged}
use Rattle.object_records.proofs.laws.sound_objects_have_records.Goals as goal

pub returns-clause-sound : goal.returns-clause-sound
returns-clause-sound c = λ w s. (
  record { placed = s.placed.0; present = s.present.0; in_range = s.in_range.0; forms = s.forms.0; names = s.names.0; apart = s.apart.0; fixed = s.fixed.0; threads = s.threads.0 },
  record { placed = s.placed.1; present = s.present.1; in_range = s.in_range.1; forms = s.forms.1; names = s.names.1; apart = s.apart.1; fixed = s.fixed.1; threads = s.threads.1 },
)

pub returns-clause-in_range : goal.returns-clause-in_range
returns-clause-in_range c = objects_ranged

pub returns-clause-list : goal.returns-clause-list
returns-clause-list c = threads_ranged
