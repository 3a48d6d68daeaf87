use Rattle.saved_state.specs.State.{content_of}
use Rattle.object_records.specs.Records.{record_at}
use Rattle.saved_state.proofs.Running.{are_parts, untold}
use Rattle.saved_state.proofs.laws.running_objects_are_parts.Goals as goal

pub returns-clause-parts : goal.returns-clause-parts
returns-clause-parts c = λ o rest numbers pages w h used.
    are_parts o rest pages w h numbers used (c.records_stand_for_objects.ensures.state o rest) (c.fresh_pages_are_zero.ensures.state (record_at o) rest (content_of pages))

pub returns-clause-untold : goal.returns-clause-untold
returns-clause-untold c = λ o rest pages w h. untold o rest pages w h (λ i above. c.untold_stays_in_range.ensures.others o rest i h.sound.fixed above)
