use Rattle.std.proofs.Common.{refl}
use Rattle.plain_model.specs.Worlds.{accepted_count}
use Rattle.saved_state.proofs.PutBack.{state_put_back, saved_again}
use Rattle.saved_state.proofs.laws.parts_are_running_objects.Goals as goal

pub returns-clause-state : goal.returns-clause-state
returns-clause-state c = λ o base accepted p s h put.
    state_put_back c.records_stand_for_objects.ensures.object c.records_stand_for_objects.ensures.state o base accepted p s h put

pub returns-clause-saved : goal.returns-clause-saved
returns-clause-saved c = λ o p s w h in_range room put.
    saved_again c.records_stand_for_objects.ensures.object c.records_stand_for_objects.ensures.state o w.base (accepted_count w) p s h put
    c.records_tell_slots.ensures.slot c.untold_stays_in_range.ensures.decoded c.records_tell_tables.ensures.strays c.lists_are_apart.ensures.scheduler in_range w refl refl room
