use Rattle.std.proofs.Common.{◌∙◌, rules}
use Rattle.kobj_table.specs.Objects.{state_of}
use Rattle.call_readings.proofs.Chooses.{own_thread, front_thread}
use Rattle.call_readings.proofs.need.next_thread.Goals as goal

pub returns-in-Some : goal.returns-in-Some
unfolding state_of
returns-in-Some c rest = own_thread c.running.result _ _ c.in-Some.thread c.in-Some.field-0-1 (c.running.ensures.state rest c.requires.core) (search rules)

pub returns-in-None : goal.returns-in-None
unfolding state_of
returns-in-None c rest = c.first.ensures.first ∙ front_thread c.running.result _ _ (c.running.ensures.state rest c.requires.core) c.in-None.is
