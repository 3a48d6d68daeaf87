use Rattle.plain_laws.proofs.Refused.{refused_answers, refused_tick}
use Rattle.plain_laws.proofs.ticks.refused_call_answers_alone.Goals as goal

pub returns-clause-refused : goal.returns-clause-refused
returns-clause-refused c = refused_answers

pub returns-clause-tick : goal.returns-clause-tick
returns-clause-tick c = refused_tick
