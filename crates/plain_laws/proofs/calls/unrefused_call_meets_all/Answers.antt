use Rattle.plain_laws.proofs.Unrefused.{meets_all}
use Rattle.plain_laws.proofs.calls.unrefused_call_meets_all.Goals as goal

pub returns-clause-needs : goal.returns-clause-needs
returns-clause-needs c = λ w id thread call refusal ne h. (meets_all w id thread call refusal ne h).0

pub returns-clause-besides : goal.returns-clause-besides
returns-clause-besides c = λ w id thread call refusal ne h. (meets_all w id thread call refusal ne h).1
