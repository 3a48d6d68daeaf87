use Rattle.cow_fault.proofs.fault.step.Goals as goal

pub returns-in-Fresh-clause-shows : goal.returns-in-Fresh-clause-shows
returns-in-Fresh-clause-shows c = λ saved now phase h. c.zero.ensures.shows c.args.version saved now phase h

pub returns-in-Protected-clause-shows : goal.returns-in-Protected-clause-shows
returns-in-Protected-clause-shows c = λ saved now phase h. c.copy_step.ensures.shows c.args.version saved now phase h
