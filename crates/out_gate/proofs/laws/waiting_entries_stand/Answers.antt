use Rattle.out_gate.proofs.Waiting.{beside_rings, next_stands, one_less, one_more, same_pages}
use Rattle.out_gate.proofs.laws.waiting_entries_stand.Goals as goal

pub returns-clause-put : goal.returns-clause-put
returns-clause-put c content w out channel entry some most room waiting = one_more content w out channel entry some most room waiting

pub returns-clause-accepted : goal.returns-clause-accepted
returns-clause-accepted c content w out channel waiting = one_less content w out channel waiting

pub returns-clause-offered : goal.returns-clause-offered
returns-clause-offered c content w out channel below part offered waiting = next_stands content w out channel below part offered waiting

pub returns-clause-pages : goal.returns-clause-pages
returns-clause-pages c first second w out same waiting = same_pages first second w out same waiting

pub returns-clause-stored : goal.returns-clause-stored
returns-clause-stored c content w out page at bytes apart waiting = beside_rings content w out page at bytes apart waiting
