use Rattle.kernel_calls.proofs.Needed.{pages_there, puts_there, gets_there}
use Rattle.kernel_calls.proofs.need.pages_are_there.Goals as goal

pub returns-clause-instruction : goal.returns-clause-instruction
returns-clause-instruction c k devices m rest w core chosen holds =
    pages_there c.bytes_on_one_page.ensures.covered k devices m rest w core chosen holds
    (record { row = c.one_row.ensures.decoded; in_range = c.one_row.ensures.in_range; plan = c.plans_in_range.ensures.in_range })
    c.bytes_on_one_page.ensures.places

pub returns-clause-put : goal.returns-clause-put
returns-clause-put c k devices m rest w core chosen holds = puts_there c.bytes_on_one_page.ensures.covered k devices m rest w core chosen holds

pub returns-clause-get : goal.returns-clause-get
returns-clause-get c k devices m rest w core chosen holds = gets_there c.bytes_on_one_page.ensures.covered k devices m rest w core chosen holds
