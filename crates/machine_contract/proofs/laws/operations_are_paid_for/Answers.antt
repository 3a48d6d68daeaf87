use Rattle.machine_contract.proofs.Paid.{booted_paid, plays_paid}
use Rattle.machine_contract.proofs.laws.operations_are_paid_for.Goals as goal

pub returns-clause-booted : goal.returns-clause-booted
returns-clause-booted g c = booted_paid

pub returns-clause-plays : goal.returns-clause-plays
returns-clause-plays g c = λ events answers old k new h shows.
    let T = g.M.Machine in
    plays_paid T.format T.seen T.shows events answers old k new h (g.met.M.Machine.is_shown old k shows).sound
