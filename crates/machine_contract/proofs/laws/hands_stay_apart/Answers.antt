use Rattle.machine_contract.proofs.Apart.{booted_apart, plays_apart}
use Rattle.machine_contract.proofs.laws.hands_stay_apart.Goals as goal

pub returns-clause-booted : goal.returns-clause-booted
returns-clause-booted g c = booted_apart

pub returns-clause-plays : goal.returns-clause-plays
returns-clause-plays g c = λ events answers old k new h shows.
    let T = g.M.Machine in
    plays_apart T.format T.seen T.shows events answers old k new h (g.met.M.Machine.is_shown old k shows).sound
