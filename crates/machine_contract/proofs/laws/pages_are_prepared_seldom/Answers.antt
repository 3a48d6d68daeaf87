use Rattle.std.proofs.Common.{subst, ℕ, ◌≤◌}
use Rattle.machine_contract.specs.declared.bounds.TheConstants.{MOST_PREPARES}
use Rattle.machine_contract.proofs.Falls.{spent_in_epoch}
use Rattle.machine_contract.proofs.laws.pages_are_prepared_seldom.Goals as goal

pub returns-clause-counts : goal.returns-clause-counts
returns-clause-counts g c = λ events answers old k new page h turns stays.
    let T = g.M.Machine in (spent_in_epoch T.format T.seen T.shows events answers old k new page h turns stays).0

pub returns-clause-most : goal.returns-clause-most
returns-clause-most g c = λ events answers old k new page h turns stays few.
    let T = g.M.Machine in
    let s = spent_in_epoch T.format T.seen T.shows events answers old k new page h turns stays in
    subst (λ (n : ℕ). n ≤ MOST_PREPARES) s.0 (s.1 few)
