use Rattle.std.proofs.Common.{inl, ap, refl, arith, length}
use Rattle.machine_contract.specs.Side.{Side}
use Rattle.machine_contract.specs.Courses.{played, labels_of}
use Rattle.machine_contract.specs.Rounds.{rounds}
use Rattle.machine_contract.proofs.Chains.{plays_show}
use Rattle.machine_contract.proofs.Rounded.{left_some, rounds_end}
use Rattle.machine_contract.proofs.laws.rounds_end_a_checkpoint.Goals as goal

pub returns-clause-rounds : goal.returns-clause-rounds
returns-clause-rounds g c = λ count answers old k new h shows some mode closed in_one.
    let T = g.M.Machine in
    rounds_end T.format T.seen T.shows count answers old k new (length (T.seen old).side.cores) h refl some
    (g.met.M.Machine.is_shown old k shows).sound mode closed in_one

pub returns-clause-cost : goal.returns-clause-cost
returns-clause-cost g c = λ w before count answers old k new begins h shows some in_one.
    let T = g.M.Machine in
    let law = g.met.M.Machine.is_shown in
    let events = rounds (length (T.seen old).side.cores) count in
    let last = plays_show T.format T.seen T.shows events answers old k new h shows in
    let sound = (law new (played k (labels_of events answers)) last).sound in
    let left = left_some T.format T.seen T.shows new sound in_one in
    let few = rounds_end T.format T.seen T.shows count answers old k new (length (T.seen old).side.cores) h refl some
    (law old k shows).sound (inl (ap (λ (s : Side). s.mode) begins.rest)) (ap (λ (s : Side). s.is_open) begins.rest)
    in_one in
    let most = begins.left in
    omega arith
