use Rattle.std.proofs.Common.{◌≡◌, refl, arith}
use Rattle.plain_state.specs.Sweep.{is_within}
use Rattle.plain_state.proofs.SlowSweeps.{none_entered}
use Rattle.plain_state.proofs.sweep.Reached.first.Goals as goal

pub loop-id-init : goal.loop-id-init
loop-id-init c = record { whole = refl; told = none_entered 256 }

pub returns : goal.returns
unfolding is_within
returns c =
    let all : c.loop-id.id ≡ 7 = omega (arith, c.loop-id-test.false) in
    λ s i below. rw all at c.loop-id.invariant.told i
