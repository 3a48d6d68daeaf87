use Rattle.std.proofs.Common.{◌≡◌, length, arith, refl}
use Rattle.kobj_codec.proofs.Lists.{list_in_range}
use Rattle.kobj_codec.proofs.list.is_list.Goals as goal

pub returns : goal.returns
returns c =
    let all : c.loop-i.i ≡ length c.args.ids.now = omega (arith, c.loop-i-test.false, c.loop-i.auto.i-end) in
    (λ _. list_in_range c.args.ids.now c.loop-i.i c.requires all c.loop-i.invariant, λ _. refl)
