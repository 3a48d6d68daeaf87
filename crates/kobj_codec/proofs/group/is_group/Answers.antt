use Rattle.kobj_codec.proofs.Groups.{group_in_range, caps_of}
use Rattle.kobj_codec.proofs.group.is_group.Goals as goal

pub returns : goal.returns
returns c =
    let e = c.are_caps.ensures in
    (λ yes. group_in_range c.args.group.now e.size (e.caps.0 yes), λ g. e.caps.1 (caps_of c.args.group.now g))
