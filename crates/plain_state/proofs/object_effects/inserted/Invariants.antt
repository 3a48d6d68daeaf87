use Rattle.std.proofs.Common.{◌≡◌, ◌++◌, drop, cond}
use Rattle.plain_state.specs.Objects as objects
use Rattle.plain_state.proofs.object_effects.inserted.Given as goal

-- what is there, and what is still to come, are the regions with one more
abbrev pub invariant-loop-other : goal.invariant-loop-other
invariant-loop-other l =
    l.all.items ++ cond l.is_in (drop l.other-index l.regions) (objects.inserted l.region (drop l.other-index l.regions)) ≡ objects.inserted l.region l.regions
