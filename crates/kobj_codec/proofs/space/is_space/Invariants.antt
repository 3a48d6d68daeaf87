use Rattle.kobj_codec.proofs.Spaces.{EndsAt}
use Rattle.kobj_codec.proofs.space.is_space.Given as goal

abbrev pub invariant-loop-region : goal.invariant-loop-region
invariant-loop-region l = EndsAt l.space.regions.items l.region-index l.end
