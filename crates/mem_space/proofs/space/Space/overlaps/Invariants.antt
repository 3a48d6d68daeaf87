use Rattle.std.proofs.Common.{◌≡◌, false, take}
use Rattle.std.specs.List.{list_any}
use Rattle.mem_space.specs.Region.{shares_pages}
use Rattle.mem_space.proofs.space.Space.overlaps.Given as goal

abbrev pub invariant-loop-region : goal.invariant-loop-region
invariant-loop-region l = list_any (shares_pages l.base l.count) (take l.region-index l.self.regions.items) ≡ false
