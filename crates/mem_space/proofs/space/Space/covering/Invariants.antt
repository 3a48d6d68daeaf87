use Rattle.std.proofs.Common.{◌≡◌, drop}
use Rattle.std.specs.List.{find}
use Rattle.mem_space.specs.Region.{covers_with}
use Rattle.mem_space.proofs.space.Space.covering.Given as goal

abbrev pub invariant-loop-region : goal.invariant-loop-region
invariant-loop-region l =
    find (covers_with l.at l.right) l.self.regions.items ≡ find (covers_with l.at l.right) (drop l.region-index l.self.regions.items)
