use Rattle.std.proofs.Common.{◌≡◌, ℕ, take}
use Rattle.std.specs.Prelude.{◌||◌, ◌==◌}
use Rattle.std.specs.List.{list_any}
use Rattle.mem_space.specs.declared.region.Region.{Region}
use Rattle.tree_walk.specs.Reached.{has}
use Rattle.tree_walk.specs.Walk.{Continues}
use Rattle.tree_walk.proofs.walk.Walk.find_mapped.Given as goal

abbrev pub invariant-loop-region : goal.invariant-loop-region
invariant-loop-region l = record {
  reached : (i : ℕ) → has l.self.reached i ≡ (has l.initial.self.reached i || list_any (λ (region : Region). region.memory == i) (take l.region-index l.regions));
  found : Continues l.initial.self.found.items l.self.found.items;
}
